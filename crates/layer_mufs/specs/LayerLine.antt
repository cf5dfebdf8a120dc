-- A layer's line, and the E section of `curmuf`. t is the state as `lecden` of the controlling slot leaves it; `find` is the way of finding heights off its profile.
use Rattle.refusal.specs.declared.Refusal.{Refusal}
use Rattle.std.specs.Prelude.{Bool, true, false, pos, Float, Result, Ok, Err}
use Rattle.scalar.specs.F32.{◌+f◌, ◌-f◌, ◌*f◌}
use Rattle.scalar.specs.Literals.{f0, f0_01, f0_1, f1_28, f104_25, f125_3}
use Rattle.scalar.specs.Scalar.{max_of, trunc_of}
use Rattle.constants.specs.Constants.{R2D}
use Rattle.hops.specs.Geometry.{geometry_of}
use Rattle.hops.specs.declared.HopGeometry.{HopGeometry}
use Rattle.heights.specs.Gethp.{Finder, gethp_of}
use Rattle.heights.specs.declared.Heights.{Heights}
use Rattle.layers.specs.State.{profile_only}
use Rattle.layers.specs.declared.IonoState.{IonoState}
use Rattle.layers.specs.declared.LayerMuf.{LayerMuf}
use Rattle.layer_mufs.specs.declared.e_lines.HeightPair.{HeightPair}

unfoldable pub tenth_of : Float → Float
tenth_of muf = max_of (f0_1 *f muf) f0_01

-- all four lines of the hour have this form
unfoldable pub layer_line_of : Float → Float → Float → Float → Float → Float → Float → Float → LayerMuf
layer_line_of sigl sigu del hp ht fv xhops muf =
    record { sigl = sigl; sigu = sigu; delmuf = del *f R2D; hpmuf = hp; htmuf = ht; fvmuf = fv; afmuf = f0; nhopmf = trunc_of xhops; yfot = muf -f f1_28 *f sigl; ymuf = muf; yhpf = muf +f f1_28 *f sigu }

-- a line of +0
unfoldable pub zero_line : LayerMuf
zero_line = record { sigl = f0; sigu = f0; delmuf = f0; hpmuf = f0; htmuf = f0; fvmuf = f0; afmuf = f0; nhopmf = pos 0; yfot = f0; ymuf = f0; yhpf = f0 }

-- the line, of +0 beside a refusal
abbrev pub line_value : Result LayerMuf Refusal → LayerMuf
line_value (Ok m) = m
line_value (Err r) = zero_line

-- of what was read off the profile the two heights
abbrev pub pair_of : Heights → HeightPair
pair_of h = record { hp = h.hp; ht = h.ht }

abbrev pub read_with : Finder → IonoState → Float → HeightPair
read_with find t fx = pair_of (find t fx)

-- the E layer

abbrev pub e_heights_by : Bool → Finder → IonoState → Float → HeightPair
e_heights_by true find t fxe = read_with find t fxe
e_heights_by false find t fxe = record { hp = f125_3; ht = f104_25 }

unfoldable pub e_heights_with : Finder → IonoState → Float → HeightPair
e_heights_with find t fxe = e_heights_by (profile_only t) find t fxe

unfoldable pub e_found_of : HopGeometry → HeightPair → Float → LayerMuf
e_found_of g h fxe =
    let emuf = fxe *f g.secp in
    let sig = tenth_of emuf in
    layer_line_of sig sig g.del h.hp h.ht fxe g.xhops emuf

abbrev pub e_line_by : Result HopGeometry Refusal → HeightPair → Float → Result LayerMuf Refusal
e_line_by (Ok g) h fxe = Ok (e_found_of g h fxe)
e_line_by (Err r) h fxe = Err r

unfoldable pub e_line_with : Finder → IonoState → Float → Float → Float → Result LayerMuf Refusal
e_line_with find t fxe gcdkm amind = let h = e_heights_with find t fxe in e_line_by (geometry_of gcdkm amind h.hp h.ht true) h fxe

abbrev pub e_line_of : IonoState → Float → Float → Float → Result LayerMuf Refusal
e_line_of = e_line_with gethp_of
