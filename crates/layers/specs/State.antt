-- Reading and changing an `IonoState`. States are built here alone, as whole records, so that of all definitions a further field changes only these and the layout of a state as words.
use Rattle.std.specs.Prelude.{Bool, false, List, [], ℕ, ℤ, pos, replicate, get_or, Float, Result, Ok, Err}
use Rattle.std.specs.Float.{nan}
use Rattle.std.specs.Int.Signed.{lt_z}
use Rattle.scalar.specs.Literals.{f0}
use Rattle.refusal.specs.declared.Refusal.{Refusal}
use Rattle.layers.specs.declared.IonoState.{IonoState}
use Rattle.layers.specs.declared.LayerParams.{LayerParams}
use Rattle.layers.specs.declared.LayerMuf.{LayerMuf}
use Rattle.layers.specs.declared.Owner.{Owner}

-- a point past the end of a list, where no code reads
abbrev pub no_layers : LayerParams
no_layers = record { fi = []; yi = []; hi = [] }

-- a line past the end of a layer table, where no code reads
abbrev pub line_past_end : LayerMuf
line_past_end = record { sigl = nan; sigu = nan; delmuf = nan; hpmuf = nan; htmuf = nan; fvmuf = nan; afmuf = nan; nhopmf = pos 0; yfot = nan; ymuf = nan; yhpf = nan }

-- line i of a layer table
abbrev pub layer_line_at : List LayerMuf → ℕ → LayerMuf
layer_line_at layers i = get_or layers i line_past_end

-- `iedp < 0`: the profile alone gives heights
unfoldable pub profile_only : IonoState → Bool
profile_only s = lt_z s.iedp (pos 0)

-- every number +0, nothing set
abbrev pub zero_state : IonoState
zero_state =
    record { fi = replicate 15 f0; yi = replicate 15 f0; hi = replicate 15 f0; km = 0; kfx = 0; htr = replicate 50 f0; fnsq = replicate 50 f0; htr_rises = false; fsecv = replicate 3 f0; iedp = pos 0; ielect = false; owner = Owner.None; exact_virtual_height = false }

abbrev pub with_tables : IonoState → List Float → List Float → List Float → IonoState
with_tables s fi yi hi =
    record { fi = fi; yi = yi; hi = hi; km = s.km; kfx = s.kfx; htr = s.htr; fnsq = s.fnsq; htr_rises = s.htr_rises; fsecv = s.fsecv; iedp = s.iedp; ielect = s.ielect; owner = s.owner; exact_virtual_height = s.exact_virtual_height }

abbrev pub with_km : IonoState → ℕ → IonoState
with_km s km =
    record { fi = s.fi; yi = s.yi; hi = s.hi; km = km; kfx = s.kfx; htr = s.htr; fnsq = s.fnsq; htr_rises = s.htr_rises; fsecv = s.fsecv; iedp = s.iedp; ielect = s.ielect; owner = s.owner; exact_virtual_height = s.exact_virtual_height }

abbrev pub with_kfx : IonoState → ℕ → IonoState
with_kfx s kfx =
    record { fi = s.fi; yi = s.yi; hi = s.hi; km = s.km; kfx = kfx; htr = s.htr; fnsq = s.fnsq; htr_rises = s.htr_rises; fsecv = s.fsecv; iedp = s.iedp; ielect = s.ielect; owner = s.owner; exact_virtual_height = s.exact_virtual_height }

abbrev pub with_profile : IonoState → List Float → List Float → Bool → IonoState
with_profile s htr fnsq rises =
    record { fi = s.fi; yi = s.yi; hi = s.hi; km = s.km; kfx = s.kfx; htr = htr; fnsq = fnsq; htr_rises = rises; fsecv = s.fsecv; iedp = s.iedp; ielect = s.ielect; owner = s.owner; exact_virtual_height = s.exact_virtual_height }

abbrev pub with_fsecv : IonoState → List Float → IonoState
with_fsecv s fsecv =
    record { fi = s.fi; yi = s.yi; hi = s.hi; km = s.km; kfx = s.kfx; htr = s.htr; fnsq = s.fnsq; htr_rises = s.htr_rises; fsecv = fsecv; iedp = s.iedp; ielect = s.ielect; owner = s.owner; exact_virtual_height = s.exact_virtual_height }

abbrev pub with_iedp : IonoState → ℤ → IonoState
with_iedp s iedp =
    record { fi = s.fi; yi = s.yi; hi = s.hi; km = s.km; kfx = s.kfx; htr = s.htr; fnsq = s.fnsq; htr_rises = s.htr_rises; fsecv = s.fsecv; iedp = iedp; ielect = s.ielect; owner = s.owner; exact_virtual_height = s.exact_virtual_height }

abbrev pub with_ielect : IonoState → Bool → IonoState
with_ielect s ielect =
    record { fi = s.fi; yi = s.yi; hi = s.hi; km = s.km; kfx = s.kfx; htr = s.htr; fnsq = s.fnsq; htr_rises = s.htr_rises; fsecv = s.fsecv; iedp = s.iedp; ielect = ielect; owner = s.owner; exact_virtual_height = s.exact_virtual_height }

abbrev pub with_owner : IonoState → Owner → IonoState
with_owner s owner =
    record { fi = s.fi; yi = s.yi; hi = s.hi; km = s.km; kfx = s.kfx; htr = s.htr; fnsq = s.fnsq; htr_rises = s.htr_rises; fsecv = s.fsecv; iedp = s.iedp; ielect = s.ielect; owner = owner; exact_virtual_height = s.exact_virtual_height }

abbrev pub with_exact : IonoState → Bool → IonoState
with_exact s exact =
    record { fi = s.fi; yi = s.yi; hi = s.hi; km = s.km; kfx = s.kfx; htr = s.htr; fnsq = s.fnsq; htr_rises = s.htr_rises; fsecv = s.fsecv; iedp = s.iedp; ielect = s.ielect; owner = s.owner; exact_virtual_height = exact }

-- the state that a caller has after an answer: where the call was refused, the one that it had
abbrev pub state_after : IonoState → Result IonoState Refusal → IonoState
state_after s (Ok t) = t
state_after s (Err r) = s
