-- What Martyn's theorem lacks, made up round after round: the `loop` of the Rust's F1 and F2 sections.
use Rattle.std.specs.Prelude.{Bool, true, false, ℕ, zero, suc, Float}
use Rattle.scalar.specs.F32.{◌+f◌, ◌-f◌, ◌*f◌, ◌/f◌, ◌≤f◌}
use Rattle.scalar.specs.Literals.{f0, f0_1, f2}
use Rattle.scalar.specs.Scalar.{abs_of}
use Rattle.constants.specs.Constants.{RZ}
use Rattle.hops.specs.Geometry.{del_of, sphe_of, secp_of}
use Rattle.hops.specs.declared.Ray.{Ray}
use Rattle.hops.specs.declared.Round.{Round}

unfoldable pub sph_of : Ray → Round → Float
sph_of p t =
    let xhp = (p.hp -f p.ht) /f RZ in
    let xmut = t.sphe *f t.sphe in
    let xfsq = t.fob *f t.fob /f (p.fc *f p.fc) in
    xfsq *f xmut *f xhp *f (p.ht +f f2 *f (RZ +f p.ht) *f xhp)

-- one round: the Rust's fob1 is the frequency of t, its fob2 that of the result
unfoldable pub round_of : Ray → Round → Round
round_of p t =
    let hp = p.hp +f sph_of p t in
    let del = del_of p.psi p.cpsi p.spsi hp in
    let sphe = sphe_of del p.ht in
    let secp = secp_of sphe in
    record { sphe = sphe; fob = p.fx *f secp; del = del; hp = hp }

-- the change is at most 0.1; never so where it is NaN
unfoldable pub settled_of : Float → Float → Bool
settled_of fob2 fob1 = (abs_of (fob2 -f fob1) -f f0_1) ≤f f0

abbrev pub stop_by : Bool → Round → Round → Round
stop_by true t rest = t
stop_by false t rest = rest

-- at most n rounds more
unfoldable pub rounds_of : Ray → ℕ → Round → Round
rounds_of p zero t = t
rounds_of p (suc n) t = let next = round_of p t in stop_by (settled_of next.fob t.fob) next (rounds_of p n next)
