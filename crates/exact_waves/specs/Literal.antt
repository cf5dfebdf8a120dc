-- The literal form: two fractions, a partial sum and the one with the next term, enclose every later partial sum, and both are less than one ulp from the answer.
use Rattle.std.specs.Prelude.{◌*◌, cond, T, Float}
use Rattle.std.specs.Bool.{beq}
use Rattle.std.specs.Float.{nan, inf, fin, binary32}
use Rattle.std.specs.Float.Ieee.{up, down, fits}
use Rattle.scalar.specs.Root.{steps}
use Rattle.exact.specs.Unit.{ulp}
use Rattle.exact.specs.Enclosure.{TwoFractions}
use Rattle.waves.specs.SinCos.{sin_of, cos_of}

-- for finite x and r, the partial sums up to numbers 36 and 37; what else r may be says `NearSin`
abbrev pub LiteralSin : Float → Float → Type 0
LiteralSin (fin s m e) (fin t n f) = TwoFractions 1 3 (m * up e) (down e) 36 (16 * cond (beq s t) (steps (fin t n f)) 0) (16 * cond (beq s t) 0 (steps (fin t n f))) (16 * ulp (fin t n f))
LiteralSin (fin s m e) nan = Unit {0}
LiteralSin (fin s m e) (inf t) = Unit {0}
LiteralSin nan r = Unit {0}
LiteralSin (inf s) r = Unit {0}

-- up to numbers 39 and 40
abbrev pub LiteralCos : Float → Float → Type 0
LiteralCos (fin s m e) (fin t n f) = TwoFractions 0 2 (m * up e) (down e) 39 (16 * cond t 0 (steps (fin t n f))) (16 * cond t (steps (fin t n f)) 0) (16 * ulp (fin t n f))
LiteralCos (fin s m e) nan = Unit {0}
LiteralCos (fin s m e) (inf t) = Unit {0}
LiteralCos nan r = Unit {0}
LiteralCos (inf s) r = Unit {0}

-- ---- the theorems, for every f32
abbrev pub SinLiteral : Type 0
SinLiteral = (x : Float) → T (fits binary32 x) → LiteralSin x (sin_of x)

abbrev pub CosLiteral : Type 0
CosLiteral = (x : Float) → T (fits binary32 x) → LiteralCos x (cos_of x)
