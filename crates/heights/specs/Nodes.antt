-- A Gauss rule of forty nodes, which lie in twenty pairs about the middle, and the heights at which `gethp` reads a density.
use Rattle.std.specs.Prelude.{Bool, true, false, List, [], ◌∷◌, ℕ, ◌-◌, ltb, eqb, Float}
use Rattle.scalar.specs.F32.{◌+f◌, ◌-f◌, ◌*f◌, ◌≥f◌, at}
use Rattle.scalar.specs.Literals.{f0, f0_5, f1}
use Rattle.scalar.specs.Literals.{f0_0387724175, f0_1160840707, f0_1926975807, f0_268152185, f0_3419940908, f0_4137792043, f0_4830758017, f0_5494671251, f0_6125538897, f0_6719566846, f0_7273182552, f0_7783056514, f0_8246122308, f0_8659595032, f0_902098807, f0_9328128083, f0_9579168192, f0_97725995, f0_9907262387, f0_9982377097}

-- XT: how far the nodes of each pair lie from the middle
unfoldable pub xt : List Float
xt =
    f0_0387724175 ∷ f0_1160840707 ∷ f0_1926975807 ∷ f0_268152185 ∷ f0_3419940908 ∷
    f0_4137792043 ∷ f0_4830758017 ∷ f0_5494671251 ∷ f0_6125538897 ∷ f0_6719566846 ∷
    f0_7273182552 ∷ f0_7783056514 ∷ f0_8246122308 ∷ f0_8659595032 ∷ f0_902098807 ∷
    f0_9328128083 ∷ f0_9579168192 ∷ f0_97725995 ∷ f0_9907262387 ∷ f0_9982377097 ∷ []

-- XNPL and TWDIV
abbrev pub xnpl : Float
xnpl = f1

abbrev pub twdiv : Float
twdiv = f0_5

-- the node ig of the half ib: 1 - XT[ig] where ib is 0, else 1 + XT[ig]
abbrev pub zg_by : Bool → Float → Float
zg_by true x = f1 -f x
zg_by false x = f1 +f x

abbrev pub zg_of : ℕ → ℕ → Float
zg_of ig ib = zg_by (eqb ib 0) (at xt ig)

-- its height, where ht is the reflecting height less the lowest one, h0 (NPL is 1)
unfoldable pub height_of : Float → Float → ℕ → ℕ → Float
height_of h0 ht ig ib = let zg = zg_of ig ib in ht *f (f1 -f twdiv *f zg) +f h0

-- ---- the forty nodes in the walk's order: where up (ht >= 0) the half ib = 1 from ig = 19 down, then the half ib = 0 from ig = 0 up; otherwise the half ib = 0 down, then ib = 1 up
abbrev pub ig_by : Bool → ℕ → ℕ
ig_by true k = 19 - k
ig_by false k = k - 20

unfoldable pub ig_at : ℕ → ℕ
ig_at k = ig_by (ltb k 20) k

-- up or not, in the first half of the reads or not
abbrev pub ib_by : Bool → Bool → ℕ
ib_by true true = 1
ib_by true false = 0
ib_by false true = 0
ib_by false false = 1

unfoldable pub ib_at : Bool → ℕ → ℕ
ib_at up k = ib_by up (ltb k 20)

-- the height of read k
unfoldable pub height_at : Float → Float → ℕ → Float
height_at h0 ht k = height_of h0 ht (ig_at k) (ib_at (ht ≥f f0) k)
