-- By the signs; stars by the tests of the figure.
use mathlib.Core.Bool.{Bool, true, false, cond, not, ◌&&◌, ◌||◌}
use mathlib.Core.List.{◌∷◌}
use mathlib.Core.Path.{◌≡◌, refl}
use Prim.Native.Nat.{ℕ, zero, suc, ◌+◌, ◌*◌, ◌≤◌, ◌<◌}
use native.Mathlib.Omega.{arith}
use borrow.Author.Tests.{ltb-true, eqb-true, leb-false}
use lib.Dec.{T, leb, ltb, eqb}
use lib.IntN.{ℤ}
use lib.ListN.{length}
use lib.Ieee.{Float, nan, inf, fin, up, down, lt, eq, le, below, level}
use lib.Ieee.Scale.{finite}
use Rattle.figures.specs.declared.Printed.{Printed}
use Rattle.figures.specs.Nearest.{nearest}
use Rattle.figures.specs.Figure.{signed_tenths, figure_of}
use Rattle.figures.specs.FigureText.{dash, tenths_text}
use Rattle.figures.proofs.figure_text.Widths.{five-characters}
use Rattle.figure_laws.specs.Jump.{NotAbove, not_above, distance_by_signs}
use Rattle.statement_checks.specs.Figures.{in_full, FiguresAsRead}

-- ---- the order

-- the tests a < b and a = b
least : (a b : ℕ) (l e : Bool) → ltb a b ≡ l → eqb a b ≡ e → T (l || (e && true)) → a ≤ b
least a b true e p q t = let h = ltb-true a b p in omega arith
least a b false true p q t = let h = eqb-true a b q in omega arith
least a b false false p q t = absurd t

both_zero : (a b : ℕ) (e z : Bool) → eqb a b ≡ e → eqb a 0 ≡ z → T (e && z) → (a ≡ 0) × (b ≡ 0)
both_zero a b true true p q t = let h = eqb-true a b p in let k = eqb-true a 0 q in (k, omega arith)
both_zero a b true false p q t = absurd t
both_zero a b false z p q t = absurd t

turned : (a b : ℕ) (l e : Bool) → ltb b a ≡ l → eqb a b ≡ e → T (l || (e && true)) → b ≤ a
turned a b true e p q t = let h = ltb-true b a p in omega arith
turned a b false true p q t = let h = eqb-true a b q in omega arith
turned a b false false p q t = absurd t

by_sign : (s : Bool) (a : ℕ) (t : Bool) (b : ℕ) → T (below s a t b || level s a t b) → not_above s a t b
by_sign false a false b h = least a b (ltb a b) (eqb a b) refl refl h
by_sign false a true b h = both_zero a b (eqb a b) (eqb a 0) refl refl h
by_sign true a false b h = tt
by_sign true a true b h = turned a b (ltb b a) (eqb a b) refl refl h

not-above : (v w : Float) → T (finite v) → T (finite w) → T (le v w) → NotAbove v w
unfolding lt eq le
not-above nan w p q h = absurd p
not-above (inf s) w p q h = absurd p
not-above (fin s m e) nan p q h = absurd q
not-above (fin s m e) (inf t) p q h = absurd q
not-above (fin s m e) (fin t n f) p q h = by_sign s (m * up e * down f) t (n * up f * down e) h

-- ---- the distance

apart-up : (s : Bool) (x y : ℕ) → x ≤ y → x + distance_by_signs s x s y ≡ y
apart-up false x y h = omega arith
apart-up true x y h = omega arith

apart-down : (s : Bool) (x y : ℕ) → y ≤ x → y + distance_by_signs s x s y ≡ x
apart-down false x y h = omega arith
apart-down true x y h = omega arith

apart-across : (s : Bool) (x y : ℕ) → distance_by_signs s x (not s) y ≡ x + y
apart-across false x y = refl
apart-across true x y = refl

-- ---- stars

no-stars : (n : ℕ) → Printed.Tenths n ≡ Printed.Stars → ⊥
no-stars n e = let z : ◌≡◌ {A = ℕ} 0 1 = cc in omega arith

no-stars-minus : (n : ℕ) → Printed.Minus n ≡ Printed.Stars → ⊥
no-stars-minus n e = let z : ◌≡◌ {A = ℕ} 0 1 = cc in omega arith

plus-by : (n : ℕ) (b : Bool) → leb n 9999 ≡ b → cond b (Printed.Tenths n) Printed.Stars ≡ Printed.Stars → 5 < length (tenths_text n)
plus-by n true p e = absurd (no-stars n e)
plus-by n false p e = five-characters.wide n (leb-false n 9999 p)

minus-by : (n : ℕ) (b : Bool) → leb (suc n) 999 ≡ b → cond b (Printed.Minus (suc n)) Printed.Stars ≡ Printed.Stars → 5 < length (dash ∷ tenths_text (suc n))
minus-by n true p e = absurd (no-stars-minus (suc n) e)
minus-by n false p e = five-characters.wide-minus (suc n) (leb-false (suc n) 999 p)

by-tenths : (s : Bool) (n : ℕ) → signed_tenths s n ≡ Printed.Stars → 5 < length (in_full s n)
by-tenths false n e = plus-by n (leb n 9999) refl e
by-tenths true zero e = absurd (no-stars 0 e)
by-tenths true (suc n) e = minus-by n (leb (suc n) 999) refl e

stars : (s : Bool) (m : ℕ) (e : ℤ) → figure_of (fin s m e) ≡ Printed.Stars → 5 < length (in_full s (nearest (10 * m * up e) (down e)))
unfolding figure_of
stars s m e h = by-tenths s (nearest (10 * m * up e) (down e)) h

pub figures-as-read : FiguresAsRead
figures-as-read = record { not-above = not-above; apart-up = apart-up; apart-down = apart-down; apart-across = apart-across; stars = stars }
