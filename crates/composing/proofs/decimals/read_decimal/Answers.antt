-- What follows the sign, with the sign.
use Rattle.std.proofs.Common.{rules}
use mathlib.Core.Path.{◌≡◌, ◌∙◌}
use mathlib.Core.Bool.{false}
use mathlib.Core.List.{List, [], ◌∷◌}
use Prim.Native.Nat.{ℕ, ◌<◌}
use native.Mathlib.Omega.{arith}
use lib.ListN.{length, get_or}
use borrow.Author.Tests.{ne_eqb}
use Rattle.composing.specs.Decimal.{unsigned_of, decimal_read}
use Rattle.composing.proofs.decimals.DigitLists.{tail-whole}
use Rattle.composing.proofs.decimals.read_decimal.Goals.{in_default-via-then-word-lt1, in_default-via-else-word-lt1+in_default-1}
use Rattle.composing.proofs.decimals.read_decimal.Goals as goal

plain : (w : List ℕ) → (get_or w 0 0 ≡ 45 → ⊥) → (get_or w 0 0 ≡ 43 → ⊥) → unsigned_of false w ≡ decimal_read w
unfolding decimal_read
plain w m p = rw (ne_eqb _ _ m, ne_eqb _ _ p)

empty_has : (w : List ℕ) (n : ℕ) → length w < 1 → 0 < n → get_or w 0 0 ≡ n → ⊥
empty_has [] n h p e = omega arith
empty_has (x ∷ w) n h p e = omega arith

pub returns-in-45 : goal.returns-in-45
unfolding decimal_read
returns-in-45 c = let e : get_or c.args.word.now 0 0 ≡ 45 = search rules in c.unsigned.ensures ∙ rw (tail-whole, e)

pub returns-in-43 : goal.returns-in-43
unfolding decimal_read
returns-in-43 c = let e : get_or c.args.word.now 0 0 ≡ 43 = search rules in c.unsigned-in-43.ensures ∙ rw (tail-whole, e)

pub returns-in_default : goal.returns-in_default
returns-in_default c =
    let w = c.args.word.now in
    c.unsigned-in_default.ensures
    ∙ elim c.in_default.branch [
      | in_default-via-then-word-lt1 x ↦ plain w (empty_has w 45 (search rules) (omega arith)) (empty_has w 43 (search rules) (omega arith))
      | in_default-via-else-word-lt1+in_default-1 x ↦ plain w (search rules) (search rules)
    ]
