-- The number answered is that of the first line that is not ours: every line before it was found the same, and two such numbers
-- are one, since each is not below the other.
use Prim.Native.Nat.{ℕ, zero, suc, ◌+◌, ◌-◌, ◌≤◌, ◌<◌}
use mathlib.Core.Path.{◌≡◌, refl, sym, ap, ◌∙◌}
use mathlib.Core.Bool.{Bool, true, false, cond}
use mathlib.Core.List.{List, [], ◌∷◌}
use native.Mathlib.Omega.{arith}
use borrow.Author.Tests.{ltb-true, ltb-false}
use lib.Dec.{ltb}
use lib.ListN.{get_or}
use Rattle.std.specs.Prelude.{Option, None, Some}
use Rattle.first_difference.specs.Lines.{lines_of, text_line_at}
use Rattle.first_difference.specs.Difference.{same_bytes, verdict_from, verdict_of}
use Rattle.first_difference.specs.Laws.{FirstOther}
use Rattle.first_difference.proofs.Bytes.{NoneEmpty, lines-some}
use Rattle.first_difference.proofs.Same.{bytes-equal, bytes-own, same-only}

-- of lines that are numbered from n, line k is the first other
record From (n k : ℕ) (ls ms : List (List ℕ)) : Type 0 where
  pub at : n ≤ k
  pub before : (j : ℕ) → n + j < k → get_or ms j [] ≡ get_or ls j []
  pub other : get_or ms (k - n) [] ≡ get_or ls (k - n) [] → ⊥

-- the first line of these is another
here : (n k : ℕ) (ls ms : List (List ℕ)) → Some n ≡ Some k → (get_or ms 0 [] ≡ get_or ls 0 [] → ⊥) → From n k ls ms
here n k ls ms e h =
    let f : n ≡ k = cc in
    let z : k - n ≡ 0 = omega arith in
    record { at = omega arith; before = λ j l. absurd (omega arith); other = rw z h }

-- the first line is the same, and the others are numbered from n + 1
later : (n k : ℕ) (l m : List ℕ) (ls ms : List (List ℕ)) → l ≡ m → From (n + 1) k ls ms → From n k (l ∷ ls) (m ∷ ms)
later n k l m ls ms e r =
    let a = r.at in
    let z : k - n ≡ suc (k - (n + 1)) = omega arith in
    record { at = omega arith; before = before; other = rw z r.other }
  where
    before : (j : ℕ) → n + j < k → get_or (m ∷ ms) j [] ≡ get_or (l ∷ ls) j []
    before zero h = sym e
    before (suc j) h = r.before j (omega arith)

empty-not : (a : ℕ) (l : List ℕ) → a ∷ l ≡ [] → ⊥
empty-not a l e = let z : ◌≡◌ {A = ℕ} 0 1 = cc in omega arith

from : (ls ms : List (List ℕ)) (n k : ℕ) → NoneEmpty ls → NoneEmpty ms → verdict_from n ls ms ≡ Some k → From n k ls ms
unfolding verdict_from
from [] [] n k h i e = let z : ◌≡◌ {A = ℕ} 0 1 = cc in absurd (omega arith)
from [] ([] ∷ ms) n k h i e = absurd i
from [] ((b ∷ m) ∷ ms) n k h i e = here n k [] ((b ∷ m) ∷ ms) e (empty-not b m)
from ([] ∷ ls) ms n k h i e = absurd h
from ((a ∷ l) ∷ ls) [] n k h i e = here n k ((a ∷ l) ∷ ls) [] e (λ (f : [] ≡ a ∷ l). empty-not a l (sym f))
from ((a ∷ l) ∷ ls) ([] ∷ ms) n k h i e = absurd i
from ((a ∷ l) ∷ ls) ((b ∷ m) ∷ ms) n k h i e =
    by (λ (f : verdict_from (n + 1) ls ms ≡ Some k). from ls ms (n + 1) k h i f) (same_bytes (a ∷ l) (b ∷ m)) refl e
  where
    by : (verdict_from (n + 1) ls ms ≡ Some k → From (n + 1) k ls ms) → (q : Bool) → same_bytes (a ∷ l) (b ∷ m) ≡ q
        → cond q (verdict_from (n + 1) ls ms) (Some n) ≡ Some k
        → From n k ((a ∷ l) ∷ ls) ((b ∷ m) ∷ ms)
    by r true f g = later n k (a ∷ l) (b ∷ m) ls ms (bytes-equal _ _ f) (r g)
    by r false f g =
        here n k ((a ∷ l) ∷ ls) ((b ∷ m) ∷ ms) g
        (λ (d : b ∷ m ≡ a ∷ l).
        let x : same_bytes (a ∷ l) (a ∷ l) ≡ false = ap (same_bytes (a ∷ l)) (sym d) ∙ f in
        let y = bytes-own (a ∷ l) in
        let z : ◌≡◌ {A = ℕ} 0 1 = cc in
        omega arith)

pub first : (ours theirs : List ℕ) (n : ℕ) → verdict_of ours theirs ≡ Some n → FirstOther ours theirs n
unfolding verdict_of
first ours theirs n e =
    let f = from (lines_of ours) (lines_of theirs) 1 n (lines-some ours) (lines-some theirs) e in
    record { counted = f.at; before = λ k a b. f.before (k - 1) (omega arith); other = f.other }

-- no line before the first other one is other
not-below : (ours theirs : List ℕ) (m n : ℕ) → FirstOther ours theirs m → FirstOther ours theirs n → m < n → ⊥
not-below ours theirs m n p q h = p.other (q.before m p.counted h)

unique : (ours theirs : List ℕ) (m n : ℕ) → FirstOther ours theirs m → FirstOther ours theirs n → m ≡ n
unique ours theirs m n p q = by (ltb m n) (ltb n m) refl refl
  where
    by : (a b : Bool) → ltb m n ≡ a → ltb n m ≡ b → m ≡ n
    by true b e f = absurd (not-below ours theirs m n p q (ltb-true m n e))
    by false true e f = absurd (not-below ours theirs n m q p (ltb-true n m f))
    by false false e f = let x = ltb-false m n e in let y = ltb-false n m f in omega arith

pub only-first : (ours theirs : List ℕ) (n : ℕ) → FirstOther ours theirs n → verdict_of ours theirs ≡ Some n
only-first ours theirs n p = by (verdict_of ours theirs) refl
  where
    by : (v : Option ℕ) → verdict_of ours theirs ≡ v → verdict_of ours theirs ≡ Some n
    by None e = absurd (p.other (ap (λ (t : List ℕ). text_line_at t n) (same-only ours theirs e)))
    by (Some m) e = e ∙ ap Some (unique ours theirs m n (first ours theirs m e) p)
