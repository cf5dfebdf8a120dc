-- Texts put one after the other are their concatenation put at once; a text that fits is put whole.
use Rattle.std.proofs.Common.{ℕ, zero, suc, ◌+◌, ◌-◌, ◌≤◌, ◌<◌, ◌≡◌, List, [], ◌∷◌, ◌++◌, length, take, get_or, append_assoc}
use mathlib.Core.Path.{refl, ap, ◌∙◌}
use native.Mathlib.Numerals.{add-one}
use native.Mathlib.Omega.{arith}
use lib.ListN.{length-append}
use Rattle.std.proofs.lemmas.List.{append-nil, take_all}
use lib.Seq.{take-suc}
use Rattle.lines.specs.Text.{joined, with_text}
use lib.Seq.{take-nil}

-- what there is room for of two texts is what there is room for of the first, and of the second after that
room_then : (n : ℕ) (t u : List ℕ) → take n t ++ take (n - length (take n t)) u ≡ take n (t ++ u)
room_then zero t u = refl
room_then (suc n) [] u = let e : suc n - 0 ≡ suc n = omega arith in rw e refl
room_then (suc n) (a ∷ t) u =
    let e : suc n - suc (length (take n t)) ≡ n - length (take n t) = omega arith in
    rw e (ap (λ (x : List ℕ). a ∷ x) (room_then n t u))

-- a text put after another
pub put_then : (n : ℕ) (page t u : List ℕ) {page' page'' : List ℕ} → page' ≡ with_text n page t → page'' ≡ with_text n page' u → page'' ≡ with_text n page (t ++ u)
unfolding with_text
put_then n page t u p q =
    let m = n - length page in
    let e : n - length (page ++ take m t) ≡ m - length (take m t) = omega (arith, length-append page (take m t)) in
    q
    ∙ rw (p, e, append_assoc page (take m t) (take (m - length (take m t)) u)) (ap (λ (x : List ℕ). page ++ x) (room_then m t u))

-- the same, as a rule
pub put_both : (n : ℕ) (page t u : List ℕ) → with_text n (with_text n page t) u ≡ with_text n page (t ++ u)
put_both n page t u = put_then n page t u refl refl

-- no text
pub put_none : (n : ℕ) (page : List ℕ) → with_text n page [] ≡ page
unfolding with_text
put_none n page = rw (take-nil (n - length page)) (append-nil page)

-- a byte that has room, and one that has none
pub put_room : (n : ℕ) (page : List ℕ) (b : ℕ) → length page < n → with_text n page (b ∷ []) ≡ page ++ b ∷ []
unfolding with_text
put_room n page b h =
    let m : n - length page ≡ suc (n - length page - 1) = omega arith in
    rw m (ap (λ (x : List ℕ). page ++ b ∷ x) (take-nil (n - length page - 1)))

pub put_full : (n : ℕ) (page : List ℕ) (b : ℕ) → n ≤ length page → with_text n page (b ∷ []) ≡ page
unfolding with_text
put_full n page b h =
    let m : n - length page ≡ 0 = omega arith in
    rw m (append-nil page)

-- none of many texts, and one more
pub joined_none : (text : ℕ → List ℕ) → joined text 0 ≡ []
unfolding joined
joined_none text = refl

pub joined_more : (text : ℕ → List ℕ) (i : ℕ) → joined text (i + 1) ≡ joined text i ++ text i
unfolding joined
joined_more text i = rw (add-one i) refl

-- one more byte of a word
pub put_more : (w : List ℕ) (i n : ℕ) (page : List ℕ) {page' page'' : List ℕ} → i < length w → page' ≡ with_text n page (take i w) → page'' ≡ with_text n page' (get_or w i 0 ∷ []) → page'' ≡ with_text n page (take (i + 1) w)
put_more w i n page h p q = rw (add-one i, take-suc w i 0 h) (put_then n page (take i w) (get_or w i 0 ∷ []) p q)

-- a text that has room, on an empty page
pub fits : (n : ℕ) (t : List ℕ) → length t ≤ n → with_text n [] t ≡ t
unfolding with_text
fits n t h = take_all (n - 0) t (omega arith)

-- what puts a text together from those of the calls
pub ruleset putting = (put_both, put_none, joined_none, joined_more)
