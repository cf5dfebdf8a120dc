-- Digits from a place on, and the number that they go on to.
use mathlib.Core.Path.{◌≡◌, refl, sym, ap, ◌∙◌}
use mathlib.Core.Bool.{Bool, true, false, ◌&&◌}
use mathlib.Core.List.{List, [], ◌∷◌}
use Prim.Native.Nat.{ℕ, suc, ◌+◌, ◌-◌, ◌*◌, ◌^◌, ◌≤◌, ◌<◌, min}
use native.Mathlib.Nat.{le_trans, le_of_eq, mul-le-mul_right, pow-succ', pow-le-pow_right}
use native.Mathlib.Numerals.{add-one}
use native.Mathlib.Omega.{arith}
use borrow.Author.Tests.{leb-true, leb-false}
use Rattle.std.proofs.lemmas.Bool.{and_parts}
use lib.Dec.{leb}
use lib.Pow.{pow-add}
use lib.ListN.{length, get_or, take, drop, drop_of_length-le, length-drop}
use lib.Seq.{drop-cons, drop-length, take_all}
use Rattle.std.specs.List.{list_all}
use Rattle.composing.specs.Decimal.{is_digit, all_digits, value_from, fine_of, parts_of, unsigned_of}
use Rattle.composing.specs.Words.{run, other}

-- ---- the test
pub all_listed : (t : List ℕ) → all_digits t ≡ list_all is_digit t
unfolding all_digits
all_listed [] = refl
all_listed (b ∷ t) = ap (λ (q : Bool). is_digit b && q) (all_listed t)

-- ---- the number
pub record Next (t : List ℕ) (i : ℕ) : Type 0 where
  pub least : 48 ≤ get_or t i 0
  pub most : get_or t i 0 ≤ 57
  pub rest : all_digits (drop (i + 1) t) ≡ true

pub next : (t : List ℕ) (i : ℕ) → i < length t → all_digits (drop i t) ≡ true → Next t i
unfolding all_digits
next t i h e =
    let f : is_digit (get_or t i 0) && all_digits (drop (suc i) t) ≡ true = rw (drop-cons t i 0 h) at e in
    let p = and_parts _ _ f in
    let q = and_parts _ _ p.0 in
    record { least = leb-true _ _ q.0; most = leb-true _ _ q.1; rest = rw (add-one i) p.1 }

pub value_on : (t : List ℕ) (v i : ℕ) → i < length t → value_from v (drop i t) ≡ value_from (10 * v + (get_or t i 0 - 48)) (drop (i + 1) t)
unfolding value_from
value_on t v i h = rw (add-one i, drop-cons t i 0 h)

pub value-end : (t : List ℕ) (v i : ℕ) → length t ≤ i → value_from v (drop i t) ≡ v
unfolding value_from
value-end t v i h = rw (drop_of_length-le t h)

-- ten to the digits that are left
pub fewer : (v d n i : ℕ) → i < n → d ≤ 9 → (10 * v + d + 1) * 10 ^ (n - (i + 1)) ≤ (v + 1) * 10 ^ (n - i)
fewer v d n i h k =
    let m = n - (i + 1) in
    let e : n - i ≡ suc m = omega arith in
    let f : 10 ^ (n - i) ≡ 10 * 10 ^ m = ap (λ (x : ℕ). 10 ^ x) e ∙ pow-succ' 10 m in
    let l : 10 * v + d + 1 ≤ 10 * (v + 1) = omega arith in
    le_trans (mul-le-mul_right (10 ^ m) l) (le_of_eq (go (10 ^ m) (10 ^ (n - i)) f))
  where
    go : (x y : ℕ) → y ≡ 10 * x → 10 * (v + 1) * x ≡ (v + 1) * y
    go x y f = omega (arith, ap (λ (z : ℕ). (v + 1) * z) f)

pub none_left : (v n i : ℕ) → n ≤ i → v + 1 ≡ (v + 1) * 10 ^ (n - i)
none_left v n i h = let e : n - i ≡ 0 = omega arith in rw e (omega arith)

one-at-least : (k : ℕ) → 1 ≤ 10 ^ k
one-at-least k = pow-le-pow_right {n = 10} (omega arith) {i = 0} {j = k} (omega arith)

-- so no number on the way passes 10 ^ 9
pub small : (v k : ℕ) → (v + 1) * 10 ^ k ≤ 10 ^ 9 → v < 10 ^ 9
small v k h = let a = one-at-least k in let b = le_trans (le_of_eq (sym (native.Mathlib.Nat.mul-one (v + 1)))) (native.Mathlib.Nat.mul-le-mul_left (v + 1) a) in omega arith

-- ---- what `fine` says
pub record Fine (whole rest : List ℕ) : Type 0 where
  pub whole-digits : all_digits whole ≡ true
  pub rest-digits : all_digits rest ≡ true
  pub most : length whole + length rest ≤ 9

pub fine-says : (whole rest : List ℕ) → fine_of whole rest ≡ true → Fine whole rest
unfolding fine_of
fine-says whole rest e =
    let n = length whole + length rest in
    let p = and_parts (all_digits whole) (all_digits rest && (leb 1 n && leb n 9)) e in
    let q = and_parts (all_digits rest) (leb 1 n && leb n 9) p.1 in
    let r = and_parts (leb 1 n) (leb n 9) q.1 in
    record { whole-digits = p.0; rest-digits = q.0; most = leb-true n 9 r.1 }

pub first-room : (n m : ℕ) → n + m ≤ 9 → (0 + 1) * 10 ^ n ≤ 10 ^ 9
first-room n m h = let a = pow-le-pow_right {n = 10} (omega arith) {i = n} {j = 9} (omega arith) in omega arith

pub second-room : (v n m : ℕ) → n + m ≤ 9 → v + 1 ≤ (0 + 1) * 10 ^ n → (v + 1) * 10 ^ m ≤ 10 ^ 9
second-room v n m h l =
    let a = pow-le-pow_right {n = 10} (omega arith) {i = n + m} {j = 9} h in
    let b : v + 1 ≤ 10 ^ n = omega arith in
    le_trans (mul-le-mul_right (10 ^ m) b) (le_trans (le_of_eq (sym (pow-add 10 n m))) a)

-- ---- the parts of a list by places
pub tail-whole : (u : List ℕ) (e : ℕ) → take (length u - e) (drop e u) ≡ drop e u
tail-whole u e = take_all (length u - e) (drop e u) (le_of_eq (length-drop e u))

drop_min : (u : List ℕ) (n : ℕ) → drop (min n (length u)) u ≡ drop n u
drop_min u n = by (leb n (length u)) refl
  where
    by : (b : Bool) → leb n (length u) ≡ b → drop (min n (length u)) u ≡ drop n u
    by true e = let l = leb-true n (length u) e in let m : min n (length u) ≡ n = omega arith in rw m
    by false e =
        let l = leb-false n (length u) e in
        let m : min n (length u) ≡ length u = omega arith in
        let k : length u ≤ n = omega arith in
        rw (m, drop-length u, drop_of_length-le u k)

pub point-parts : (m : Bool) (u : List ℕ) (p e : ℕ) → p ≡ run (other 46) u → e ≡ min (p + 1) (length u)
    → parts_of m (take p u) (take (length u - e) (drop e u)) ≡ unsigned_of m u
unfolding unsigned_of
point-parts m u p e h g =
    let k : p + 1 ≡ suc p = add-one p in
    ap (parts_of m (take p u)) (tail-whole u e ∙ ap (λ (x : ℕ). drop x u) g ∙ drop_min u (p + 1) ∙ ap (λ (x : ℕ). drop x u) k)
    ∙ ap (λ (x : ℕ). parts_of m (take x u) (drop (suc x) u)) h
