-- What one step of the walk is, by where it leads, and the array that holds the records met.
use Prim.Native.Nat.{ℕ, zero, suc, ◌+◌, ◌*◌, ◌-◌, ◌≤◌, ◌<◌}
use mathlib.Core.Path.{◌≡◌, refl, ap, ◌∙◌, sym, subst}
use mathlib.Core.List.{List, [], ◌∷◌, ◌++◌, append_assoc}
use mathlib.Core.Bool.{Bool, true, false, cond, ◌&&◌, not}
use native.Mathlib.Omega.{arith}
use native.Mathlib.Numerals.{add-one, sub-one}
use native.Mathlib.Nat.{mul-le-mul_left, mul-div-le, le-div_iff_mul-le}
use lib.ListN.{length, take, drop, set, replicate, length-append}
use lib.Seq.{take-suc-set, set_at, length-take-le}
use lib.Dec.{eqb, leb, ltb}
use mathlib.Core.Logic.{◌⊎◌, inl, inr}
use borrow.Author.Tests.{ltb-true, leb-true, eqb-true, eq-eqb, ne_eqb}
use Rattle.std.proofs.lemmas.Bool.{and_parts}
use Rattle.refusal.specs.declared.Refusal.{Refusal}
use Rattle.refusal.specs.Number.{answer_number}
use Rattle.records.specs.declared.record_chain.Chain.{Chain}
use Rattle.std.specs.Prelude.{Option, Some, None, Result, Ok, Err}
use Rattle.records.specs.declared.Form.{Form}
use Rattle.records.specs.Record.{record_at, kind_of, next_of, all_zero}
use Rattle.records.specs.Chain.{head_good, km_of, shape_of, record_count, member, step_by, step_of, step_index, walk, ended, answered_chain, padded, sound_by}

-- record n of those that the file has is in it
pub in-file : (o : Form) (f : List ℕ) (n : ℕ) → n < record_count o f → o.size * n + o.size ≤ length f
in-file o f n h =
    let a : o.size * (n + 1) ≤ o.size * record_count o f = mul-le-mul_left o.size (omega arith) in
    omega (arith, a, mul-div-le (length f) o.size)

-- as many records as the file has bytes for
pub counted : (o : Form) (f : List ℕ) (n : ℕ) → 0 < o.size → o.size * n ≤ length f → n ≤ record_count o f
counted o f n h k = (le-div_iff_mul-le {k = o.size} {x = n} {y = length f} h).1 (omega arith)

-- an index that a step goes to
to-by : (b fresh c : Bool) (m n : ℕ) → step_by b (c && fresh) m ≡ Ok (Some n) → (c ≡ true) × (m ≡ n)
to-by true fresh c m n e = absurd (let z : ◌≡◌ {A = ℕ} 0 1 = cc in omega arith)
to-by false true true m n e = (refl, cc)
to-by false false true m n e = absurd (let z : ◌≡◌ {A = ℕ} 0 1 = cc in omega arith)
to-by false fresh false m n e = absurd (let z : ◌≡◌ {A = ℕ} 0 1 = cc in omega arith)

pub step-to : (o : Form) (f order : List ℕ) (at n : ℕ) → step_of o f order at ≡ Ok (Some n) → n < record_count o f
unfolding step_of
step-to o f order at n e =
    let m = next_of (record_at o f at) in
    let t = to-by (eqb m 0) (not (member m order)) (ltb m (record_count o f)) m n e in
    rw t.1 at (ltb-true m (record_count o f) t.0)

-- and it is the next index
pub step-next : (o : Form) (f order : List ℕ) (at n : ℕ) → step_of o f order at ≡ Ok (Some n) → next_of (record_at o f at) ≡ n
unfolding step_of
step-next o f order at n e =
    let m = next_of (record_at o f at) in
    (to-by (eqb m 0) (not (member m order)) (ltb m (record_count o f)) m n e).1

-- a step that is refused is astray
refused-by : (b fresh : Bool) (m : ℕ) (r : Refusal) → step_by b fresh m ≡ Err r → r ≡ Refusal.ChainStep
refused-by true fresh m r e = absurd (let z : ◌≡◌ {A = ℕ} 0 1 = cc in omega arith)
refused-by false true m r e = absurd (let z : ◌≡◌ {A = ℕ} 0 1 = cc in omega arith)
refused-by false false m r e = cc

pub step-astray : (o : Form) (f order : List ℕ) (at : ℕ) (r : Refusal) → step_of o f order at ≡ Err r → r ≡ Refusal.ChainStep
unfolding step_of
step-astray o f order at r e =
    let m = next_of (record_at o f at) in
    refused-by (eqb m 0) (ltb m (record_count o f) && not (member m order)) m r e

index-by : (b fresh : Bool) (m : ℕ) → eqb m 0 ≡ b → answer_number (step_by b fresh m) ≡ 0 → step_index (step_by b fresh m) ≡ m
index-by true fresh m e z = sym (eqb-true m 0 e)
index-by false true m e z = refl
index-by false false m e z = absurd (omega arith)

-- both promises of a step, by its case
pub step-told : (o : Form) (f order : List ℕ) (at : ℕ) (s : Result (Option ℕ) Refusal) → s ≡ step_of o f order at
    → (s ≡ step_of o f order at) × (answer_number s ≡ 0 → step_index s ≡ next_of (record_at o f at))
unfolding step_of
step-told o f order at s e =
    let m = next_of (record_at o f at) in
    let fresh = ltb m (record_count o f) && not (member m order) in
    (e, subst (λ (t : Result (Option ℕ) Refusal). answer_number t ≡ 0 → step_index t ≡ m) (sym e) (index-by (eqb m 0) fresh m refl))

module _ (o : Form) (f order : List ℕ) (at : ℕ) where
  pub walk_end : (left : ℕ) → step_of o f order at ≡ Ok None → walk o f left order at ≡ ended left (answered_chain order)
  unfolding walk
  walk_end zero e = rw e
  walk_end (suc left) e = rw e

  pub walk-astray : (left : ℕ) (r : Refusal) → step_of o f order at ≡ Err r → walk o f left order at ≡ Err r
  unfolding walk
  walk-astray zero r e = rw e
  walk-astray (suc left) r e = rw e

  pub walk-long : (n left : ℕ) → step_of o f order at ≡ Ok (Some n) → left ≡ 0
      → walk o f left order at ≡ Err Refusal.ChainRecord
  unfolding walk
  walk-long n left e h = rw (h, e)

  -- a chain that ends where it may
  pub walk-whole : (left : ℕ) → step_of o f order at ≡ Ok None → (left ≡ 48) ⊎ (left ≡ 0)
      → walk o f left order at ≡ answered_chain order
  walk-whole left e (inl h) = walk_end left e ∙ rw (eq-eqb left 48 h)
  walk-whole left e (inr h) = walk_end left e ∙ rw h

  -- and where it may not
  pub walk-cut : (left : ℕ) → step_of o f order at ≡ Ok None → (left ≡ 48 → ⊥) → (left ≡ 0 → ⊥)
      → walk o f left order at ≡ Err Refusal.ChainRecord
  walk-cut left e h k = walk_end left e ∙ rw (ne_eqb left 48 h, ne_eqb left 0 k)

  module _ (n left : ℕ) (e : step_of o f order at ≡ Ok (Some n)) (h : left ≡ 0 → ⊥) where
    walk-to : (k : ℕ) → left ≡ suc k
        → walk o f left order at
        ≡ cond (sound_by o (leb 48 (left - 1)) (record_at o f n)) (walk o f (left - 1) (order ++ (n ∷ [])) n)
        (Err Refusal.ChainRecord)
    unfolding walk
    walk-to k s = rw (s, e, sub-one)

    pub walk-bad : sound_by o (leb 48 (left - 1)) (record_at o f n) ≡ false
        → walk o f left order at ≡ Err Refusal.ChainRecord
    walk-bad b = walk-to (left - 1) (omega arith) ∙ rw b refl

    pub walk-on : sound_by o (leb 48 (left - 1)) (record_at o f n) ≡ true
        → walk o f left order at ≡ walk o f (left - 1) (order ++ (n ∷ [])) n
    walk-on b = walk-to (left - 1) (omega arith) ∙ rw b refl

-- the array and the count, as the answer
pub as-answered : (a : List ℕ) (k : ℕ) → a ≡ padded 64 (take k a) → length (take k a) ≡ k
    → ◌≡◌ {A = Result Chain Refusal} (Ok (record { order = a; count = k })) (answered_chain (take k a))
as-answered a k e t =
    ap {B = Result Chain Refusal} (λ (l : List ℕ). Ok (record { order = l; count = k })) e
    ∙ ap {B = Result Chain Refusal} (λ (m : ℕ). Ok (record { order = padded 64 (take k a); count = m })) (sym t)

-- the array of 64 after one more record is stored
pub stored : (a : List ℕ) (k n : ℕ) → k < 64 → length a ≡ 64 → a ≡ padded 64 (take k a)
    → set a k n ≡ padded 64 (take (k + 1) (set a k n))
stored a k n h l e =
    let t : length (take k a) ≡ k = length-take-le k a (omega arith) in
    let q : 64 - k ≡ suc (64 - suc k) = omega arith in
    let w : length (take k a ++ (n ∷ [])) ≡ suc k = simp (length-append, t, add-one) in
    let v : a ≡ take k a ++ (0 ∷ replicate (64 - suc k) 0) = e ∙ ap (λ (m : ℕ). take k a ++ replicate m 0) (ap (λ (m : ℕ). 64 - m) t ∙ q) in
    rw (add-one, take-suc-set a k n (omega arith), w, append_assoc)
    (ap (λ (l : List ℕ). set l k n) v ∙ set_at (take k a) 0 (replicate (64 - suc k) 0) n k t)

-- what holds of a record 0 that passes
pub record Head (o : Form) (r : List ℕ) : Type 0 where
  pub kind : kind_of r ≡ o.first
  pub some : 1 ≤ km_of r
  pub most : km_of r ≤ 5
  pub form : shape_of r ≤ 1
  pub gap : all_zero (take 2 (drop 6 r)) ≡ true
  pub tail : all_zero (drop 24 r) ≡ true

pub head-facts : (o : Form) (r : List ℕ) → head_good o r ≡ true → Head o r
unfolding head_good
head-facts o r e =
    let a = and_parts _ _ e in
    let b = and_parts _ _ a.1 in
    let c = and_parts _ _ b.1 in
    let d = and_parts _ _ c.1 in
    let g = and_parts _ _ d.1 in
    record {
      kind = eqb-true _ _ a.0;
      some = leb-true _ _ b.0;
      most = leb-true _ _ c.0;
      form = leb-true _ _ d.0;
      gap = g.0;
      tail = g.1;
    }
