-- Which refusals there are, and where: 1 to 4 of the chain, 14 where a point carries F2M3, and what the old reader says of a new
-- file.
use Prim.Native.Nat.{ℕ, zero, suc, ◌+◌, ◌-◌, ◌%◌, ◌≤◌, ◌<◌}
use mathlib.Core.Path.{◌≡◌, refl, ap, sym, ◌∙◌}
use mathlib.Core.List.{List, [], ◌∷◌, ◌++◌}
use mathlib.Core.Bool.{Bool, true, false, cond, ◌&&◌, ◌||◌}
use mathlib.Core.Logic.{◌⊎◌, inl, inr}
use native.Mathlib.Omega.{arith}
use lib.ListN.{length, take, replicate}
use lib.Seq.{get_or-take}
use lib.Dec.{eqb, leb, ltb}
use borrow.Author.Tests.{eq-eqb, ne_eqb, le-leb, lt-leb, ltb-true, ltb-false}
use Rattle.std.specs.Prelude.{Result, Ok, Err, IsOk}
use Rattle.refusal.specs.declared.Refusal.{Refusal}
use Rattle.circuit.specs.declared.Circuit.{Circuit}
use Rattle.records.proofs.record_chain.Steps.{step-astray}
use Rattle.circuit.proofs.Answers.{read-refused}
use Rattle.refusal.specs.Number.{number_of, answer_number}
use Rattle.lines.specs.Text.{refused_text}
use Rattle.records.specs.declared.record_chain.Chain.{Chain}
use Rattle.records.specs.declared.Form.{Form}
use Rattle.records.specs.Record.{form64, record_at, half_at, kind_of, record_words, all_zero}
use Rattle.records.specs.Chain.{length_good, head_good, km_of, sound_by, step_of, ended, answered_chain, padded, order_in, walk, chain_of}
use Rattle.circuit.specs.Read.{numbers_of, circuit_of, read_of, read_by, beside_of}
use Rattle.records.proofs.record_chain.Followed.{by-step, by-pick, followed}
use Rattle.circuit.proofs.circuit_laws.Back.{all-zeros}
use Rattle.circuit.proofs.circuit_laws.WrittenRead.{chain-answered}
use Rattle.circuit.specs.Wide.{form128, wide_of}
use Rattle.circuit.proofs.wide_circuit.Fit128.{fit128, beside-answered, wide-answered, wide-refused}
use Rattle.circuit_turn.specs.Turn.{back_by, back_of, narrowed}
use Rattle.circuit_turn.specs.Laws.{f2m3_at, Carries}
use Rattle.circuit_turn.proofs.Outcomes.{ok-is, read-wide}
use Rattle.std.proofs.Math.Bool.{and-true, and-false}

-- a chain is refused with 1 to 4
abbrev Few : Result Chain Refusal → Type 0
Few c = answer_number c ≤ 4

step-few : (o : Form) (f order : List ℕ) (at : ℕ) (r : Refusal) → step_of o f order at ≡ Err r → Few (Err r)
step-few o f order at r e = rw (step-astray o f order at r e) (omega arith)

end-few : (left : ℕ) (order : List ℕ) → Few (ended left (answered_chain order))
end-few left order =
    by-pick Few (eqb left 48 || eqb left 0) (answered_chain order) (Err Refusal.ChainRecord) (λ t. omega arith) (omega arith)

walk-few : (o : Form) (f : List ℕ) (left : ℕ) (order : List ℕ) (at : ℕ) → Few (walk o f left order at)
unfolding walk
walk-few o f zero order at =
    by-step Few (step_of o f order at) (ended zero (answered_chain order)) (λ n. Err Refusal.ChainRecord)
    (λ e. end-few zero order) (λ n e. omega arith) (step-few o f order at)
walk-few o f (suc left) order at =
    by-step Few (step_of o f order at) (ended (suc left) (answered_chain order))
    (λ n.
    cond (sound_by o (leb 48 left) (record_at o f n)) (walk o f left (order ++ (n ∷ [])) n) (Err Refusal.ChainRecord))
    (λ e. end-few (suc left) order)
    (λ n e.
    by-pick Few (sound_by o (leb 48 left) (record_at o f n)) (walk o f left (order ++ (n ∷ [])) n)
    (Err Refusal.ChainRecord) (λ t. walk-few o f left (order ++ (n ∷ [])) n) (omega arith))
    (step-few o f order at)

chain-few : (o : Form) (f : List ℕ) → Few (chain_of o f)
unfolding chain_of
chain-few o f =
    let walked = walk o f (km_of (record_at o f 0) + 48) (0 ∷ []) 0 in
    by-pick Few (length_good o f) (cond (head_good o (record_at o f 0)) walked (Err Refusal.RecordZero)) (Err Refusal.Length)
    (λ e.
    by-pick Few (head_good o (record_at o f 0)) walked (Err Refusal.RecordZero)
    (λ h. walk-few o f (km_of (record_at o f 0) + 48) (0 ∷ []) 0) (omega arith))
    (omega arith)

pub read-few : (o : Form) (f : List ℕ) (r : Refusal) → chain_of o f ≡ Err r → number_of r ≤ 4
read-few o f r e = rw e at (chain-few o f)

refused-by : (a : Result Chain Refusal) (g : Chain → Circuit) (r : Refusal) → read_by a g ≡ Err r → a ≡ Err r
refused-by (Ok c) g r e = absurd (let z : ◌≡◌ {A = ℕ} 0 1 = cc in omega arith)
refused-by (Err s) g r e = let q : s ≡ r = cc in ap Err q

pub widen-refuses : (f : List ℕ) (r : Refusal) → read_of form64 f ≡ Err r → number_of r ≤ 4
unfolding read_of
widen-refuses f r e = read-few form64 f r (refused-by (chain_of form64 f) (circuit_of form64 f) r e)

pub chain_first : (f : List ℕ) (r : Refusal) → chain_of form128 f ≡ Err r → narrowed f ≡ refused_text r
unfolding narrowed back_of
chain_first f r e = rw (wide-refused f r e) refl

not-both : true ≡ false → ⊥
not-both e = let z : ◌≡◌ {A = ℕ} 0 1 = cc in omega arith

and_assoc : (a b c : Bool) → (a && (b && c)) ≡ ((a && b) && c)
and_assoc true b c = refl
and_assoc false b c = refl

-- F2M3 of the points of a chain, all zero or not
both_zero : (l m : List ℕ) → all_zero (l ++ m) ≡ (all_zero l && all_zero m)
unfolding all_zero
both_zero [] m = refl
both_zero (x ∷ l) m = rw (both_zero l m) (and_assoc (eqb x 0) (all_zero l) (all_zero m))

module _ (f : List ℕ) where
  abbrev at : ℕ → ℕ
  at i = f2m3_at f i

  abbrev list : ℕ → List ℕ
  list n = numbers_of form128 f (order_in (chain_of form128 f)) 1 15 1 n

  list_on : (n : ℕ) → all_zero (list (suc n)) ≡ (all_zero (list n) && eqb (at n) 0)
  unfolding numbers_of record_words all_zero
  list_on n = both_zero (list n) (at n ∷ []) ∙ ap (λ (b : Bool). all_zero (list n) && b) (and-true (eqb (at n) 0))

  not-by : (n i : ℕ) → i < suc n → (at i ≡ 0 → ⊥) → (i < n → all_zero (list n) ≡ false) → (b : Bool) → ltb i n ≡ b
      → (all_zero (list n) && eqb (at n) 0) ≡ false
  not-by n i h k on true e = rw (on (ltb-true i n e)) refl
  not-by n i h k on false e =
      let s : i ≡ n = omega (arith, ltb-false i n e) in
      rw (ne_eqb (at n) 0 (λ z. k (ap at s ∙ z))) (and-false (all_zero (list n)))

  not-zero : (n i : ℕ) → i < n → (at i ≡ 0 → ⊥) → all_zero (list n) ≡ false
  not-zero zero i h k = absurd (omega arith)
  not-zero (suc n) i h k = list_on n ∙ not-by n i h k (λ l. not-zero n i l k) (ltb i n) refl

  -- a point whose F2M3 is not zero, found from the list
  record Found (n : ℕ) : Type 0 where
    point : ℕ
    there : point < n
    some : at point ≡ 0 → ⊥

  found-by : (n : ℕ) → (all_zero (list n) ≡ false → Found n) → (a b : Bool) → all_zero (list n) ≡ a → eqb (at n) 0 ≡ b
      → (a && b) ≡ false → Found (suc n)
  found-by n on false b p q z = let t = on p in record { point = t.point; there = omega (arith, t.there); some = t.some }
  found-by n on true false p q z =
      record { point = n; there = omega arith; some = λ s. not-both (sym (eq-eqb (at n) 0 s) ∙ q) }
  found-by n on true true p q z = absurd (not-both z)

  found : (n : ℕ) → all_zero (list n) ≡ false → Found n
  unfolding numbers_of all_zero
  found zero e = absurd (not-both e)
  found (suc n) e = found-by n (found n) (all_zero (list n)) (eqb (at n) 0) refl refl (sym (list_on n) ∙ e)

  km : ℕ
  km = km_of (record_at form128 f 0)

  beside-zero : (k : Chain) → chain_of form128 f ≡ Ok k → all_zero (beside_of form128 f) ≡ all_zero (list km)
  unfolding km
  beside-zero k g =
      let q : k.order ≡ order_in (chain_of form128 f) = ap order_in (sym g) in
      ap all_zero (beside-answered f k g)
      ∙ ap (λ (l : List ℕ). all_zero (padded 5 (numbers_of form128 f l 1 15 1 (km_of (record_at form128 f 0))))) q
      ∙ both_zero (list km) (replicate (5 - length (list km)) 0)
      ∙ ap (λ (b : Bool). all_zero (list km) && b) (all-zeros (5 - length (list km)))
      ∙ and-true (all_zero (list km))

  pub fourteen : Carries f → narrowed f ≡ refused_text Refusal.F2m3
  unfolding narrowed back_of km
  fourteen t =
      let g = ok-is (chain_of form128 f) t.read in
      let z : all_zero (beside_of form128 f) ≡ false = beside-zero g.0 g.1 ∙ not-zero km t.point t.there t.some in
      rw (wide-answered f g.0 g.1, z) refl

  back-chain : (k : Chain) → chain_of form128 f ≡ Ok k
      → back_of (wide_of f) ≡ back_by (all_zero (beside_of form128 f)) (circuit_of form128 f k)
  unfolding back_of
  back-chain k g = rw (wide-answered f k g) refl

  back-refused : (r : Refusal) → chain_of form128 f ≡ Err r → back_of (wide_of f) ≡ Err r
  unfolding back_of
  back-refused r g = rw (wide-refused f r g) refl

  some-by : (z : Bool) (c : Circuit) (r : Refusal) → back_by z c ≡ Err r → (z ≡ false) × (r ≡ Refusal.F2m3)
  some-by true c r e = absurd (let z : ◌≡◌ {A = ℕ} 0 1 = cc in omega arith)
  some-by false c r e = (refl, cc)

  only-by : (a : Result Chain Refusal) → chain_of form128 f ≡ a → back_of (wide_of f) ≡ Err Refusal.F2m3 → Carries f
  unfolding km
  only-by (Ok k) g e =
      let z = (some-by (all_zero (beside_of form128 f)) (circuit_of form128 f k) Refusal.F2m3 (sym (back-chain k g) ∙ e)).0 in
      let t = found km (sym (beside-zero k g) ∙ z) in
      record { read = rw g refl; point = t.point; there = t.there; some = t.some }
  only-by (Err r) g e =
      absurd (omega (arith, read-few form128 f r g, ap (λ (a : Result Circuit Refusal). answer_number a) (sym (back-refused r g) ∙ e)))

  pub only-fourteen : back_of (wide_of f) ≡ Err Refusal.F2m3 → Carries f
  only-fourteen = only-by (chain_of form128 f) refl

  refuses-by : (a : Result Chain Refusal) (r : Refusal) → chain_of form128 f ≡ a → back_of (wide_of f) ≡ Err r
      → (number_of r ≤ 4) ⊎ (r ≡ Refusal.F2m3)
  refuses-by (Ok k) r g e =
      inr (some-by (all_zero (beside_of form128 f)) (circuit_of form128 f k) r (sym (back-chain k g) ∙ e)).1
  refuses-by (Err s) r g e =
      inl (omega (arith, read-few form128 f s g, ap (λ (a : Result Circuit Refusal). answer_number a) (sym (back-refused s g) ∙ e)))

  pub narrow-refuses : (r : Refusal) → back_of (wide_of f) ≡ Err r → (number_of r ≤ 4) ⊎ (r ≡ Refusal.F2m3)
  narrow-refuses r = refuses-by (chain_of form128 f) r refl

-- the old reader, given a new file
half-take : (n : ℕ) (l : List ℕ) → 2 ≤ n → half_at (take n l) 0 ≡ half_at l 0
unfolding half_at
half-take n l h = rw (get_or-take n l 0 0 (omega arith), get_or-take n l (0 + 1) 0 (omega arith)) refl

all_three : (a b c : Bool) → a ≡ true → b ≡ true → c ≡ true → (a && (b && c)) ≡ true
all_three a b c p q r = rw (p, q, r) refl

last-false : (a b c : Bool) → c ≡ false → (a && (b && c)) ≡ false
last-false a b c e = rw (e, and-false b) (and-false a)

module _ (f : List ℕ) (a : IsOk (wide_of f)) where
  chain-read : (k : Chain) × (chain_of form128 f ≡ Ok k)
  chain-read = chain-answered form128 f (read-wide f a)

  long-good : length f ≤ 4096 → length_good form64 f ≡ true
  long-good h =
      let t = followed form128 fit128 f chain-read.0 chain-read.1 in
      all_three _ _ _ (eq-eqb (length f % 64) 0 (omega (arith, t.whole))) (le-leb 128 (length f) (omega (arith, t.least)))
      (le-leb (length f) 4096 h)

  head-bad : head_good form64 (record_at form64 f 0) ≡ false
  unfolding head_good
  head-bad =
      let t = followed form128 fit128 f chain-read.0 chain-read.1 in
      let k : kind_of (record_at form64 f 0) ≡ kind_of (record_at form128 f 0)
      = half-take 64 f (omega arith) ∙ sym (half-take 128 f (omega arith)) in
      rw (ne_eqb (kind_of (record_at form64 f 0)) 1 (λ e. omega (arith, k, t.head.kind, e))) refl

  pub old-refuses : length f ≤ 4096 → read_of form64 f ≡ Err Refusal.RecordZero
  unfolding chain_of
  old-refuses h = read-refused form64 f Refusal.RecordZero (rw (long-good h, head-bad) refl)

  pub old-refuses-long : 4096 < length f → read_of form64 f ≡ Err Refusal.Length
  unfolding chain_of
  old-refuses-long h =
      read-refused form64 f Refusal.Length (rw (last-false (eqb (length f % 64) 0) (leb 128 (length f)) (leb (length f) 4096) (lt-leb (length f) 4096 h)) refl)
