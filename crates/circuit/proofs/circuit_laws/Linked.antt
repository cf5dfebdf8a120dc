-- What a chain that was followed says of its records: each next index names the record after it, each record is sound for
-- its place, and the last next index is zero.
use Prim.Native.Nat.{ℕ, suc, ◌+◌, ◌-◌, ◌≤◌, ◌<◌}
use mathlib.Core.Path.{◌≡◌, refl, ap, ◌∙◌}
use mathlib.Core.List.{List, [], ◌∷◌, ◌++◌}
use mathlib.Core.Bool.{Bool, true, false, ◌&&◌, ◌||◌, not}
use mathlib.Core.Logic.{⊎_elim}
use native.Mathlib.Omega.{arith}
use native.Mathlib.Nat.{eq-or-lt_of_le}
use lib.ListN.{length, get_or, replicate, length-append, get_or-append}
use lib.Seq.{get_or_at}
use lib.Dec.{eqb, leb, ltb}
use borrow.Author.Tests.{eqb-true}
use Rattle.refusal.specs.declared.Refusal.{Refusal}
use Rattle.records.specs.declared.record_chain.Chain.{Chain}
use Rattle.std.specs.Prelude.{Some, None, Result, Ok}
use Rattle.records.specs.declared.Form.{Form}
use Rattle.records.specs.Record.{record_at, next_of}
use Rattle.records.specs.Chain.{record_count, member, step_by, step_of, sound_by, answered_chain, walk}
use Rattle.records.proofs.record_chain.Steps.{step-next}
use Rattle.records.proofs.record_chain.Followed.{walk-ind, Unrefused}

end_by : (b g : Bool) (m : ℕ) → step_by b g m ≡ Ok None → b ≡ true
end_by true g m e = refl
end_by false true m e = absurd (let z : ◌≡◌ {A = ℕ} 0 1 = cc in omega arith)
end_by false false m e = absurd (let z : ◌≡◌ {A = ℕ} 0 1 = cc in omega arith)

step_end : (o : Form) (f order : List ℕ) (at : ℕ) → step_of o f order at ≡ Ok None → next_of (record_at o f at) ≡ 0
unfolding step_of
step_end o f order at e =
    let m = next_of (record_at o f at) in
    eqb-true m 0 (end_by (eqb m 0) (ltb m (record_count o f) && not (member m order)) m e)

module _ (o : Form) (f : List ℕ) (total : ℕ) where
  -- the step out of place i
  pub record Link (order : List ℕ) (i : ℕ) : Type 0 where
    pub next : next_of (record_at o f (get_or order i 0)) ≡ get_or order (i + 1) 0
    pub sound : sound_by o (leb 48 (total - 1 - (i + 1))) (record_at o f (get_or order (i + 1) 0)) ≡ true

  -- along the walk
  record Along (left : ℕ) (order : List ℕ) (at : ℕ) : Type 0 where
    long : length order + left ≡ total
    some : 1 ≤ length order
    last : get_or order (length order - 1) 0 ≡ at
    links : (i : ℕ) → i + 1 < length order → Link order i

  pub record Ended (c : Chain) : Type 0 where
    pub links : (i : ℕ) → i + 1 < c.count → Link c.order i
    pub last : next_of (record_at o f (get_or c.order (c.count - 1) 0)) ≡ 0

  -- of a refusal nothing is said
  abbrev pub Ends : Result Chain Refusal → Type 0
  Ends = Unrefused Ended

  moved : (order tail : List ℕ) (i : ℕ) → i + 1 < length order → Link order i → Link (order ++ tail) i
  moved order tail i h l =
      let a = get_or-append order tail 0 i (omega arith) in
      let b = get_or-append order tail 0 (i + 1) h in
      record { next = rw (a, b) l.next; sound = rw b l.sound }

  goes : (left : ℕ) (order : List ℕ) (at n : ℕ) → Along (suc left) order at → step_of o f order at ≡ Ok (Some n)
      → sound_by o (leb 48 left) (record_at o f n) ≡ true → Along left (order ++ (n ∷ [])) n
  goes left order at n p e t =
      let len : length (order ++ (n ∷ [])) ≡ length order + 1 = length-append order (n ∷ []) in
      let new : get_or (order ++ (n ∷ [])) (length order) 0 ≡ n = get_or_at order n [] 0 (length order) refl in
      record {
        long = omega (arith, p.long);
        some = omega arith;
        last = ap (λ (k : ℕ). get_or (order ++ (n ∷ [])) k 0) (omega arith) ∙ new;
        links =
            λ i h. ⊎_elim
            (λ q.
            let r : i ≡ length order - 1 = omega (arith, p.some) in
            let a : get_or (order ++ (n ∷ [])) i 0 ≡ at
            = get_or-append order (n ∷ []) 0 i (omega (arith, p.some)) ∙ ap (λ (k : ℕ). get_or order k 0) r ∙ p.last in
            let b : get_or (order ++ (n ∷ [])) (i + 1) 0 ≡ n = ap (λ (k : ℕ). get_or (order ++ (n ∷ [])) k 0) q ∙ new in
            let d : total - 1 - (i + 1) ≡ left = omega (arith, p.long) in
            record { next = rw (a, b) (step-next o f order at n e); sound = rw (d, b) t })
            (λ q. moved order (n ∷ []) i q (p.links i q)) (eq-or-lt_of_le {n = i + 1} {m = length order} (omega arith));
      }

  ends : (left : ℕ) (order : List ℕ) (at : ℕ) → Along left order at → step_of o f order at ≡ Ok None
      → (eqb left 48 || eqb left 0) ≡ true → Ends (answered_chain order)
  ends left order at p e t =
      let z : List ℕ = replicate (64 - length order) 0 in
      record {
        links = λ i h. moved order z i h (p.links i h);
        last = rw (get_or-append order z 0 (length order - 1) (omega (arith, p.some)), p.last) (step_end o f order at e);
      }

  pub linked : (left at : ℕ) → 1 + left ≡ total → Ends (walk o f left (at ∷ []) at)
  linked left at h =
      walk-ind o f Along Ends goes ends
      (λ r. tt) left (at ∷ []) at
      (record { long = h; some = omega arith; last = refl; links = λ i q. absurd (omega arith) })
