-- What holds of a chain that was followed to its end. `walk-ind` is the induction along a walk, by which each fact goes.
use Prim.Native.Nat.{ℕ, zero, suc, ◌+◌, ◌*◌, ◌-◌, ◌%◌, ◌≤◌, ◌<◌}
use mathlib.Core.Path.{◌≡◌, refl, subst}
use mathlib.Core.List.{List, [], ◌∷◌, ◌++◌}
use mathlib.Core.Bool.{Bool, true, false, cond, ◌||◌, ◌&&◌}
use mathlib.Core.Logic.{◌⊎◌, inl, inr, ⊎_elim}
use native.Mathlib.Omega.{arith}
use native.Mathlib.Numerals.{add-one}
use native.Mathlib.Nat.{div-add-mod}
use lib.ListN.{length, get_or, replicate, length-append}
use lib.Dec.{eqb, leb}
use borrow.Author.Tests.{eqb-true, leb-true}
use Rattle.refusal.specs.declared.Refusal.{Refusal}
use Rattle.records.specs.declared.record_chain.Chain.{Chain}
use Rattle.std.specs.Prelude.{Option, Some, None, Result, Ok, Err}
use Rattle.records.specs.declared.Form.{Form}
use Rattle.records.specs.Record.{Fit, record_at}
use Rattle.records.specs.Chain.{length_good, record_count, km_of, head_good, by_step, step_of, sound_by, answered_chain, order_in, walk, chain_of, chain_along}
use Rattle.std.specs.List.{All}
use Rattle.std.proofs.lemmas.Bool.{and_parts, or_cases}
use Rattle.std.proofs.lemmas.List.Elements.{All-head, All-tail, All-replicate, All-append, All-push}
use Rattle.records.proofs.record_chain.Members.{length-padded}
use Rattle.records.proofs.record_chain.Steps.{step-to, in-file, counted, Head, head-facts}

module _ (Q : Result Chain Refusal → Type 0) where
  pub by-step : (s : Result (Option ℕ) Refusal) (e : Result Chain Refusal) (on : ℕ → Result Chain Refusal) → (s ≡ Ok None → Q e)
      → ((n : ℕ) → s ≡ Ok (Some n) → Q (on n)) → ((r : Refusal) → s ≡ Err r → Q (Err r)) → Q (by_step s e on)
  by-step (Ok None) e on a b c = a refl
  by-step (Ok (Some n)) e on a b c = b n refl
  by-step (Err r) e on a b c = c r refl

  pub by-pick : (b : Bool) (x y : Result Chain Refusal) → (b ≡ true → Q x) → Q y → Q (cond b x y)
  by-pick true x y p q = p refl
  by-pick false x y p q = q

-- P holds of what may still follow, the records met and the last of them; Q of the answer.
module _ (o : Form) (f : List ℕ) (P : ℕ → List ℕ → ℕ → Type 0) (Q : Result Chain Refusal → Type 0)
    (goes : (left : ℕ) (order : List ℕ) (at n : ℕ) → P (suc left) order at → step_of o f order at ≡ Ok (Some n)
    → sound_by o (leb 48 left) (record_at o f n) ≡ true → P left (order ++ (n ∷ [])) n)
    (ends : (left : ℕ) (order : List ℕ) (at : ℕ) → P left order at → step_of o f order at ≡ Ok None
    → (eqb left 48 || eqb left 0) ≡ true → Q (answered_chain order))
    (stops : (r : Refusal) → Q (Err r))
  where
    pub walk-ind : (left : ℕ) (order : List ℕ) (at : ℕ) → P left order at → Q (walk o f left order at)
    unfolding walk
    walk-ind zero order at p =
        by-step Q (step_of o f order at) _ _
        (λ e. by-pick Q (eqb zero 48 || eqb zero 0) _ _ (λ t. ends zero order at p e t) (stops Refusal.ChainRecord))
        (λ n e. stops Refusal.ChainRecord) (λ r e. stops r)
    walk-ind (suc left) order at p =
        by-step Q (step_of o f order at) _ _
        (λ e. by-pick Q (eqb (suc left) 48 || eqb (suc left) 0) _ _ (λ t. ends (suc left) order at p e t) (stops Refusal.ChainRecord))
        (λ n e.
        by-pick Q (sound_by o (leb 48 left) (record_at o f n)) _ _
        (λ t. walk-ind left (order ++ (n ∷ [])) n (goes left order at n p e t)) (stops Refusal.ChainRecord))
        (λ r e. stops r)

-- what holds of each number of a list, and of 0, holds at every place, also past the end
pub all-at : (P : ℕ → Type 0) (l : List ℕ) → P 0 → All P l → (i : ℕ) → P (get_or l i 0)
all-at P [] z p i = z
all-at P (x ∷ l) z p zero = All-head P x l p
all-at P (x ∷ l) z p (suc i) = all-at P l z (All-tail P x l p) i

-- every record of the chain is in the file
pub walk-within : (o : Form) (f : List ℕ) (left at : ℕ) (order : List ℕ) → 0 < record_count o f → All (λ n. n < record_count o f) order
    → All (λ n. n < record_count o f) (order_in (walk o f left order at))
walk-within o f left at order h =
    let Within : ℕ → Type 0 = λ n. n < record_count o f in
    walk-ind o f (λ k l a. All Within l) (λ c. All Within (order_in c))
    (λ k l a n p e t. All-push Within l n p (step-to o f l a n e))
    (λ k l a p e t. All-append Within l (replicate (64 - length l) 0) p (All-replicate Within (64 - length l) 0 h))
    (λ r. All-replicate Within 64 0 h) left order at

never : {A : Type 0} (r : Refusal) (x : A) → ◌≡◌ {A = Result A Refusal} (Err r) (Ok x) → ⊥
never r x e = let z : ◌≡◌ {A = ℕ} 0 1 = cc in omega arith

-- a chain that ends has taken all that may follow, or all but the 48 of kind 3; `total` is all it may hold
pub record Long (total : ℕ) (c : Chain) : Type 0 where
  pub room : length c.order ≡ 64
  pub count : (c.count ≡ total) ⊎ (c.count + 48 ≡ total)

-- what holds of an answer that is no refusal
abbrev pub Unrefused : (Chain → Type 0) → Result Chain Refusal → Type 0
Unrefused P (Ok c) = P c
Unrefused P (Err r) = Unit

long-end : (total left : ℕ) (order : List ℕ) → length order + left ≡ total → total ≤ 64
    → (eqb left 48 || eqb left 0) ≡ true → Long total (chain_along order)
long-end total left order p h t =
    record {
      room = length-padded 64 order (omega arith);
      count =
          ⊎_elim (λ w. inr (omega (arith, eqb-true left 48 w))) (λ w. inl (omega (arith, eqb-true left 0 w)))
          (or_cases (eqb left 48) (eqb left 0) t);
    }

pub walk-long : (o : Form) (f : List ℕ) (total left at : ℕ) (order : List ℕ) → total ≤ 64 → length order + left ≡ total
    → Unrefused (Long total) (walk o f left order at)
walk-long o f total left at order h p =
    walk-ind o f (λ k l a. length l + k ≡ total) (Unrefused (Long total))
    (λ k l a n q e t. simp (length-append, add-one) (omega arith))
    (λ k l a q e t. long-end total k l q h t)
    (λ r. tt) left order at p

picked : (b : Bool) (x : Result Chain Refusal) (r : Refusal) (c : Chain) → cond b x (Err r) ≡ Ok c
    → (b ≡ true) × (x ≡ Ok c)
picked true x r c e = (refl, e)
picked false x r c e = absurd (never r c e)

-- a file whose chain was followed to its end
pub record Followed (o : Form) (f : List ℕ) (c : Chain) : Type 0 where
  pub whole : length f ≡ o.size * record_count o f
  pub least : 2 * o.size ≤ length f
  pub most : length f ≤ 64 * o.size
  pub head : Head o (record_at o f 0)
  pub is : walk o f (km_of (record_at o f 0) + 48) (0 ∷ []) 0 ≡ Ok c
  pub within : (i : ℕ) → get_or c.order i 0 < record_count o f
  pub long : Long (km_of (record_at o f 0) + 49) c

module _ (o : Form) (fit : Fit o) (f : List ℕ) (c : Chain) where
  from-walk : length f % o.size ≡ 0 → 2 * o.size ≤ length f → length f ≤ 64 * o.size → Head o (record_at o f 0)
      → walk o f (km_of (record_at o f 0) + 48) (0 ∷ []) 0 ≡ Ok c → Followed o f c
  from-walk a b m h e =
      let some : 0 < record_count o f = counted o f 1 (omega arith) (omega arith) in
      let fits : km_of (record_at o f 0) + 49 ≤ 64 = omega (arith, h.most) in
      record {
        whole = omega (arith, div-add-mod (length f) o.size);
        least = b;
        most = m;
        head = h;
        is = e;
        within =
            all-at (λ n. n < record_count o f) c.order some
            (subst (λ (a : Result Chain Refusal). All (λ n. n < record_count o f) (order_in a)) e
            (walk-within o f (km_of (record_at o f 0) + 48) 0 (0 ∷ []) some (All-replicate (λ n. n < record_count o f) 1 0 some)));
        long =
            subst (Unrefused (Long (km_of (record_at o f 0) + 49))) e
            (walk-long o f (km_of (record_at o f 0) + 49) (km_of (record_at o f 0) + 48) 0 (0 ∷ []) fits (omega arith));
      }

  pub followed : chain_of o f ≡ Ok c → Followed o f c
  unfolding chain_of
  followed e =
      let walked = walk o f (km_of (record_at o f 0) + 48) (0 ∷ []) 0 in
      let inner = cond (head_good o (record_at o f 0)) walked (Err Refusal.RecordZero) in
      let a = picked (length_good o f) inner Refusal.Length c e in
      let b = picked (head_good o (record_at o f 0)) walked Refusal.RecordZero c a.1 in
      let g = and_parts (eqb (length f % o.size) 0) (leb (2 * o.size) (length f) && leb (length f) (64 * o.size)) a.0 in
      let l = and_parts (leb (2 * o.size) (length f)) (leb (length f) (64 * o.size)) g.1 in
      from-walk (eqb-true _ _ g.0) (leb-true _ _ l.0) (leb-true _ _ l.1) (head-facts o (record_at o f 0) b.0) b.1

module _ (o : Form) (f : List ℕ) (c : Chain) (t : Followed o f c) where
  -- every record of the chain is in the file
  pub there : (i : ℕ) → o.size * get_or c.order i 0 + o.size ≤ length f
  there i = in-file o f (get_or c.order i 0) (t.within i)

  -- room for the points, and for at most 48 of kind 3 after them
  pub count-range : (1 + km_of (record_at o f 0) ≤ c.count) × (c.count ≤ km_of (record_at o f 0) + 49)
  count-range = ⊎_elim (λ w. (omega arith, omega arith)) (λ w. (omega arith, omega arith)) t.long.count
