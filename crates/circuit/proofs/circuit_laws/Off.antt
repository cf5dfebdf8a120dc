-- Records off the chain do not matter: two files of one length that agree on every record of the first one's chain have
-- the same answer. Each step looks at reached records alone, and so does the reading along the chain.
use Prim.Native.Nat.{ℕ, zero, suc, ◌+◌, ◌-◌}
use mathlib.Core.Path.{◌≡◌, refl, ap, ◌∙◌}
use mathlib.Core.List.{List, [], ◌∷◌, ◌++◌}
use lib.ListN.{length, get_or, replicate}
use Rattle.records.specs.declared.record_chain.Chain.{Chain}
use Rattle.std.specs.Prelude.{Option, Some, None, Result, Ok, Err}
use Rattle.refusal.specs.declared.Refusal.{Refusal}
use Rattle.records.specs.declared.Form.{Form}
use Rattle.records.specs.Record.{record_at}
use Rattle.records.specs.Chain.{length_good, head_good, km_of, step_of, by_step, walk, chain_of, order_in}
use Rattle.circuit.specs.Read.{numbers_of, circuit_of, read_by, read_of, beside_by, beside_of}
use Rattle.records.proofs.record_chain.Steps.{step-to, step-next}
use Rattle.records.proofs.record_chain.Followed.{walk-ind, by-pick, all-at}
use Rattle.std.specs.List.{All}
use Rattle.std.proofs.lemmas.List.Elements.{All-replicate, All-append, All-push}
use Rattle.circuit.specs.Laws.{OffChain}
use Rattle.circuit.specs.OnChain.{OnChain}
use Rattle.circuit.specs.OnChain.OnChain.{first, after}

pub by-same : (s t : Result (Option ℕ) Refusal) (e : Result Chain Refusal) (on on' : ℕ → Result Chain Refusal) → s ≡ t → ((n : ℕ) → s ≡ Ok (Some n) → on n ≡ on' n)
    → by_step s e on ≡ by_step t e on'
by-same s t e on on' p h = by_one s h ∙ ap (λ (x : Result (Option ℕ) Refusal). by_step x e on') p
  where
    by_one : (s : Result (Option ℕ) Refusal) → ((n : ℕ) → s ≡ Ok (Some n) → on n ≡ on' n) → by_step s e on ≡ by_step s e on'
    by_one (Ok None) h = refl
    by_one (Ok (Some n)) h = h n refl
    by_one (Err r) h = refl

-- what follows of files that agree on the first one's chain, whatever their lengths
module _ (o : Form) (f g : List ℕ) (same : (n : ℕ) → OnChain o f n → record_at o f n ≡ record_at o g n) where
  pub reached : (order : List ℕ) (at n : ℕ) → OnChain o f at → step_of o f order at ≡ Ok (Some n) → OnChain o f n
  reached order at n on e = after on (step-next o f order at n e) (step-to o f order at n e)

  -- every record of the order is reached
  pub reached-all : All (OnChain o f) (order_in (chain_of o f))
  unfolding chain_of
  reached-all =
      let Q : Result Chain Refusal → Type 0 = λ c. All (OnChain o f) (order_in c) in
      let z = All-replicate (OnChain o f) 64 0 first in
      by-pick Q (length_good o f) _ _
      (λ e.
      by-pick Q (head_good o (record_at o f 0)) _ _
      (λ h.
      walk-ind o f (λ k l a. All (OnChain o f) l × OnChain o f a) Q
      (λ k l a n p e t.
      let r = reached l a n p.1 e in
      (All-push (OnChain o f) l n p.0 r, r))
      (λ k l a p e t. All-append (OnChain o f) l (replicate (64 - length l) 0) p.0 (All-replicate (OnChain o f) (64 - length l) 0 first))
      (λ r. z) (km_of (record_at o f 0) + 48) (0 ∷ []) 0 (All-replicate (OnChain o f) 1 0 first, first))
      z)
      z

  same_numbers : (order : List ℕ) (from skip words n : ℕ) → All (OnChain o f) order
      → numbers_of o f order from skip words n ≡ numbers_of o g order from skip words n
  unfolding numbers_of
  same_numbers order from skip words zero p = refl
  same_numbers order from skip words (suc n) p =
      rw (same_numbers order from skip words n p, same (get_or order (from + n) 0) (all-at (OnChain o f) order first p (from + n)))

  same-circuit : (c : Chain) → All (OnChain o f) c.order → circuit_of o f c ≡ circuit_of o g c
  unfolding circuit_of
  same-circuit c p =
      let km = km_of (record_at o g 0) in
      rw (
        same 0 first,
        same_numbers c.order 1 0 15 km p,
        same_numbers c.order (1 + km) 0 12 (c.count - (1 + km)) p,
      )
      refl

  read-by-same : (a : Result Chain Refusal) → All (OnChain o f) (order_in a)
      → read_by a (circuit_of o f) ≡ read_by a (circuit_of o g)
  read-by-same (Ok c) p = ap Ok (same-circuit c p)
  read-by-same (Err r) p = refl

  beside-by-same : (a : Result Chain Refusal) → All (OnChain o f) (order_in a)
      → beside_by o a (λ c. numbers_of o f c.order 1 15 o.extra (km_of (record_at o f 0)))
      ≡ beside_by o a (λ c. numbers_of o g c.order 1 15 o.extra (km_of (record_at o g 0)))
  beside-by-same (Ok c) p = rw (same 0 first, same_numbers c.order 1 15 o.extra (km_of (record_at o g 0)) p) refl
  beside-by-same (Err r) p = refl

  -- where the chains are the same, so is what is read along them
  pub read-so : chain_of o f ≡ chain_of o g → read_of o f ≡ read_of o g
  unfolding read_of
  read-so e =
      read-by-same (chain_of o f) reached-all ∙ ap (λ (a : Result Chain Refusal). read_by a (circuit_of o g)) e

  pub beside-so : chain_of o f ≡ chain_of o g → beside_of o f ≡ beside_of o g
  unfolding beside_of
  beside-so e =
      beside-by-same (chain_of o f) reached-all
      ∙ ap (λ (a : Result Chain Refusal). beside_by o a (λ c. numbers_of o g c.order 1 15 o.extra (km_of (record_at o g 0)))) e

-- files of one length
module _ (o : Form) (f g : List ℕ) (long : length f ≡ length g)
    (same : (n : ℕ) → OnChain o f n → record_at o f n ≡ record_at o g n)
  where
    same_step : (order : List ℕ) (at : ℕ) → OnChain o f at → step_of o f order at ≡ step_of o g order at
    unfolding step_of
    same_step order at on = rw (same at on, long)

    same-walk : (left : ℕ) (order : List ℕ) (at : ℕ) → OnChain o f at → walk o f left order at ≡ walk o g left order at
    unfolding walk
    same-walk zero order at on =
        by-same (step_of o f order at) (step_of o g order at) _ _ _ (same_step order at on) (λ n e. refl)
    same-walk (suc left) order at on =
        by-same (step_of o f order at) (step_of o g order at) _ _ _ (same_step order at on)
        (λ n e.
        let r = reached o f g same order at n on e in
        rw (same n r, same-walk left (order ++ (n ∷ [])) n r) refl)

    pub same-chain : chain_of o f ≡ chain_of o g
    unfolding chain_of
    same-chain = rw (same 0 first, long, same-walk (km_of (record_at o g 0) + 48) (0 ∷ []) 0 first) refl

pub off-chain : OffChain
off-chain o f g long same =
    let e = same-chain o f g long same in
    (read-so o f g same e, beside-so o f g same e)
