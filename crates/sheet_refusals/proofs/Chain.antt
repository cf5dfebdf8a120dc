-- A chain is refused for its length, its record 0, a step or a record.
use Rattle.std.specs.Prelude.{Bool, true, false, cond, ◌||◌, List, [], ◌∷◌, ◌++◌, ℕ, zero, suc, ◌+◌, not, ◌&&◌, leb, ltb, eqb, Option, Some, None, Result, Ok, Err, IfErr}
use Rattle.refusal.specs.declared.Refusal.{Refusal}
use Rattle.records.specs.declared.Form.{Form}
use Rattle.records.specs.Record.{record_at, next_of}
use Rattle.records.specs.declared.record_chain.Chain.{Chain}
use Rattle.records.specs.Chain.{record_count, length_good, head_good, km_of, member, step_by, step_of, ended, answered_chain, by_step, sound_by, walk, chain_of}

-- of what is refused P holds
module _ (P : Refusal → Type 0) (long : P Refusal.Length) (head : P Refusal.RecordZero) (step : P Refusal.ChainStep) (rec : P Refusal.ChainRecord) where
  pick-in : (b : Bool) (x y : Result Chain Refusal) → IfErr x P → IfErr y P → IfErr (cond b x y) P
  pick-in true x y p q = p
  pick-in false x y p q = q

  step-by : (a b : Bool) (n : ℕ) → IfErr (step_by a b n) P
  step-by true b n = tt
  step-by false true n = tt
  step-by false false n = step

  step-of : (o : Form) (f order : List ℕ) (at : ℕ) → IfErr (step_of o f order at) P
  unfolding step_of
  step-of o f order at = let next = next_of (record_at o f at) in step-by (eqb next 0) (ltb next (record_count o f) && not (member next order)) next

  stepped : (s : Result (Option ℕ) Refusal) (e : Result Chain Refusal) (on : ℕ → Result Chain Refusal) → IfErr s P → IfErr e P → ((n : ℕ) → IfErr (on n) P) → IfErr (by_step s e on) P
  stepped (Ok None) e on p q r = q
  stepped (Ok (Some n)) e on p q r = r n
  stepped (Err x) e on p q r = p

  ended-in : (left : ℕ) (order : List ℕ) → IfErr (ended left (answered_chain order)) P
  ended-in left order = pick-in (eqb left 48 || eqb left 0) (answered_chain order) (Err Refusal.ChainRecord) tt rec

  walk-in : (o : Form) (f : List ℕ) (left : ℕ) (order : List ℕ) (at : ℕ) → IfErr (walk o f left order at) P
  unfolding walk
  walk-in o f zero order at = stepped (step_of o f order at) (ended zero (answered_chain order)) (λ n. Err Refusal.ChainRecord) (step-of o f order at) (ended-in zero order) (λ n. rec)
  walk-in o f (suc left) order at =
      stepped (step_of o f order at) (ended (suc left) (answered_chain order))
      (λ n. cond (sound_by o (leb 48 left) (record_at o f n)) (walk o f left (order ++ (n ∷ [])) n) (Err Refusal.ChainRecord))
      (step-of o f order at) (ended-in (suc left) order)
      (λ n. pick-in (sound_by o (leb 48 left) (record_at o f n)) (walk o f left (order ++ (n ∷ [])) n) (Err Refusal.ChainRecord) (walk-in o f left (order ++ (n ∷ [])) n) rec)

  pub chain-in : (o : Form) (f : List ℕ) → IfErr (chain_of o f) P
  unfolding chain_of
  chain-in o f =
      let w = walk o f (km_of (record_at o f 0) + 48) (0 ∷ []) 0 in
      let h = cond (head_good o (record_at o f 0)) w (Err Refusal.RecordZero) in
      pick-in (length_good o f) h (Err Refusal.Length) (pick-in (head_good o (record_at o f 0)) w (Err Refusal.RecordZero) (walk-in o f (km_of (record_at o f 0) + 48) (0 ∷ []) 0) head) long
