-- The lines of the steps are those of the records reached.
use mathlib.Core.List.{List, ◌++◌}
use mathlib.Core.Path.{◌≡◌, refl, ap, ◌∙◌}
use Prim.Native.Nat.{ℕ, zero, suc}
use lib.ListN.{get_or}
use Rattle.std.specs.Prelude.{Result, Ok, Err}
use Rattle.refusal.specs.declared.Refusal.{Refusal}
use Rattle.lines.specs.Text.{joined}
use Rattle.records.specs.Record.{form64}
use Rattle.records.proofs.Lists.{fit64}
use Rattle.records.specs.declared.record_chain.Chain.{Chain}
use Rattle.records.specs.Chain.{order_in, chain_of}
use Rattle.circuit.specs.OnChain.{OnChain}
use Rattle.circuit.specs.OnChain.OnChain.{first}
use Rattle.std.specs.List.{All}
use Rattle.records.proofs.record_chain.Followed.{all-at}
use Rattle.circuit.proofs.circuit_laws.Off.{reached-all, same-chain}
use Rattle.chain_text.specs.ChainText.{step_line, step_line_at, end_line, followed_text, chain_text_by, chain_text}
use Rattle.chain_text.specs.Laws.{AlikeOnChain, PrintedAlike, PrintedAppended}
use Rattle.chain_text.proofs.chain_laws.Longer.{alike-appended, records-appended}

joined-so : (a b : ℕ → List ℕ) → ((i : ℕ) → a i ≡ b i) → (n : ℕ) → joined a n ≡ joined b n
unfolding joined
joined-so a b h zero = refl
joined-so a b h (suc n) = rw (joined-so a b h n, h n)

module _ (f g : List ℕ) (same : AlikeOnChain form64 f g) where
  step_so : (order : List ℕ) → All (OnChain form64 f) order → (i : ℕ) → step_line_at f order i ≡ step_line_at g order i
  step_so order p i =
      ap (λ (r : List ℕ). step_line r (get_or order i 0)) (same (get_or order i 0) (all-at (OnChain form64 f) order first p i))

  text-by : (a : Result Chain Refusal) → All (OnChain form64 f) (order_in a) → chain_text_by a f ≡ chain_text_by a g
  unfolding followed_text
  text-by (Ok c) p = ap (λ (t : List ℕ). t ++ end_line c.count) (joined-so (step_line_at f c.order) (step_line_at g c.order) (step_so c.order p) c.count)
  text-by (Err r) p = refl

  text-so : chain_of form64 f ≡ chain_of form64 g → chain_text f ≡ chain_text g
  unfolding chain_text
  text-so e =
      text-by (chain_of form64 f) (reached-all form64 f g same) ∙ ap (λ (a : Result Chain Refusal). chain_text_by a g) e

pub printed-alike : PrintedAlike
printed-alike f g long same = text-so f g same (same-chain form64 f g long same)

pub printed-appended : PrintedAppended
printed-appended f more e good = text-so f (f ++ more) (alike-appended form64 fit64 f more e) (records-appended form64 fit64 f more e good).0
