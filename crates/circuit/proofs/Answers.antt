-- The reader's answer, by the chain's, and what is small in it.
use Prim.Native.Nat.{ℕ, ◌≤◌}
use mathlib.Core.Path.{◌≡◌, refl}
use mathlib.Core.List.{List}
use native.Mathlib.Omega.{arith}
use Rattle.std.specs.Prelude.{Result, Ok, Err}
use Rattle.refusal.specs.declared.Refusal.{Refusal}
use Rattle.records.specs.declared.Form.{Form}
use Rattle.records.specs.Record.{Fit}
use Rattle.records.specs.declared.record_chain.Chain.{Chain}
use Rattle.records.specs.Chain.{chain_of}
use Rattle.records.proofs.record_chain.Followed.{followed}
use Rattle.circuit.specs.declared.Circuit.{Circuit}
use Rattle.circuit.specs.Read.{read_of, circuit_of, no_circuit, circuit_in}

module _ (o : Form) (f : List ℕ) where
  pub read-answered : (c : Chain) → chain_of o f ≡ Ok c → read_of o f ≡ Ok (circuit_of o f c)
  unfolding read_of
  read-answered c e = rw e

  pub read-refused : (r : Refusal) → chain_of o f ≡ Err r → read_of o f ≡ Err r
  unfolding read_of
  read-refused r e = rw e

-- what is read has at most five points, and shape 0 or 1; so has the empty circuit of a file turned away
abbrev pub Small : Circuit → Type 0
Small c = (c.km ≤ 5) × (c.shape ≤ 1)

module _ (o : Form) (fit : Fit o) (f : List ℕ) where
  small_by : (a : Result Chain Refusal) → chain_of o f ≡ a → Small (circuit_in (read_of o f))
  unfolding circuit_of no_circuit
  small_by (Ok c) e =
      let h = (followed o fit f c e).head in
      rw (read-answered o f c e) (h.most, h.form)
  small_by (Err r) e = rw (read-refused o f r e) (omega arith, omega arith)

  pub small : Small (circuit_in (read_of o f))
  small = small_by (chain_of o f) refl

  pub small_read : (c : Circuit) → read_of o f ≡ Ok c → Small c
  small_read c e = rw e at small
