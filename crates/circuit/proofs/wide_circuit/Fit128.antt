-- The form that carries F2M3 is one of those that reader and writer take, and what stands beside a circuit there, by the
-- chain's answer.
use mathlib.Core.Path.{◌≡◌, refl}
use mathlib.Core.List.{List}
use Prim.Native.Nat.{ℕ}
use native.Mathlib.Omega.{arith}
use lib.ListN.{replicate}
use Rattle.std.specs.Prelude.{Result, Ok, Err}
use Rattle.refusal.specs.declared.Refusal.{Refusal}
use Rattle.records.specs.declared.record_chain.Chain.{Chain}
use Rattle.records.specs.Record.{Fit, record_at}
use Rattle.records.specs.Chain.{km_of, padded, chain_of}
use Rattle.circuit.specs.Read.{numbers_of, circuit_of, circuit_in, read_of, beside_of}
use Rattle.circuit.proofs.Answers.{read-answered, read-refused}
use Rattle.circuit.specs.declared.wide_circuit.WideCircuit.{WideCircuit}
use Rattle.circuit.specs.Wide.{form128, wide_of, wide_in}

pub fit128 : Fit form128
fit128 = (omega arith, omega arith, omega arith)

module _ (f : List ℕ) where
  pub beside-answered : (k : Chain) → chain_of form128 f ≡ Ok k
      → beside_of form128 f ≡ padded 5 (numbers_of form128 f k.order 1 15 1 (km_of (record_at form128 f 0)))
  unfolding beside_of
  beside-answered k e = rw e refl

  beside-refused : (r : Refusal) → chain_of form128 f ≡ Err r → beside_of form128 f ≡ replicate 5 0
  unfolding beside_of
  beside-refused r e = rw e refl

  pub wide-answered : (k : Chain) → chain_of form128 f ≡ Ok k
      → wide_of f ≡ Ok (record { circuit = circuit_of form128 f k; f2m3 = beside_of form128 f })
  unfolding wide_of
  wide-answered k e = rw (read-answered form128 f k e) refl

  pub wide-refused : (r : Refusal) → chain_of form128 f ≡ Err r → wide_of f ≡ Err r
  unfolding wide_of
  wide-refused r e = rw (read-refused form128 f r e) refl

  in-by : (a : Result Chain Refusal) → chain_of form128 f ≡ a
      → ◌≡◌ {A = WideCircuit} (wide_in (wide_of f)) (record { circuit = circuit_in (read_of form128 f); f2m3 = beside_of form128 f })
  in-by (Ok k) e = rw (wide-answered k e, read-answered form128 f k e) refl
  in-by (Err r) e = rw (wide-refused r e, read-refused form128 f r e, beside-refused r e) refl

  -- circuit and F2M3 are what is read, and what stands beside it
  pub wide-in : ◌≡◌ {A = WideCircuit} (wide_in (wide_of f)) (record { circuit = circuit_in (read_of form128 f); f2m3 = beside_of form128 f })
  wide-in = in-by (chain_of form128 f) refl
