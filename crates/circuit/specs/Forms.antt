-- What the laws of the circuit file speak of: a circuit and the words beside it that are values of their types, what a file
-- holds of them, and a file in the writer's form.
use Rattle.std.specs.Prelude.{ℕ, zero, suc, ◌+◌, ◌*◌, ◌^◌, ◌<◌, ◌≡◌, List, [], ◌∷◌, ◌++◌, false, length, take, IsOk}
use Rattle.circuit.specs.declared.Circuit.{Circuit}
use Rattle.records.specs.declared.Form.{Form}
use Rattle.records.specs.Record.{all_zero}
use Rattle.records.specs.Chain.{padded, record_count, order_in, count_in, chain_of}
use Rattle.circuit.specs.Read.{read_of, circuit_in}

-- each number of a list is below n
abbrev pub Each : ℕ → List ℕ → Type 0
Each n [] = Unit
Each n (x ∷ xs) = (x < n) × Each n xs

-- what the type of a circuit says: every word is a u32, and the arrays have their lengths
pub record Whole (c : Circuit) : Type 0 where
  pub gcd : c.gcd < 2 ^ 32
  pub gcdkm : c.gcdkm < 2 ^ 32
  pub amind : c.amind < 2 ^ 32
  pub ssn : c.ssn < 2 ^ 32
  pub points : Each (2 ^ 32) c.points
  pub deciles : Each (2 ^ 32) c.deciles
  pub five : length c.points ≡ 75
  pub all : length c.deciles ≡ 576

-- and what the type of the words beside it says: each is a u32, and there is room for those of five points. In the paper's
-- form there are none.
pub record Beside (o : Form) (beside : List ℕ) : Type 0 where
  pub words : Each (2 ^ 32) beside
  pub five : length beside ≡ 5 * o.extra

-- A circuit is the numbers of record 0, its km points of fifteen words and the 576 deciles. The words past its km points are
-- no part of it: here they are zero.
unfoldable pub held_circuit : Circuit → Circuit
held_circuit c =
    record {
      km = c.km;
      shape = c.shape;
      gcd = c.gcd;
      gcdkm = c.gcdkm;
      amind = c.amind;
      ssn = c.ssn;
      points = padded 75 (take (15 * c.km) c.points);
      deciles = c.deciles;
    }

-- So it is with the words beside it.
unfoldable pub held_beside : Form → Circuit → List ℕ → List ℕ
held_beside o c beside = padded (5 * o.extra) (take (o.extra * c.km) beside)

-- 0, 1, 2, .., n - 1
unfoldable pub indices_below : ℕ → List ℕ
indices_below zero = []
indices_below (suc n) = indices_below n ++ (n ∷ [])

-- A file in the writer's form, said without the writer: bytes, read without refusal, the chain is 0, 1, 2, .. to the last
-- record, and deciles are there only if not all are +0.
pub record InForm (o : Form) (f : List ℕ) : Type 0 where
  pub bytes : Each 256 f
  pub read : IsOk (read_of o f)
  pub order : take (count_in (chain_of o f)) (order_in (chain_of o f)) ≡ indices_below (record_count o f)
  pub deciles : (circuit_in (read_of o f)).km + 1 < record_count o f → all_zero (circuit_in (read_of o f)).deciles ≡ false
