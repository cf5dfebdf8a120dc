-- The records that a file's chain reaches, whether the file is turned away or not: record 0, and each record of the file
-- that the next index of a reached one names.
use Rattle.std.specs.Prelude.{ℕ, ◌<◌, ◌≡◌, List}
use Rattle.records.specs.declared.Form.{Form}
use Rattle.records.specs.Record.{record_at, next_of}
use Rattle.records.specs.Chain.{record_count}

pub data OnChain (o : Form) (f : List ℕ) : ℕ → Type 0 where
  first : OnChain o f 0
  after : {n m : ℕ} → OnChain o f n → next_of (record_at o f n) ≡ m → m < record_count o f → OnChain o f m
