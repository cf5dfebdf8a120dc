-- Number and value of one row's search, case by case of the definition; of several rows by induction: a refusal ends the search with its number, which is not 0.
use Rattle.refusal.specs.Number.{answer_number}
use Rattle.refusal.specs.declared.Refusal.{Refusal}
use lib.Ieee.{Float}
use Rattle.std.specs.Prelude.{Result, Ok, Err}
use Rattle.std.specs.Result.{result_unwrap_or}
use mathlib.Core.Bool.{Bool, true, false, cond}
use mathlib.Core.Path.{◌≡◌, refl}
use Prim.Native.Nat.{ℕ, zero, suc, ◌+◌}
use Rattle.scalar.specs.F32.{◌≤f◌, at}
use Rattle.scalar.specs.Literals.{f0}
use Rattle.refusal.proofs.Numbers.{no_answer}
use Rattle.hops.specs.Geometry.{hops_of}
use Rattle.layer_mufs.specs.Says.{first_refusal_number}
use Rattle.layer_mufs.specs.declared.PathNumbers.{PathNumbers}
use Rattle.muf.specs.Sporadic.{ray_of, taken_of, hop_by, row_by, es_row_of, next_by, es_from, search_value}
use Rattle.muf.specs.SporadicSays.{SearchIs, RowSays, rows_number, rows_value, RowsSay}
use Rattle.layers.specs.declared.EsParams.{EsParams}
use Rattle.muf.specs.declared.sporadic.EsSearch.{EsSearch}

hop-by : (count : Result Float Refusal) (a : EsSearch) (k : ℕ) (row : EsParams) (c : PathNumbers) → SearchIs (hop_by count a k row c) (answer_number count) (taken_of a k row (ray_of row.hs (result_unwrap_or count f0) c.gcd) (result_unwrap_or count f0))
hop-by (Ok hop) a k row c = (refl, refl)
hop-by (Err r) a k row c = (refl, rw (no_answer r))

row-by : (passed : Bool) (a : EsSearch) (k : ℕ) (row : EsParams) (c : PathNumbers) → let count = hops_of c.gcdkm c.amind row.hs in let hop = result_unwrap_or count f0 in SearchIs (row_by passed a k row c) (cond passed 0 (answer_number count)) (cond passed a (taken_of a k row (ray_of row.hs hop c.gcd) hop))
row-by true a k row c = (refl, refl)
row-by false a k row c = hop-by (hops_of c.gcdkm c.amind row.hs) a k row c

pub row-says : (r : Result EsSearch Refusal) (a : EsSearch) (k : ℕ) (row : EsParams) (c : PathNumbers) → r ≡ es_row_of a k row c → RowSays r a k row c
unfolding es_row_of RowSays
row-says r a k row c e = rw e (row-by (at row.fs 1 ≤f f0) a k row c)

next-by : (r : Result EsSearch Refusal) (rest : EsSearch → Result EsSearch Refusal) (number : EsSearch → ℕ) (value : EsSearch → EsSearch) → ((b : EsSearch) → SearchIs (rest b) (number b) (value b)) → SearchIs (next_by r rest) (first_refusal_number (answer_number r) (number (search_value r))) (value (search_value r))
next-by (Ok b) rest number value h = h b
next-by (Err r) rest number value h = (rw (no_answer r), rw (no_answer r, no_answer r))

all-rows : (row : ℕ → EsParams) (c : PathNumbers) (n k : ℕ) (a : EsSearch) → SearchIs (es_from row c n k a) (rows_number row c n k a) (rows_value row c n k a)
unfolding es_from rows_number rows_value
all-rows row c zero k a = (refl, refl)
all-rows row c (suc n) k a = next-by (es_row_of a k (row k) c) (λ b. es_from row c n (k + 1) b) (λ b. rows_number row c n (k + 1) b) (λ b. rows_value row c n (k + 1) b) (λ b. all-rows row c n (k + 1) b)

pub rows-say : (r : Result EsSearch Refusal) (row : ℕ → EsParams) (c : PathNumbers) (n k : ℕ) (a : EsSearch) → r ≡ es_from row c n k a → RowsSay r row c n k a
unfolding RowsSay
rows-say r row c n k a e = rw e (all-rows row c n k a)
