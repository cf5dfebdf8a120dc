-- The turns of a search through Es rows.
use Rattle.std.specs.Prelude.{Ok}
use mathlib.Core.Path.{◌≡◌, refl}
use Prim.Native.Nat.{ℕ, suc, ◌+◌, ◌-◌, ◌<◌}
use native.Mathlib.Omega.{arith}
use Rattle.layer_mufs.specs.declared.PathNumbers.{PathNumbers}
use Rattle.muf.specs.Sporadic.{es_row_of, next_by, es_from}
use Rattle.layers.specs.declared.EsParams.{EsParams}
use Rattle.muf.specs.declared.sporadic.EsSearch.{EsSearch}

-- of n rows those from k on: row k, then the rest; after the last, none
pub one_more : (row : ℕ → EsParams) (c : PathNumbers) (n k : ℕ) (a : EsSearch) → k < n → es_from row c (n - k) k a ≡ next_by (es_row_of a k (row k) c) (λ b. es_from row c (n - (k + 1)) (k + 1) b)
unfolding es_from
one_more row c n k a h = let e : n - k ≡ suc (n - (k + 1)) = omega arith in rw e

pub none_left : (row : ℕ → EsParams) (c : PathNumbers) (k : ℕ) (a : EsSearch) → es_from row c 0 k a ≡ Ok a
unfolding es_from
none_left row c k a = refl
