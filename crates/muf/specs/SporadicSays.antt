-- What the search says by number and value, of one row and of several: the paper's number, 0 or a refusal's, and the search where it is 0, of +0 where it is not.
use Rattle.refusal.specs.Number.{answer_number}
use Rattle.refusal.specs.declared.Refusal.{Refusal}
use Rattle.std.specs.Prelude.{cond, ◌≡◌, ℕ, zero, suc, ◌+◌, eqb, Result}
use Rattle.std.specs.Result.{result_unwrap_or}
use Rattle.scalar.specs.F32.{◌≤f◌, at}
use Rattle.scalar.specs.Literals.{f0}
use Rattle.hops.specs.Geometry.{hops_of}
use Rattle.layer_mufs.specs.Says.{first_refusal_number}
use Rattle.layer_mufs.specs.declared.PathNumbers.{PathNumbers}
use Rattle.muf.specs.Sporadic.{ray_of, taken_of, es_row_of, search_value, no_search}
use Rattle.layers.specs.declared.EsParams.{EsParams}
use Rattle.muf.specs.declared.sporadic.EsSearch.{EsSearch}

abbrev pub SearchIs : Result EsSearch Refusal → ℕ → EsSearch → Type 0
SearchIs r number a = (answer_number r ≡ number) × (search_value r ≡ cond (eqb number 0) a no_search)

-- one row: nothing where it is passed over, else its hops
unfoldable pub RowSays : Result EsSearch Refusal → EsSearch → ℕ → EsParams → PathNumbers → Type 0
RowSays r a k row c =
    let passed = at row.fs 1 ≤f f0 in
    let count = hops_of c.gcdkm c.amind row.hs in
    let hop = result_unwrap_or count f0 in
    SearchIs r (cond passed 0 (answer_number count)) (cond passed a (taken_of a k row (ray_of row.hs hop c.gcd) hop))

-- n rows from row k on: the number of the first that refuses, and the search after all
unfoldable pub rows_number : (ℕ → EsParams) → PathNumbers → ℕ → ℕ → EsSearch → ℕ
rows_number row c zero k a = 0
rows_number row c (suc n) k a = let r = es_row_of a k (row k) c in first_refusal_number (answer_number r) (rows_number row c n (k + 1) (search_value r))

unfoldable pub rows_value : (ℕ → EsParams) → PathNumbers → ℕ → ℕ → EsSearch → EsSearch
rows_value row c zero k a = a
rows_value row c (suc n) k a = rows_value row c n (k + 1) (search_value (es_row_of a k (row k) c))

unfoldable pub RowsSay : Result EsSearch Refusal → (ℕ → EsParams) → PathNumbers → ℕ → ℕ → EsSearch → Type 0
RowsSay r row c n k a = SearchIs r (rows_number row c n k a) (rows_value row c n k a)
