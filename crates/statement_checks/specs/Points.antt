-- How far a nominal MUF is said to read: lists that are one as far as the count agree, whatever stands past it.
use Rattle.std.specs.Prelude.{List, ◌++◌, length}
use Rattle.layers.specs.declared.LayerParams.{LayerParams}
use Rattle.layers.specs.declared.EsParams.{EsParams}
use Rattle.nominal.specs.Inputs.{PointsAgree, EsAgree}

-- what `reads_only` asks for, and no more
pub record CountIsAll : Type 0 where
  pub points : (p more rest : List LayerParams) → PointsAgree (length p) (p ++ more) (p ++ rest)
  pub rows : (e more rest : List EsParams) → EsAgree (length e) (e ++ more) (e ++ rest)
