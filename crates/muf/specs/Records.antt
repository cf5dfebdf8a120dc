-- The Es records after a MUF: the controlling row's lower decile is the one number that changes.
use Rattle.muf.specs.declared.sporadic.Rewrite.{Rewrite}
use Rattle.std.specs.Prelude.{List, [], get_or, set, Float, Option, Some, None}
use Rattle.std.specs.Float.{nan}
use Rattle.layers.specs.declared.EsParams.{EsParams}

-- past the end, where no code reads
abbrev pub no_es : EsParams
no_es = record { fs = []; hs = nan }

-- only the controlling row's lower decile is rewritten
abbrev pub lower_rewritten : EsParams → Float → EsParams
lower_rewritten e lower = record { fs = set e.fs 0 lower; hs = e.hs }

abbrev pub records_by : Option Rewrite → List EsParams → List EsParams
records_by (Some w) es = set es w.ksx (lower_rewritten (get_or es w.ksx no_es) w.lower)
records_by None es = es
