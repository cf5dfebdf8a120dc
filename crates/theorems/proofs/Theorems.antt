-- Nothing is proved here: each field is the theorem of its name, from the crate that its `use` line names.
use Rattle.rounding.proofs.TiesToEven.{round-ties-to-even}
use Rattle.rounding.proofs.Only.{only-round}
use Rattle.rounding.proofs.Limit.{limit-binary32}
use Rattle.rounding.proofs.Operations.{add_rounds, sub-rounds, mul-rounds, div-rounds, of_int-rounds}
use Rattle.scalar.proofs.Literals.{literals-nearest}
use Rattle.scalar.proofs.Truncation.{trunc-is-cast}
use Rattle.scalar.proofs.MinMax.{min-max}
use Rattle.scalar.proofs.CorrectRoot.{sqrt-correct, only-root}
use Rattle.same.proofs.Same.{same-is-equal}
use Rattle.exact_exponential.proofs.Enclosed.{exp-one-number, exp-rises, exp-pins, exp-enclosed}
use Rattle.exact.proofs.Enclosure.{one-wave}
use Rattle.series.proofs.CosineFalls.{cosine-falls}
use Rattle.series.proofs.SineRises.{sine-rises}
use Rattle.series.proofs.Pins.{sine-pins, tangent-pins}
use Rattle.exact_exponential.proofs.ExpTheorem.{exp-near}
use Rattle.exact_exponential.proofs.LnTheorem.{ln-near}
use Rattle.exponential_bounds.proofs.Atanh.{ln-own-series}
use Rattle.logarithm.proofs.Special.{exponential-values}
use Rattle.exact_waves.proofs.Waves.{sin-near, cos-near}
use Rattle.exact_waves.proofs.Literal.{sin-literal, cos-literal}
use Rattle.waves.proofs.Special.{wave-values}
use Rattle.exact_arcs.proofs.Asin.{asin-near}
use Rattle.exact_arcs.proofs.Atan.{atan-near}
use Rattle.arc_series.proofs.OwnSeries.{atan-own-series}
use Rattle.arcs.proofs.Special.{arc-values}
use Rattle.arcs.proofs.Within.{atan-within}
use Rattle.circuit.proofs.circuit_laws.ReadWritten.{read-written, read_same, written-length}
use Rattle.circuit.proofs.circuit_laws.WrittenForm.{written-in-form}
use Rattle.circuit.proofs.circuit_laws.WrittenRead.{written_read}
use Rattle.circuit.proofs.circuit_laws.Carried.{carried}
use Rattle.circuit.proofs.circuit_laws.Off.{off-chain}
use Rattle.circuit.proofs.circuit_laws.Paper.{paper-laws}
use Rattle.chain_text.proofs.chain_laws.Longer.{longer-file, records-appended}
use Rattle.chain_text.proofs.chain_laws.Printed.{printed-alike, printed-appended}
use Rattle.chain_text.proofs.chain_laws.Order.{writer-order}
use Rattle.sheet_refusals.proofs.Sheet.{chain-refusals, sheet-refusals, sheet-printed}
use Rattle.export_refusals.proofs.Exports.{export-refusals}
use Rattle.circuit.proofs.wide_circuit.Laws.{wide_laws}
use Rattle.circuit_turn.proofs.Laws.{turn-laws}
use Rattle.layers.proofs.slots.Keeps.{ionset-keeps}
use Rattle.layers.proofs.slots.ExactOff.{exact-off}
use Rattle.profile.proofs.Keeps.{lecden-keeps, lecden-supplied}
use Rattle.profile.proofs.shape_densities.NeverBoth.{never_both}
use Rattle.heights.proofs.walk.Walks.{distance-rule}
use Rattle.heights.proofs.Whole.{forty-reads, mark-unread, exact-rule}
use Rattle.readings.proofs.Segments.{first-held}
use Rattle.heights.proofs.height_integral.Literal.{flat-nearest}
use Rattle.heights.proofs.SameReads.{walk-same-as-scan}
use Rattle.heights.proofs.walk_apart.Apart.{walk-apart}
use Rattle.angles.proofs.Angles.{sin-answers, cos-answers, never-refused-13}
use Rattle.angles.proofs.Reflectrix.{fobby-small, fobby-answers}
use Rattle.any_waves.proofs.AnyWaves.{any-waves, mark-unmet}
use Rattle.nominal.proofs.Coefficients.{coefficients-nearest}
use Rattle.nominal.proofs.Angles.{nominal-never-refused-13}
use Rattle.nominal.proofs.Inputs.{reads_only, es-rewritten}
use Rattle.figures.proofs.HalfToEven.{nearest-rule}
use Rattle.figures.proofs.figure_text.Widths.{five-characters}
use Rattle.figure_laws.proofs.Jump.{jump, keeps, reached}
use Rattle.figure_laws.proofs.Text.{texts}
use Rattle.tariff.proofs.Meaning.{tariff-rule, band-rule, cents-rule, price-rule}
use Rattle.figure_laws.proofs.Second.{one-second-more}
use Rattle.totals.proofs.Orders.{any_order, newest-first, at_most}
use Rattle.traces.proofs.trace_laws.Held.{lines-hold}
use Rattle.traces.proofs.trace_laws.OnlyLines.{only-lines, lines-count}
use Rattle.traces.proofs.computed_trace.Computed.{trace-fits}
use Rattle.first_difference.proofs.Laws.{difference-laws}
use Rattle.marking.proofs.Laws.{marking-laws, marking-cases}
use Rattle.starred.proofs.Starred.{starred-trials}
use Rattle.call_lists.proofs.Lists.{lists-of-calls, any-list, read_all}
use Rattle.call_lists.proofs.OnlyState.{only-state}
use Rattle.port_state.proofs.state_laws.ReadBack.{state-read-back, words-suffice}
use Rattle.call_lists.proofs.PaperWords.{paper-words, refusal-by-arguments, with-contracts}
use Rattle.call_lists.proofs.SameLists.{lists-of-calls-same}
use Rattle.call_lists.proofs.Nominal.{nominal-anywhere}
use Rattle.theorems.specs.Theorems.{Theorems}
use Rattle.layers.proofs.slots.OwnersLeft.{layers-unowned, ionset-disowns}
use Rattle.profile.proofs.Owns.{lecden-owner, lecden-owned}
use Rattle.heights.proofs.height_integral.Above.{above-lowest}
use Rattle.heights.proofs.height_integral.First.{last-from-one}
use Rattle.heights.proofs.Segments.{segments-found}
use Rattle.sounding.proofs.Prepared.{genion-prepared}
use Rattle.slot_sheet.proofs.Owned.{sheet-never-refused-19, sheet-owned, sheet-by-genion}
use Rattle.profile.proofs.shapes.Rule.{mark-rule, slot-marks}
use Rattle.deciles.proofs.NanRow.{nan-middle}
use Rattle.reflectrix.proofs.cell_test.Test.{test-suffices}
use Rattle.lines.proofs.aligned.Widths.{right-width}
use Rattle.figures.proofs.decimal_text.Widths.{number-width}
use Rattle.svg.proofs.points.Frame.{in_frame}
use Rattle.composing.proofs.compose_laws.Written.{text-written}
use Rattle.composing.proofs.compose_laws.ReadBack.{text-read-back}
use Rattle.composing.proofs.compose_laws.Printed.{text-printed}
use Rattle.statement_checks.proofs.Checks.{statement-checks}

pub theorems : Theorems
theorems =
    record {
      round-ties-to-even = round-ties-to-even;
      only-round = only-round;
      limit-binary32 = limit-binary32;
      add_rounds = add_rounds;
      sub-rounds = sub-rounds;
      mul-rounds = mul-rounds;
      div-rounds = div-rounds;
      of_int-rounds = of_int-rounds;
      literals-nearest = literals-nearest;
      trunc-is-cast = trunc-is-cast;
      min-max = min-max;
      sqrt-correct = sqrt-correct;
      only-root = only-root;
      same-is-equal = same-is-equal;
      exp-one-number = exp-one-number;
      exp-rises = exp-rises;
      exp-pins = exp-pins;
      one-wave = one-wave;
      cosine-falls = cosine-falls;
      sine-rises = sine-rises;
      sine-pins = sine-pins;
      tangent-pins = tangent-pins;
      exp-near = exp-near;
      exp-enclosed = exp-enclosed;
      ln-near = ln-near;
      ln-own-series = ln-own-series;
      exponential-values = exponential-values;
      sin-near = sin-near;
      sin-literal = sin-literal;
      cos-near = cos-near;
      cos-literal = cos-literal;
      wave-values = wave-values;
      asin-near = asin-near;
      atan-near = atan-near;
      atan-own-series = atan-own-series;
      arc-values = arc-values;
      atan-within = atan-within;
      read-written = read-written;
      read_same = read_same;
      written-length = written-length;
      written-in-form = written-in-form;
      written_read = written_read;
      carried = carried;
      off-chain = off-chain;
      longer-file = longer-file;
      records-appended = records-appended;
      printed-alike = printed-alike;
      printed-appended = printed-appended;
      writer-order = writer-order;
      chain-refusals = chain-refusals;
      sheet-refusals = sheet-refusals;
      sheet-printed = sheet-printed;
      export-refusals = export-refusals;
      paper-laws = paper-laws;
      wide_laws = wide_laws;
      turn-laws = turn-laws;
      ionset-keeps = ionset-keeps;
      exact-off = exact-off;
      lecden-keeps = lecden-keeps;
      lecden-supplied = lecden-supplied;
      never_both = never_both;
      forty-reads = forty-reads;
      walk-same-as-scan = walk-same-as-scan;
      walk-apart = walk-apart;
      distance-rule = distance-rule;
      mark-unread = mark-unread;
      sin-answers = sin-answers;
      cos-answers = cos-answers;
      never-refused-13 = never-refused-13;
      any-waves = any-waves;
      mark-unmet = mark-unmet;
      fobby-small = fobby-small;
      fobby-answers = fobby-answers;
      test-suffices = test-suffices;
      coefficients-nearest = coefficients-nearest;
      nominal-never-refused-13 = nominal-never-refused-13;
      reads_only = reads_only;
      es-rewritten = es-rewritten;
      nan-middle = nan-middle;
      nearest-rule = nearest-rule;
      five-characters = five-characters;
      jump = jump;
      keeps = keeps;
      reached = reached;
      texts = texts;
      tariff-rule = tariff-rule;
      band-rule = band-rule;
      cents-rule = cents-rule;
      price-rule = price-rule;
      one-second-more = one-second-more;
      any_order = any_order;
      newest-first = newest-first;
      at_most = at_most;
      lines-hold = lines-hold;
      only-lines = only-lines;
      lines-count = lines-count;
      trace-fits = trace-fits;
      difference-laws = difference-laws;
      marking-laws = marking-laws;
      marking-cases = marking-cases;
      text-written = text-written;
      text-read-back = text-read-back;
      text-printed = text-printed;
      right-width = right-width;
      number-width = number-width;
      in_frame = in_frame;
      starred-trials = starred-trials;
      lists-of-calls = lists-of-calls;
      any-list = any-list;
      lists-of-calls-same = lists-of-calls-same;
      paper-words = paper-words;
      refusal-by-arguments = refusal-by-arguments;
      with-contracts = with-contracts;
      only-state = only-state;
      read_all = read_all;
      state-read-back = state-read-back;
      words-suffice = words-suffice;
      nominal-anywhere = nominal-anywhere;
      layers-unowned = layers-unowned;
      ionset-disowns = ionset-disowns;
      lecden-owner = lecden-owner;
      lecden-owned = lecden-owned;
      genion-prepared = genion-prepared;
      sheet-never-refused-19 = sheet-never-refused-19;
      sheet-owned = sheet-owned;
      sheet-by-genion = sheet-by-genion;
      mark-rule = mark-rule;
      slot-marks = slot-marks;
      above-lowest = above-lowest;
      last-from-one = last-from-one;
      exact-rule = exact-rule;
      first-held = first-held;
      flat-nearest = flat-nearest;
      segments-found = segments-found;
      statement-checks = statement-checks;
    }
