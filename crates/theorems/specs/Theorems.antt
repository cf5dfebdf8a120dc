-- The page of theorems: what is proved beside the contracts, in reading order. Each is about all inputs. The name after the colon is the statement, in specs/ of the crate that its `use` line names; what it says is told here in plain words.
-- A contract equates what a function answers with a definition; these say what holds of the definitions.
use Rattle.rounding.specs.Laws.{RoundTiesToEven, OnlyRound, LimitBinary32, AddRounds, SubRounds, MulRounds, DivRounds, OfIntRounds}
use Rattle.scalar.specs.Laws.{LiteralsNearest, TruncIsCast, MinMax, SqrtCorrect, OnlyRoot}
use Rattle.same.specs.Same.{SameIsEqual}
use Rattle.series.specs.Rises.{CosineFalls, SineRises, SinePins, TangentPins}
use Rattle.exact.specs.Enclosure.{OneWave}
use Rattle.logarithm.specs.Special.{ExponentialValues}
use Rattle.exponential_bounds.specs.OwnSeries.{LnOwnSeries}
use Rattle.exact_exponential.specs.Exp.{ExpNear}
use Rattle.exact_exponential.specs.Enclosure.{ExpEnclosed, ExpOneNumber, ExpRises, ExpPins}
use Rattle.exact_exponential.specs.Ln.{LnNear}
use Rattle.waves.specs.Special.{WaveValues}
use Rattle.exact_waves.specs.Near.{SinNear, CosNear}
use Rattle.exact_waves.specs.Literal.{SinLiteral, CosLiteral}
use Rattle.arcs.specs.Special.{ArcValues, AtanWithin}
use Rattle.exact_arcs.specs.Asin.{AsinNear}
use Rattle.exact_arcs.specs.Atan.{AtanNear}
use Rattle.circuit.specs.Laws.{EveryForm, ReadWritten, ReadSame, WrittenLength, WrittenInForm, WrittenRead, Carried, OffChain}
use Rattle.circuit.specs.Paper.{PaperLaws}
use Rattle.chain_text.specs.Laws.{LongerFile, RecordsAppended, PrintedAlike, PrintedAppended, WriterOrder}
use Rattle.sheet_refusals.specs.Refusals.{ChainRefusals, SheetRefusals, SheetPrinted}
use Rattle.export_refusals.specs.Exports.{ExportRefusals}
use Rattle.circuit.specs.WideLaws.{WideLaws}
use Rattle.circuit_turn.specs.Laws.{TurnLaws}
use Rattle.figures.specs.Nearest.{NearestRule}
use Rattle.figures.specs.FigureText.{FiveCharacters}
use Rattle.figure_laws.specs.Jump.{Jump, Keeps, Reached}
use Rattle.figure_laws.specs.Text.{Texts}
use Rattle.figure_laws.specs.Second.{OneSecondMore}
use Rattle.tariff.specs.Meaning.{TariffRule, BandRule, CentsRule, PriceRule}
use Rattle.totals.specs.Orders.{AnyOrder, NewestFirst, AtMost}
use Rattle.traces.specs.Held.{LinesHold, OnlyLines, LinesCount}
use Rattle.traces.specs.Computed.{TraceFits}
use Rattle.first_difference.specs.Laws.{DifferenceLaws}
use Rattle.marking.specs.Laws.{MarkingLaws, MarkingCases}
use Rattle.angles.specs.Angles.{SinAnswers, CosAnswers, NeverRefused13, FobbySmall, FobbyAnswers}
use Rattle.any_waves.specs.AnyWaves.{AnyWaves, MarkUnmet}
use Rattle.nominal.specs.Coefficients.{CoefficientsNearest}
use Rattle.nominal.specs.Angles.{NominalNeverRefused13}
use Rattle.nominal.specs.Inputs.{ReadsOnly, EsRewritten}
use Rattle.starred.specs.Starred.{Holds, starred}
use Rattle.heights.specs.Walk.{DistanceRule}
use Rattle.heights.specs.SameReads.{WalkSameAsScan}
use Rattle.heights.specs.Apart.{WalkApart}
use Rattle.port_state.specs.ReadBack.{StateReadBack, WordsSufficeRead}
use Rattle.call_lists.specs.Lists.{ListsOfCalls, OnlyState, ReadAll}
use Rattle.call_lists.specs.PaperWords.{PaperWords, RefusalByArguments, WithContracts}
use Rattle.call_lists.specs.SameLists.{SameListsOfCalls}
use Rattle.call_lists.specs.Nominal.{NominalAnywhere}
use Rattle.arc_series.specs.OwnSeries.{AtanOwnSeries}
use Rattle.heights.specs.Exact.{FlatNearest}
use Rattle.theorems.specs.Unnamed.{LecdenKeeps, LecdenSupplied, NeverBoth, ReadsOfWalk, MarkUnread, AnyList, MarkRules, SlotsMarked, ExactRules, SwitchesOff, IonsetKeeps, FirstFound}
use Rattle.layers.specs.OwnersLeft.{LayersUnowned, IonsetDisowns}
use Rattle.profile.specs.LecdenOwns.{LecdenOwner, LecdenOwned}
use Rattle.heights.specs.Lowest.{AboveLowest, LastFromOne}
use Rattle.heights.specs.Segments.{SegmentsFound}
use Rattle.sounding.specs.Prepared.{GenionPrepared}
use Rattle.slot_sheet.specs.Owned.{SheetNeverRefused19, SheetOwned, SheetByGenion}
use Rattle.deciles.specs.NanRow.{NanMiddle}
use Rattle.reflectrix.specs.Laws.{TestSuffices}
use Rattle.lines.specs.Aligned.{RightWidth}
use Rattle.figures.specs.Number.{NumberWidth}
use Rattle.svg.specs.Points.{InFrame}
use Rattle.composing.specs.Laws.{TextWritten}
use Rattle.composing.specs.Laws.{TextReadBack}
use Rattle.composing.specs.Laws.{TextPrinted}
use Rattle.statement_checks.specs.Checks.{StatementChecks}

pub record Theorems : Type 0 where
  -- ---- Rounding, in both formats
  -- `round` gives, for every sign, numerator and denominator above 0, the value of the format nearest to the fraction; of two equally near the one whose last digit is even; and infinity exactly from half a unit above the largest finite value
  pub round-ties-to-even : RoundTiesToEven
  -- nothing else satisfies that
  pub only-round : OnlyRound
  -- that limit, in binary32, is 2 ^ 128 - 2 ^ 103
  pub limit-binary32 : LimitBinary32
  -- each operation on finite values, and the conversion from an integer, is its exact result so rounded
  pub add_rounds : AddRounds
  pub sub-rounds : SubRounds
  pub mul-rounds : MulRounds
  pub div-rounds : DivRounds
  pub of_int-rounds : OfIntRounds
  -- ---- Scalars
  -- each named literal is the f32 nearest to its decimal
  pub literals-nearest : LiteralsNearest
  -- truncation to an i32 is the logic's cast, on every value
  pub trunc-is-cast : TruncIsCast
  -- minimum and maximum drop a NaN, take the first of equals, give NaN only from two, and are an operand that is not beaten by the other
  pub min-max : MinMax
  -- the square root of an f32 above zero is the f32 nearest to the exact root, said by squares, and nothing else is
  pub sqrt-correct : SqrtCorrect
  pub only-root : OnlyRoot
  -- two f32 numbers, or lists of them, are the same bit for bit (any NaN like any other) exactly where they are equal; words compare as the numbers that they stand for; -0 is not +0
  pub same-is-equal : SameIsEqual
  -- ---- Power series: what "the exact value" rests on
  -- the enclosures of e ^ x by fractions are nested and narrower than any given one, so they name one number
  pub exp-one-number : ExpOneNumber
  -- and it rises with x, so an exponent is pinned by its power: what is said of ln as an inverse names one number
  pub exp-rises : ExpRises
  pub exp-pins : ExpPins
  -- those of sine and cosine are so too, up to 4
  pub one-wave : OneWave
  -- up to 2 the cosine falls, and the sine rises by more than the way times the cosine at its end
  pub cosine-falls : CosineFalls
  pub sine-rises : SineRises
  -- so, up to 2 and while the cosine is not negative, an angle is pinned by its sine, and by its tangent: what is said of asin and atan as inverses names one number
  pub sine-pins : SinePins
  pub tangent-pins : TangentPins
  -- ---- The six functions, for every f32 (sin and cos from -4 to 4, asin from -1 to 1, ln from 0: NaN outside). Away from zero the unit is the result's ulp; towards zero it is that of the floats just below the result in size, half an ulp where it is a power of two above 2 ^ -126
  -- less than one ulp from the exact value: from some term on every partial sum at the argument (for a negative one its reciprocal) is at most 15/16 of the unit to its side of the result away; infinity only from 2 ^ 128 on
  pub exp-near : ExpNear
  -- two fractions, a partial sum and the same with its remainder, enclose all later ones and are less than the unit to their side away from the result
  pub exp-enclosed : ExpEnclosed
  -- e ^ (r - d) ≤ x ≤ e ^ (r + u), with the result r, and d and u 15/16 of the unit to that side
  pub ln-near : LnNear
  -- where ln uses its own series, on what is left of the argument, that series and its remainder enclose the logarithm
  pub ln-own-series : LnOwnSeries
  pub exponential-values : ExponentialValues
  -- from number 36 on every partial sum at the argument is at most 15/16 of the unit to its side of the result away
  pub sin-near : SinNear
  pub sin-literal : SinLiteral
  pub cos-near : CosNear
  pub cos-literal : CosLiteral
  -- zeros, infinities and NaN, and that outside -4 to 4 both are NaN
  pub wave-values : WaveValues
  -- sin (r - d) ≤ |x|, and |x| ≤ sin (r + u) or r + u is past half pi, with r the result's size
  pub asin-near : AsinNear
  -- tan (r - d) ≤ |x| ≤ tan (r + u), the cosine brought to the other side; at an infinity no f32 is nearer to half pi
  pub atan-near : AtanNear
  -- up to 1 its own series, v - v³ / 3 with a remainder of v⁵ / 4, encloses the arc tangent of v
  pub atan-own-series : AtanOwnSeries
  pub arc-values : ArcValues
  -- an arc tangent is NaN or within the f32 nearest to half pi of 0
  pub atan-within : AtanWithin
  -- ---- The circuit file, in every layout that is fit
  -- a circuit that the writer takes is read back from the bytes written: the numbers of record 0, the km points and the 576 deciles bit for bit, the words past the points zero
  pub read-written : EveryForm ReadWritten
  -- so a circuit whose unused words are zero comes back word for word
  pub read_same : EveryForm ReadSame
  -- how many bytes it takes
  pub written-length : EveryForm WrittenLength
  -- what the writer writes is in the writer's form, which is said without the writer
  pub written-in-form : EveryForm WrittenInForm
  -- a file in that form, read and written again, has its own bytes
  pub written_read : EveryForm WrittenRead
  -- a circuit that is read in one layout and written in another is read back as it was
  pub carried : EveryForm (λ o. EveryForm (Carried o))
  -- records that no chain reaches don't matter
  pub off-chain : OffChain
  -- nor do those that follow the records of an accepted file, nor in what `chain` prints
  pub longer-file : LongerFile
  pub records-appended : RecordsAppended
  pub printed-alike : PrintedAlike
  pub printed-appended : PrintedAppended
  -- the writer refuses a wrong km or shape before too little room
  pub writer-order : WriterOrder
  -- `chain` is refused 1 to 4 and nothing else, `sheet` 1 to 4, 7, 9, 11, 12 and nothing else; the mode of an answered sheet is 1 to 3, its controlling slot 0 to 2
  pub chain-refusals : ChainRefusals
  pub sheet-refusals : SheetRefusals
  pub sheet-printed : SheetPrinted
  -- each export, on lists of any length with any numbers, answers 0 or one of the refusals listed for it, and nothing else
  pub export-refusals : ExportRefusals
  -- what is written is read back, and what is read written back, at the paper's layout, and at the one that carries F2M3
  pub paper-laws : PaperLaws
  pub wide_laws : WideLaws
  -- `widen` and `narrow`: there and back byte for byte, the circuit kept, 14 exactly where a point carries F2M3, every other refusal the chain's, new files refused by the old reader
  pub turn-laws : TurnLaws
  -- ---- Slots and profile
  -- `ionset` changes the three tables, kfx and the owner, and nothing else; not the owner where the profile is supplied
  pub ionset-keeps : IonsetKeeps
  -- the switch of the exact height rule is off in every state that `from_layers` makes, and in what `ionset` makes of it
  pub exact-off : SwitchesOff
  -- `lecden` changes slot k's F1 height and semi-thickness, `fsecv[k]`, the profile, the mark and the owner, and nothing else; nothing where the profile is supplied
  pub lecden-keeps : LecdenKeeps
  pub lecden-supplied : LecdenSupplied
  -- a branch of the Rust that can't be reached is left out
  pub never_both : NeverBoth
  -- ---- Heights, on profiles that pass the rising test, infinities and NaN reads included
  -- each of the forty readings of the walk, kind, number and segment, is the full scan's; the cursor after each is how many of the upper 49 heights are at or below its height, and its moves sum to where it ends, so none is back, and to at most 49; where the lowest height is finite and the difference no NaN, no height in the order read is below the one before it
  pub forty-reads : ReadsOfWalk
  -- by bits, each reading of the walk is the scan's, and the heights found by walks and by scans are the contract's
  pub walk-same-as-scan : WalkSameAsScan
  -- told to walk, `gethp_read` promises on profiles that do not rise what neither scans find nor the cursor's rule counts
  pub walk-apart : WalkApart
  -- the distance that the cursor's moves sum: the lesser and the distance are the greater, both ways
  pub distance-rule : DistanceRule
  -- the stored rising mark does not matter
  pub mark-unread : MarkUnread
  -- ---- Arguments of sine and cosine
  -- where an angle is neither below -4 nor above 4, `sin_or_refuse` and `cos_or_refuse` answer
  pub sin-answers : SinAnswers
  pub cos-answers : CosAnswers
  -- on the MUF's domain every argument of sine and cosine is such, whatever the state, and so are those of the reflectrix: 13 is never answered
  pub never-refused-13 : NeverRefused13
  -- and these are all: the circuit MUF over any sine and cosine that are ours from -4 to 4, whatever they answer outside, is ours, so that a mark in their place is never met
  pub any-waves : AnyWaves
  pub mark-unmet : MarkUnmet
  pub fobby-small : FobbySmall
  pub fobby-answers : FobbyAnswers
  -- a guess at a cell of the reflectrix that passes the test of two products is the definition's cell
  pub test-suffices : TestSuffices
  -- ---- The nominal MUF
  -- its literals are nearest to their decimals, its sine and cosine always answer
  pub coefficients-nearest : CoefficientsNearest
  pub nominal-never-refused-13 : NominalNeverRefused13
  -- it reads the critical frequencies of E and F2 and the medians and heights of the Es rows, and nothing else, so a circuit MUF before it changes nothing
  pub reads_only : ReadsOnly
  pub es-rewritten : EsRewritten
  -- a NaN sunspot number takes the middle row of the deciles
  pub nan-middle : NanMiddle
  -- ---- The printed figure and the price
  -- rounding to a whole number is to the nearest, an exact half to the even one, and no other number is that
  pub nearest-rule : NearestRule
  -- a figure has five characters, and stars only where it would take more
  pub five-characters : FiveCharacters
  -- MUFs at most d tenths apart print figures at most d + 1 tenths apart; the greater never prints the smaller figure; 0.25 and 0.75 reach that bound
  pub jump : Jump
  pub keeps : Keeps
  pub reached : Reached
  -- two figures are the same characters just where their tenths are the same
  pub texts : Texts
  -- a tariff is good where it is as described; the band is the first that reaches the figure; the cents are the least whole number that covers; and so the price
  pub tariff-rule : TariffRule
  pub band-rule : BandRule
  pub cents-rule : CentsRule
  pub price-rule : PriceRule
  -- one second more costs nothing less, and at most the band's rate divided by 60, rounded up, more
  pub one-second-more : OneSecondMore
  -- the day's total is the same in any order of the calls, newest first too, and fits a u32
  pub any_order : AnyOrder
  pub newest-first : NewestFirst
  pub at_most : AtMost
  -- ---- Two traces
  -- the lines are those of every kHz of either trace and no other, rising; each says what is so; each row has exactly one; no other lines do that; and how many they are
  pub lines-hold : LinesHold
  pub only-lines : OnlyLines
  pub lines-count : LinesCount
  -- an ionogram's rows that are answered are a trace
  pub trace-fits : TraceFits
  -- ---- Marking sheets from other programs
  -- two texts are the same just where their bytes are, and else differ at the first line of theirs that is not ours: 1 and the line feeds in the longest common beginning
  pub difference-laws : DifferenceLaws
  -- `same` just where the rest of the input is the text that `sheet` prints of its file, else the first line that is not ours, or the refusal; and the paper's cases
  pub marking-laws : MarkingLaws
  pub marking-cases : MarkingCases
  -- the circuit of a text without a wrong line is written by `compose`, and read back word for word
  pub text-written : TextWritten
  pub text-read-back : TextReadBack
  pub text-printed : TextPrinted
  -- a field for the eye has exactly its width, whatever the text or the number
  pub right-width : RightWidth
  pub number-width : NumberWidth
  -- a point that is drawn in a picture lies within the frame
  pub in_frame : InFrame
  -- ---- Trials
  -- every marked trial of the paper holds of the definitions that the code is equal to
  pub starred-trials : Holds starred
  -- ---- Whose profile it is
  -- nobody's after `from_layers`, and so after an answered `ionset` unless it is supplied; slot k's, or supplied, after `lecden` of slot k
  pub layers-unowned : LayersUnowned
  pub ionset-disowns : IonsetDisowns
  pub lecden-owner : LecdenOwner
  pub lecden-owned : LecdenOwned
  -- so `genion` of a slot just prepared always answers, and a slot sheet is never refused 19: its profile is its slot's or supplied, and its rows are those of `genion` there
  pub genion-prepared : GenionPrepared
  pub sheet-never-refused-19 : SheetNeverRefused19
  pub sheet-owned : SheetOwned
  pub sheet-by-genion : SheetByGenion
  -- ---- Marks
  -- the density is never NaN and never below zero; the mark is gap just where it is zero, else the first shape worked out there whose value it is, and no other mark is right
  pub mark-rule : MarkRules
  pub slot-marks : SlotsMarked
  -- ---- The exact height rule, and segments
  -- where x - h0 is above zero, h0 + (x - h0) is above h0 or NaN: so the index before the first height is never touched
  pub above-lowest : AboveLowest
  pub last-from-one : LastFromOne
  -- where the rule is used, and that the switch changes nothing else
  pub exact-rule : ExactRules
  -- a scan of any two columns finds the first segment that holds the probe, the top where none does
  pub first-held : FirstFound
  -- the literal below which the exact rule takes a segment for flat is nearest to its decimal
  pub flat-nearest : FlatNearest
  -- a searched segment is at most 49, and 50 stands just where the first test ends `gethp` or `xlin`
  pub segments-found : SegmentsFound
  -- ---- Lists of calls
  -- take what `ionset` answers of any state with 1 to 5 points and any list of circuit MUFs, slot sheets and nominal MUFs of which no two pick one slot, each call getting the state that the one before returned: every answer, its Es rows and its cells are those of the call alone on the first state; each slot is what its own call alone leaves; the profile is that of the last answered MUF or sheet; all else is the first state's; and so it is by walks, as the code reads, and by forty scans
  pub lists-of-calls : ListsOfCalls
  -- the same for any first state, and all of it by bits
  pub any-list : AnyList
  pub lists-of-calls-same : SameListsOfCalls
  -- in the paper's own words: it holds of every list with at most one circuit MUF, at most one answered sheet of each slot and none of the slot that the MUF picks
  pub paper-words : PaperWords
  -- a sheet's outcome depends on its arguments alone, so "answered" means one thing; the calls are those of the contracts
  pub refusal-by-arguments : RefusalByArguments
  pub with-contracts : WithContracts
  -- what is said of the state left is all of it: no two states are so; and the profiles that are said to be read are all that are read
  pub only-state : OnlyState
  pub read_all : ReadAll
  -- a state put into words, as the exports do between calls, is read back as it was, where the words suffice, which they do for every state that was read from words
  pub state-read-back : StateReadBack
  pub words-suffice : WordsSufficeRead
  -- a nominal MUF put anywhere into any list changes nothing else and answers as alone
  pub nominal-anywhere : NominalAnywhere
  -- ---- The statements themselves
  -- definitions that stand in these statements and in no contract, in other words: nothing is left out of the lists of literals, trials and refusals; ranges, order and distance reach as far as they are read to; what is the same by bits is equal
  pub statement-checks : StatementChecks
