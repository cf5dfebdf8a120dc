-- The lists of refusals by their names.
use Rattle.std.specs.Prelude.{List, [], ◌∷◌, ◌++◌, map, ◌≡◌, ℕ}
use Rattle.refusal.specs.declared.Refusal.{Refusal}
use Rattle.refusal.specs.Number.{number_of}
use Rattle.sheet_refusals.specs.Refusals as programs
use Rattle.export_refusals.specs.Exports as exports

-- 0 for an answer, then the refusals
abbrev pub zero_and : List Refusal → List ℕ
zero_and rs = 0 ∷ map number_of rs

abbrev pub of_chain : List Refusal
of_chain = Refusal.Length ∷ Refusal.RecordZero ∷ Refusal.ChainStep ∷ Refusal.ChainRecord ∷ []

abbrev pub of_sheet : List Refusal
of_sheet = of_chain ++ (Refusal.Distance ∷ Refusal.MufInput ∷ Refusal.MufHops ∷ Refusal.TimeBlock ∷ [])

-- what `chain-refusals`, `sheet-refusals` and `export-refusals` list
pub record RefusalsNamed : Type 0 where
  pub chain : programs.chain_numbers ≡ map number_of of_chain
  pub sheet : programs.sheet_numbers ≡ map number_of of_sheet
  pub read : exports.read_numbers ≡ zero_and of_chain
  pub write : exports.write_numbers ≡ zero_and (Refusal.Length ∷ Refusal.RecordZero ∷ [])
  pub read128 : exports.read128_numbers ≡ zero_and of_chain
  pub write128 : exports.write128_numbers ≡ zero_and (Refusal.Length ∷ Refusal.RecordZero ∷ [])
  pub from-layers : exports.from_layers_numbers ≡ zero_and (Refusal.Length ∷ Refusal.PointCount ∷ [])
  pub ionset : exports.ionset_numbers ≡ zero_and (Refusal.Length ∷ Refusal.PointCount ∷ [])
  pub lecden : exports.lecden_numbers ≡ zero_and (Refusal.Length ∷ Refusal.SlotNumber ∷ [])
  pub owner : exports.owner_numbers ≡ zero_and (Refusal.Length ∷ [])
  pub gethp : exports.gethp_numbers ≡ zero_and (Refusal.Length ∷ [])
  pub gethp-scan : exports.gethp_scan_numbers ≡ zero_and (Refusal.Length ∷ [])
  pub reading : exports.reading_numbers ≡ zero_and (Refusal.Length ∷ [])
  pub bendy : exports.bendy_numbers ≡ zero_and (Refusal.Length ∷ Refusal.SlotNumber ∷ [])
  pub pen : exports.pen_numbers ≡ zero_and (Refusal.Length ∷ Refusal.SlotNumber ∷ [])
  pub xlin : exports.xlin_numbers ≡ zero_and (Refusal.Length ∷ [])
  pub f2dis : exports.f2dis_numbers ≡ zero_and (Refusal.Length ∷ Refusal.MufLists ∷ Refusal.TimeBlock ∷ [])
  pub curmuf : exports.curmuf_numbers ≡ zero_and (Refusal.Length ∷ Refusal.MufInput ∷ Refusal.MufLists ∷ Refusal.MufHops ∷ Refusal.TimeBlock ∷ [])
  pub nommuf : exports.nommuf_numbers ≡ zero_and (Refusal.Length ∷ Refusal.PointCount ∷ Refusal.MufInput ∷ [])
  pub sang : exports.sang_numbers ≡ zero_and (Refusal.Length ∷ Refusal.Distance ∷ [])
  pub selmod : exports.selmod_numbers ≡ zero_and (Refusal.Length ∷ [])
  pub genion : exports.genion_numbers ≡ zero_and (Refusal.Length ∷ Refusal.SlotNumber ∷ Refusal.Owner ∷ [])
  pub alosfv : exports.alosfv_numbers ≡ zero_and (Refusal.Length ∷ Refusal.SlotNumber ∷ [])
  pub fobby : exports.fobby_numbers ≡ zero_and (Refusal.Length ∷ Refusal.Reflectrix ∷ [])
  pub slot-sheet : exports.port_sheet_numbers ≡ zero_and (Refusal.Length ∷ Refusal.SlotNumber ∷ Refusal.Reflectrix ∷ [])
  pub mark : exports.mark_numbers ≡ zero_and (of_sheet ++ (Refusal.SheetLength ∷ []))
  pub sheet-text : exports.sheet_text_numbers ≡ zero_and of_sheet
  pub figure : exports.figure_numbers ≡ zero_and (Refusal.Length ∷ [])
  pub price : exports.price_numbers ≡ zero_and (Refusal.Length ∷ Refusal.Tariff ∷ Refusal.Seconds ∷ [])
  pub total : exports.total_numbers ≡ zero_and (Refusal.Length ∷ Refusal.Prices ∷ [])
  pub total-last : exports.total_last_numbers ≡ zero_and (Refusal.Length ∷ Refusal.Prices ∷ [])
  pub compare : exports.compare_numbers ≡ zero_and (Refusal.Length ∷ Refusal.Traces ∷ [])
  pub trace : exports.trace_numbers ≡ zero_and (Refusal.Length ∷ Refusal.Traces ∷ [])
