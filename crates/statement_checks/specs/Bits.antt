-- What is said of answers, slots and states by bits is all of them: where their numbers are f32, the same ones are equal.
use Rattle.std.specs.Prelude.{List, [], ◌∷◌, ◌≡◌, IfOk}
use Rattle.same.specs.Same.{AllF32}
use Rattle.layers.specs.declared.IonoState.{IonoState}
use Rattle.layers.specs.declared.LayerMuf.{LayerMuf}
use Rattle.layers.specs.declared.EsParams.{EsParams}
use Rattle.profile.specs.declared.slot_curves.Slot.{Slot}
use Rattle.reflectrix.specs.declared.Ionogram.{Ionogram}
use Rattle.muf.specs.declared.MufHour.{MufHour}
use Rattle.call_lists.specs.Calls.{EsRows, flat, records, Answer, of_muf, of_sheet, of_nominal}
use Rattle.call_lists.specs.Lists.{Every}
use Rattle.call_lists.specs.SameLists.{Pairwise, SameAnswer, SameSlot, SameState}

-- ---- their numbers are f32

abbrev pub LineF32 : LayerMuf → Type 0
LineF32 l = AllF32 (l.sigl ∷ l.sigu ∷ l.delmuf ∷ l.hpmuf ∷ l.htmuf ∷ l.fvmuf ∷ l.afmuf ∷ l.yfot ∷ l.ymuf ∷ l.yhpf ∷ [])

pub record HourF32 (h : MufHour) : Type 0 where
  pub numbers : AllF32 (h.emuf ∷ h.f1muf ∷ h.f2muf ∷ h.esmuf ∷ h.allmuf ∷ h.fot ∷ h.hpf ∷ h.angmuf ∷ [])
  pub lines : Every LineF32 h.layers

abbrev pub RecordF32 : EsParams → Type 0
RecordF32 e = AllF32 (e.hs ∷ e.fs)

abbrev pub EsF32 : EsRows → Type 0
EsF32 (flat es) = AllF32 es
EsF32 (records es) = Every RecordF32 es

pub record RowsF32 (i : Ionogram) : Type 0 where
  pub fvert : AllF32 i.fvert
  pub hprim : AllF32 i.hprim
  pub htrue : AllF32 i.htrue
  pub afac : AllF32 i.afac

-- where it is answered; beside a refusal there is no number
abbrev pub AnswerF32 : Answer → Type 0
AnswerF32 (of_muf h es) = IfOk h HourF32 × EsF32 es
AnswerF32 (of_sheet a cells) = IfOk a (λ r. RowsF32 r.ion)
AnswerF32 (of_nominal h) = IfOk h HourF32

abbrev pub SlotF32 : Slot → Type 0
SlotF32 p = AllF32 (p.fi0 ∷ p.fi1 ∷ p.fi2 ∷ p.yi0 ∷ p.yi1 ∷ p.yi2 ∷ p.hi0 ∷ p.hi1 ∷ p.hi2 ∷ p.fsec ∷ [])

pub record StateF32 (s : IonoState) : Type 0 where
  pub fi : AllF32 s.fi
  pub yi : AllF32 s.yi
  pub hi : AllF32 s.hi
  pub htr : AllF32 s.htr
  pub fnsq : AllF32 s.fnsq
  pub fsecv : AllF32 s.fsecv

-- ---- what `lists-of-calls-same` says is that much

pub record BitsAreAll : Type 0 where
  pub answers : (xs ys : List Answer) → Every AnswerF32 xs → Every AnswerF32 ys → Pairwise SameAnswer xs ys → xs ≡ ys
  pub slots : (p q : Slot) → SlotF32 p → SlotF32 q → SameSlot p q → p ≡ q
  pub states : (u v : IonoState) → StateF32 u → StateF32 v → SameState u v → u ≡ v
