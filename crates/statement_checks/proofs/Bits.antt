-- Number by number.
use mathlib.Core.List.{List, [], ◌∷◌}
use mathlib.Core.Path.{◌≡◌, refl, ap, ap₂}
use Prim.Native.Nat.{ℕ}
use lib.Ieee.{Float}
use Rattle.std.specs.Prelude.{Result, Ok, Err, IfOk}
use Rattle.refusal.specs.declared.Refusal.{Refusal}
use Rattle.scalar.specs.F32.{at}
use Rattle.same.proofs.Same.{same-equal, all-equal}
use Rattle.layers.specs.declared.IonoState.{IonoState}
use Rattle.layers.specs.declared.LayerMuf.{LayerMuf}
use Rattle.layers.specs.declared.EsParams.{EsParams}
use Rattle.profile.specs.declared.slot_curves.Slot.{Slot}
use Rattle.reflectrix.specs.declared.Ionogram.{Ionogram}
use Rattle.muf.specs.declared.MufHour.{MufHour}
use Rattle.call_lists.specs.Calls.{EsRows, flat, records, SlotRows, Answer, of_muf, of_sheet, of_nominal}
use Rattle.call_lists.specs.Lists.{Every}
use Rattle.call_lists.specs.SameLists.{Pairwise, SameLine, SameHour, SameRecord, SameEs, SameRows, SameSlotRows, SameResult, SameAnswer, SameSlot, SameState}
use Rattle.statement_checks.specs.Bits.{LineF32, HourF32, RecordF32, EsF32, RowsF32, AnswerF32, SlotF32, StateF32, BitsAreAll}

-- ---- lists

place : (xs ys : List Float) → xs ≡ ys → (i : ℕ) → at xs i ≡ at ys i
place xs ys e i = ap (λ (l : List Float). at l i) e

each : {A : Type 0} (F : A → Type 0) (R : A → A → Type 0) → ((x y : A) → F x → F y → R x y → x ≡ y) → (xs ys : List A) → Every F xs → Every F ys → Pairwise R xs ys → xs ≡ ys
each F R f [] [] p q t = refl
each F R f [] (y ∷ ys) p q t = absurd t
each F R f (x ∷ xs) [] p q t = absurd t
each {A} F R f (x ∷ xs) (y ∷ ys) p q t = ap₂ (λ (z : A) (zs : List A). z ∷ zs) (f x y p.0 q.0 t.0) (each F R f xs ys p.1 q.1 t.1)

-- ---- records

line-equal : (l m : LayerMuf) → LineF32 l → LineF32 m → SameLine l m → l ≡ m
line-equal l m p q t =
    let e = place (l.sigl ∷ l.sigu ∷ l.delmuf ∷ l.hpmuf ∷ l.htmuf ∷ l.fvmuf ∷ l.afmuf ∷ l.yfot ∷ l.ymuf ∷ l.yhpf ∷ []) (m.sigl ∷ m.sigu ∷ m.delmuf ∷ m.hpmuf ∷ m.htmuf ∷ m.fvmuf ∷ m.afmuf ∷ m.yfot ∷ m.ymuf ∷ m.yhpf ∷ []) (all-equal _ _ p q t.0) in
    λ i. record { sigl = e 0 i; sigu = e 1 i; delmuf = e 2 i; hpmuf = e 3 i; htmuf = e 4 i; fvmuf = e 5 i; afmuf = e 6 i; nhopmf = t.1 i; yfot = e 7 i; ymuf = e 8 i; yhpf = e 9 i }

hour-equal : (h g : MufHour) → HourF32 h → HourF32 g → SameHour h g → h ≡ g
hour-equal h g p q t =
    let e = place (h.emuf ∷ h.f1muf ∷ h.f2muf ∷ h.esmuf ∷ h.allmuf ∷ h.fot ∷ h.hpf ∷ h.angmuf ∷ []) (g.emuf ∷ g.f1muf ∷ g.f2muf ∷ g.esmuf ∷ g.allmuf ∷ g.fot ∷ g.hpf ∷ g.angmuf ∷ []) (all-equal _ _ p.numbers q.numbers t.0) in
    let lines = each LineF32 SameLine line-equal h.layers g.layers p.lines q.lines t.2 in
    λ i. record { emuf = e 0 i; f1muf = e 1 i; f2muf = e 2 i; esmuf = e 3 i; allmuf = e 4 i; fot = e 5 i; hpf = e 6 i; angmuf = e 7 i; modmuf = t.1 i; layers = lines i; ks = t.3 i }

record-equal : (e d : EsParams) → RecordF32 e → RecordF32 d → SameRecord e d → e ≡ d
record-equal e d p q t =
    let fs = all-equal e.fs d.fs p.1 q.1 t.0 in
    let hs = same-equal e.hs d.hs p.0 q.0 t.1 in
    λ i. record { fs = fs i; hs = hs i }

es-equal : (es ds : EsRows) → EsF32 es → EsF32 ds → SameEs es ds → es ≡ ds
es-equal (flat es) (flat ds) p q t = ap flat (all-equal es ds p q t)
es-equal (flat es) (records ds) p q t = absurd t
es-equal (records es) (flat ds) p q t = absurd t
es-equal (records es) (records ds) p q t = ap records (each RecordF32 SameRecord record-equal es ds p q t)

rows-equal : (i j : Ionogram) → RowsF32 i → RowsF32 j → SameRows i j → i ≡ j
rows-equal i j p q t =
    let fvert = all-equal i.fvert j.fvert p.fvert q.fvert t.0 in
    let hprim = all-equal i.hprim j.hprim p.hprim q.hprim t.1 in
    let htrue = all-equal i.htrue j.htrue p.htrue q.htrue t.2 in
    let afac = all-equal i.afac j.afac p.afac q.afac t.3 in
    λ k. record { fvert = fvert k; hprim = hprim k; htrue = htrue k; afac = afac k; segment = t.4 k }

-- ---- answers, slots, states

slot-rows-equal : (a b : SlotRows) → RowsF32 a.ion → RowsF32 b.ion → SameSlotRows a b → a ≡ b
slot-rows-equal a b p q t = let ion = rows-equal a.ion b.ion p q t.0 in λ i. record { ion = ion i; marks = t.1 i }

result-equal : {A : Type 0} (F : A → Type 0) (R : A → A → Type 0) → ((x y : A) → F x → F y → R x y → x ≡ y) → (a b : Result A Refusal) → IfOk a F → IfOk b F → SameResult R a b → a ≡ b
result-equal F R h (Ok x) (Ok y) p q t = ap Ok (h x y p q t)
result-equal F R h (Ok x) (Err r) p q t = absurd t
result-equal F R h (Err r) (Ok y) p q t = absurd t
result-equal F R h (Err q) (Err r) p u t = ap Err t

answer-equal : (a b : Answer) → AnswerF32 a → AnswerF32 b → SameAnswer a b → a ≡ b
answer-equal (of_muf h es) (of_muf g ds) p q t =
    let hour = result-equal HourF32 SameHour hour-equal h g p.0 q.0 t.0 in
    let rows = es-equal es ds p.1 q.1 t.1 in
    λ i. of_muf (hour i) (rows i)
answer-equal (of_muf h es) (of_sheet j ds) p q t = absurd t
answer-equal (of_muf h es) (of_nominal g) p q t = absurd t
answer-equal (of_sheet k cs) (of_muf g ds) p q t = absurd t
answer-equal (of_sheet k cs) (of_sheet j ds) p q t =
    let rows = result-equal (λ (r : SlotRows). RowsF32 r.ion) SameSlotRows slot-rows-equal k j p q t.0 in λ i. of_sheet (rows i) (t.1 i)
answer-equal (of_sheet k cs) (of_nominal g) p q t = absurd t
answer-equal (of_nominal h) (of_muf g ds) p q t = absurd t
answer-equal (of_nominal h) (of_sheet j ds) p q t = absurd t
answer-equal (of_nominal h) (of_nominal g) p q t = ap of_nominal (result-equal HourF32 SameHour hour-equal h g p q t)

slot-equal : (p q : Slot) → SlotF32 p → SlotF32 q → SameSlot p q → p ≡ q
slot-equal p q f g t =
    let e = place (p.fi0 ∷ p.fi1 ∷ p.fi2 ∷ p.yi0 ∷ p.yi1 ∷ p.yi2 ∷ p.hi0 ∷ p.hi1 ∷ p.hi2 ∷ p.fsec ∷ []) (q.fi0 ∷ q.fi1 ∷ q.fi2 ∷ q.yi0 ∷ q.yi1 ∷ q.yi2 ∷ q.hi0 ∷ q.hi1 ∷ q.hi2 ∷ q.fsec ∷ []) (all-equal _ _ f g t) in
    λ i. record { fi0 = e 0 i; fi1 = e 1 i; fi2 = e 2 i; yi0 = e 3 i; yi1 = e 4 i; yi2 = e 5 i; hi0 = e 6 i; hi1 = e 7 i; hi2 = e 8 i; fsec = e 9 i }

state-equal : (u v : IonoState) → StateF32 u → StateF32 v → SameState u v → u ≡ v
state-equal u v p q t =
    let fi = all-equal u.fi v.fi p.fi q.fi t.fi-same in
    let yi = all-equal u.yi v.yi p.yi q.yi t.yi-same in
    let hi = all-equal u.hi v.hi p.hi q.hi t.hi-same in
    let htr = all-equal u.htr v.htr p.htr q.htr t.profile-same.0 in
    let fnsq = all-equal u.fnsq v.fnsq p.fnsq q.fnsq t.profile-same.1 in
    let fsecv = all-equal u.fsecv v.fsecv p.fsecv q.fsecv t.fsecv-same in
    λ i. record {
      fi = fi i;
      yi = yi i;
      hi = hi i;
      km = t.km-same i;
      kfx = t.kfx-same i;
      htr = htr i;
      fnsq = fnsq i;
      htr_rises = t.profile-same.2 i;
      fsecv = fsecv i;
      iedp = t.iedp-same i;
      ielect = t.ielect-same i;
      owner = t.profile-same.3 i;
      exact_virtual_height = t.exact_same i;
    }

pub bits-are-all : BitsAreAll
bits-are-all = record { answers = each AnswerF32 SameAnswer answer-equal; slots = slot-equal; states = state-equal }
