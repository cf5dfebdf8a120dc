-- The paper's words are a case of `Allowed`: two calls that pick one slot would be two MUFs, two answered sheets of it, or a MUF and an answered sheet of its pick. And what is so by definition.
use mathlib.Core.Bool.{Bool, true, false, ◌&&◌}
use mathlib.Core.List.{List, [], ◌∷◌}
use Rattle.std.specs.Prelude.{Some}
use Rattle.std.specs.Bool.{then_some}
use Rattle.std.proofs.lemmas.Bool.{false≢true}
use Rattle.std.proofs.lemmas.Option.{none-some, same_Some}
use mathlib.Core.Path.{◌≡◌, refl, sym, ap, ◌∙◌}
use Prim.Native.Nat.{ℕ, ◌+◌, ◌≤◌}
use native.Mathlib.Omega.{arith}
use borrow.Author.Tests.{eq-eqb}
use lib.Dec.{leb, eqb}
use Rattle.layers.specs.declared.IonoState.{IonoState}
use Rattle.layers.specs.declared.LayerMuf.{LayerMuf}
use Rattle.heights.specs.Gethp.{gethp_of}
use Rattle.reflectrix.specs.Fobby.{room_for}
use Rattle.readings.specs.Cursor.{one_if}
use Rattle.slot_sheet.specs.Sheet.{sheet_by, slot_sheet_with}
use Rattle.call_lists.specs.Calls.{Call, a_muf, a_sheet, a_nominal, muf_with, es_after, answer_with, after_with, answered, picked_slot}
use Rattle.call_lists.specs.Lists.{Every, Together, Allowed}
use Rattle.call_lists.specs.PaperWords.{is_muf, is_sheet_of, mufs_in, sheets_in, InWords, PaperWords, outcome_of, RefusalByArguments, WithContracts}
use Rattle.call_lists.proofs.Lists.{every-both, any-list, if-set}

-- ---- a sheet that picks k is counted among the answered sheets of k

picked-by : (b : Bool) (j k : ℕ) → then_some b j ≡ Some k → one_if (eqb j k && b) ≡ 1
picked-by true j k e = ap (λ (b : Bool). one_if (b && true)) (eq-eqb j k (same_Some j k e))
picked-by false j k e = absurd (none-some k e)

counted : (s : IonoState) (d : Call) (k : ℕ) → is_muf d ≡ false → picked_slot s d ≡ Some k → one_if (is_sheet_of s k d) ≡ 1
unfolding picked_slot
counted s (a_muf es f2d clat clck c) k m e = absurd (false≢true (sym m))
counted s (a_sheet j nang layers cells) k m e = picked-by (answered s (a_sheet j nang layers cells)) j k e
counted s (a_nominal points f2m3 es km gcd gcdkm) k m e = absurd (none-some k e)

-- ---- c and each of the calls ds after it

-- by whether d is a MUF, and c
not-together : (b a : Bool) (s : IonoState) (c d : Call) (k m n : ℕ) → is_muf d ≡ b → is_muf c ≡ a → (is_muf c ≡ true → one_if (is_muf d) + m ≡ 0) → one_if (is_sheet_of s k d) + n ≡ 0 → (is_muf d ≡ true → one_if (is_sheet_of s k c) ≡ 0) → picked_slot s c ≡ Some k → picked_slot s d ≡ Some k → ⊥
not-together false a s c d k m n eb ea one none_left none_before p q = omega (arith, counted s d k eb q)
not-together true true s c d k m n eb ea one none_left none_before p q = omega (arith, one ea, ap one_if eb)
not-together true false s c d k m n eb ea one none_left none_before p q = let x = counted s c k ea p in let y = none_before eb in let z : ◌≡◌ {A = ℕ} 0 1 = sym y ∙ x in omega arith

apart : (s : IonoState) (c : Call) (ds : List Call) → (is_muf c ≡ true → mufs_in ds ≡ 0) → ((k : ℕ) → picked_slot s c ≡ Some k → sheets_in s k ds ≡ 0) → Every (λ d. is_muf d ≡ true → (k : ℕ) → picked_slot s d ≡ Some k → one_if (is_sheet_of s k c) ≡ 0) ds → Every (Together s c) ds
unfolding mufs_in sheets_in
apart s c [] one none_left none_before = tt
apart s c (d ∷ ds) one none_left none_before = (
  λ k p q. not-together (is_muf d) (is_muf c) s c d k (mufs_in ds) (sheets_in s k ds) refl refl one (none_left k p) (λ m. none_before.0 m k q) p q,
  apart s c ds (λ m. omega (arith, one m)) (λ k p. omega (arith, none_left k p)) none_before.1,
)

-- what follows from P at each entry is so of every entry
pub every-so : {A : Type 0} (P Q : A → Type 0) (xs : List A) → Every P xs → ((x : A) → P x → Q x) → Every Q xs
every-so P Q xs p f = every-both P P Q xs p p (λ x h _. f x h)

-- no answered sheet of what c picks is left
left_by : (b : Bool) (s : IonoState) (c : Call) (k n : ℕ) → is_muf c ≡ b → one_if (is_sheet_of s k c) + n ≤ 1 → (is_muf c ≡ true → one_if (is_sheet_of s k c) + n ≡ 0) → picked_slot s c ≡ Some k → n ≡ 0
left_by true s c k n e one none_of p = omega (arith, none_of e)
left_by false s c k n e one none_of p = omega (arith, counted s c k e p)

pub words-allowed : (s : IonoState) (calls : List Call) → InWords s calls → Allowed s calls
unfolding mufs_in sheets_in
words-allowed s [] w = tt
words-allowed s (c ∷ cs) w = (
  apart s c cs
      (λ m. omega (arith, ap one_if m))
      (λ k p. left_by (is_muf c) s c k (sheets_in s k cs) refl (w.one-sheet k) (λ m. w.none-of-its-pick.0 m k p) p)
      (every-so _ _ cs w.none-of-its-pick.1 (λ d h m k q. omega (arith, h m k q))),
  words-allowed s cs (record {
    one-muf = omega arith;
    one-sheet = λ k. omega (arith, w.one-sheet k);
    none-of-its-pick = every-so _ _ cs w.none-of-its-pick.1 (λ d h m k q. omega (arith, h m k q));
  }),
)

pub paper-words : PaperWords
paper-words first h = if-set first _ h (λ s e calls w. any-list s calls (words-allowed s calls w))

-- ---- whether a sheet is answered

outcome-by : (a b : Bool) (s t : IonoState) (k : ℕ) (layers others : List LayerMuf) → outcome_of (sheet_by a b gethp_of t k others) ≡ outcome_of (sheet_by a b gethp_of s k layers)
outcome-by true true s t k layers others = refl
outcome-by true false s t k layers others = refl
outcome-by false b s t k layers others = refl

pub refusal-by-arguments : RefusalByArguments
unfolding slot_sheet_with
refusal-by-arguments s t k nang layers others cells = outcome-by (leb k 2) (room_for nang cells) s t k layers others

-- ---- the contracts' definitions

pub with-contracts : WithContracts
unfolding answer_with after_with muf_with es_after
with-contracts =
    record {
      flat-muf = λ s es f2d clat clck c. (refl, refl);
      records-muf = λ s es f2d clat clck c. (refl, refl);
      sheet = λ s k nang layers cells. (refl, refl);
      nominal = λ s points f2m3 es km gcd gcdkm. (refl, refl);
    }
