-- Along the list.
use mathlib.Core.Bool.{Bool, true, false, ◌&&◌}
use mathlib.Core.List.{List, [], ◌∷◌}
use Rattle.std.specs.Prelude.{Some}
use mathlib.Core.Path.{◌≡◌, refl, sym, ap, ◌∙◌}
use Prim.Native.Nat.{ℕ, ◌+◌, ◌≤◌}
use native.Mathlib.Omega.{arith}
use borrow.Author.Tests.{eqb-true}
use lib.Dec.{eqb}
use lib.IntN.{ℤ}
use lib.Ieee.{Float}
use Rattle.readings.specs.Cursor.{one_if}
use Rattle.layers.specs.declared.IonoState.{IonoState}
use Rattle.layers.specs.declared.LayerMuf.{LayerMuf}
use Rattle.layer_mufs.specs.declared.PathNumbers.{PathNumbers}
use Rattle.call_lists.specs.Calls.{EsRows, Call, a_muf, a_sheet, a_nominal, answered, picked_slot}
use Rattle.call_lists.specs.PaperWords.{is_muf, is_sheet_of, mufs_in, sheets_in, InWords}
use Rattle.call_lists.proofs.PaperWords.{every-so}
use Rattle.std.proofs.lemmas.Bool.{false≢true, and_right}
use Rattle.statement_checks.specs.Words.{WordsAsRead, MarkStands}

one-most : (b : Bool) → one_if b ≤ 1
one-most true = omega arith
one-most false = omega arith

-- ---- a call that is neither counted as a MUF nor as a sheet

kept : (s : IonoState) (c : Call) (calls : List Call) → is_muf c ≡ false → ((k : ℕ) → is_sheet_of s k c ≡ false) → InWords s calls → InWords s (c ∷ calls)
unfolding mufs_in sheets_in
kept s c calls m n w =
    record {
      one-muf = omega (arith, ap one_if m);
      one-sheet = λ k. omega (arith, ap one_if (n k), w.one-sheet k);
      none-of-its-pick = (
        λ e k p. absurd (false≢true (sym m ∙ e)),
        every-so _ _ calls w.none-of-its-pick (λ d h e k p. omega (arith, ap one_if (n k), h e k p)),
      );
    }

-- ---- two calls

other : (j k : ℕ) (b a : Bool) → eqb j k ≡ b → (j ≡ k → ⊥) → one_if (b && a) ≡ 0
other j k true a e h = absurd (h (eqb-true j k e))
other j k false a e h = refl

-- at most one of two sheets is of slot i
one_of : (j k i : ℕ) (x y a b : Bool) → eqb j i ≡ x → eqb k i ≡ y → (j ≡ k → ⊥) → one_if (x && a) + (one_if (y && b) + 0) ≤ 1
one_of j k i true true a b p q h = absurd (h (eqb-true j i p ∙ sym (eqb-true k i q)))
one_of j k i true false a b p q h = let z = one-most a in omega arith
one_of j k i false true a b p q h = let z = one-most b in omega arith
one_of j k i false false a b p q h = omega arith

muf-and-sheet : (s : IonoState) (es : EsRows) (f2d clat clck : List Float) (c : PathNumbers) (k nang : ℕ) (layers : List LayerMuf) (cells : List ℤ) → (picked_slot s (a_muf es f2d clat clck c) ≡ Some k → ⊥) → InWords s (a_muf es f2d clat clck c ∷ (a_sheet k nang layers cells ∷ []))
unfolding mufs_in sheets_in
muf-and-sheet s es f2d clat clck c k nang layers cells h =
    let a = answered s (a_sheet k nang layers cells) in
    record {
      one-muf = omega arith;
      one-sheet = λ i. let z = one-most (eqb k i && a) in omega arith;
      none-of-its-pick = (
        λ e i p. let z = other k i (eqb k i) a refl (λ (d : k ≡ i). h (p ∙ ap Some (sym d))) in omega arith,
        (λ e i p. absurd (false≢true e), tt),
      );
    }

two-sheets : (s : IonoState) (j k m n : ℕ) (layers lines : List LayerMuf) (cells rows : List ℤ) → (j ≡ k → ⊥) → InWords s (a_sheet j m layers cells ∷ (a_sheet k n lines rows ∷ []))
unfolding mufs_in sheets_in
two-sheets s j k m n layers lines cells rows h =
    record {
      one-muf = omega arith;
      one-sheet = λ i. one_of j k i (eqb j i) (eqb k i) (answered s (a_sheet j m layers cells)) (answered s (a_sheet k n lines rows)) refl refl h;
      none-of-its-pick = (λ e i p. absurd (false≢true e), (λ e i p. absurd (false≢true e), tt));
    }

pub words-as-read : WordsAsRead
words-as-read =
    record {
      nominal = λ s calls points f2m3 es km gcd gcdkm w. kept s (a_nominal points f2m3 es km gcd gcdkm) calls refl (λ k. refl) w;
      refused = λ s calls k nang layers cells e w. kept s (a_sheet k nang layers cells) calls refl (λ i. and_right (eqb k i) (answered s (a_sheet k nang layers cells)) e) w;
      muf-and-sheet = muf-and-sheet;
      two-sheets = two-sheets;
    }

pub mark-stands : MarkStands
mark-stands = record { sine = λ mark x e. rw e; cosine = λ mark x e. rw e }
