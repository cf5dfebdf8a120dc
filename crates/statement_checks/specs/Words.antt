-- Lists of calls in the paper's words, and the mark in place of refusal 13.
use Rattle.std.specs.Prelude.{true, false, ◌||◌, List, [], ◌∷◌, ◌≡◌, ℕ, ℤ, Float, Some}
use Rattle.scalar.specs.F32.{◌<f◌, ◌>f◌, negf}
use Rattle.scalar.specs.Literals.{f4}
use Rattle.layers.specs.declared.IonoState.{IonoState}
use Rattle.layers.specs.declared.LayerMuf.{LayerMuf}
use Rattle.layers.specs.declared.LayerParams.{LayerParams}
use Rattle.layers.specs.declared.EsParams.{EsParams}
use Rattle.layer_mufs.specs.declared.PathNumbers.{PathNumbers}
use Rattle.any_waves.specs.AnyWaves.{marked}
use Rattle.call_lists.specs.Calls.{EsRows, Call, a_muf, a_sheet, a_nominal, answered, picked_slot}
use Rattle.call_lists.specs.PaperWords.{InWords}

-- what `paper-words` holds of
pub record WordsAsRead : Type 0 where
  -- nominal MUFs and refused sheets, in any number
  pub nominal : (s : IonoState) (calls : List Call) (points : List LayerParams) (f2m3 : List Float) (es : List EsParams) (km : ℕ) (gcd gcdkm : Float)
      → InWords s calls → InWords s (a_nominal points f2m3 es km gcd gcdkm ∷ calls)
  pub refused : (s : IonoState) (calls : List Call) (k nang : ℕ) (layers : List LayerMuf) (cells : List ℤ)
      → answered s (a_sheet k nang layers cells) ≡ false → InWords s calls → InWords s (a_sheet k nang layers cells ∷ calls)
  -- a MUF and a sheet of a slot that it does not pick, and sheets of two slots
  pub muf-and-sheet : (s : IonoState) (es : EsRows) (f2d clat clck : List Float) (c : PathNumbers) (k nang : ℕ) (layers : List LayerMuf) (cells : List ℤ)
      → (picked_slot s (a_muf es f2d clat clck c) ≡ Some k → ⊥) → InWords s (a_muf es f2d clat clck c ∷ (a_sheet k nang layers cells ∷ []))
  pub two-sheets : (s : IonoState) (j k m n : ℕ) (layers lines : List LayerMuf) (cells rows : List ℤ)
      → (j ≡ k → ⊥) → InWords s (a_sheet j m layers cells ∷ (a_sheet k n lines rows ∷ []))

-- what `mark-unmet` holds of: the mark stands wherever an angle is below -4 or above 4
pub record MarkStands : Type 0 where
  pub sine : (mark x : Float) → (x <f negf f4 || x >f f4) ≡ true → (marked mark).sine x ≡ mark
  pub cosine : (mark x : Float) → (x <f negf f4 || x >f f4) ≡ true → (marked mark).cosine x ≡ mark
