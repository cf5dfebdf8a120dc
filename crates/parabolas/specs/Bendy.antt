-- `bendy` and `pen`: how much a parabolic layer i of slot k raises the virtual height of a frequency that it reflects, and of one that passes through it.
use Rattle.std.specs.Prelude.{Bool, true, false, cond, ◌||◌, List, [], ◌∷◌, ◌≡◌, ℕ, ◌+◌, ◌*◌, ltb, Float, Result, Ok, Err}
use Rattle.scalar.specs.F32.{◌+f◌, ◌-f◌, ◌*f◌, ◌/f◌, at}
use Rattle.scalar.specs.Literals.{f0_5, f0_999, f1, f1_001, f2}
use Rattle.scalar.specs.Scalar.{min_of, max_of}
use Rattle.logarithm.specs.Ln.{ln_of}
use Rattle.refusal.specs.Number.{answer_number}
use Rattle.refusal.specs.declared.Refusal.{Refusal}
use Rattle.layers.specs.declared.IonoState.{IonoState}

-- of a layer's critical frequency fi and semi-thickness yi
unfoldable pub bendy_at : Float → Float → Float → Float
bendy_at fi yi f = let x = min_of (f /f fi) f0_999 in f0_5 *f x *f yi *f ln_of ((f1 +f x) /f (f1 -f x))

unfoldable pub pen_at : Float → Float → Float → Float
pen_at fi yi f = let x = max_of (f /f fi) f1_001 in yi *f ln_of ((f1 +f x) /f (x -f f1)) *f x

-- an F2 over an E layer: its foot, bent by it, and delayed by the E instead of crossing that in a straight line
unfoldable pub height_over_e : Float → Float → Float → Float → Float → Float → Float
height_over_e fi0 yi0 fi2 yi2 hi2 f = hi2 -f yi2 +f bendy_at fi2 yi2 f +f (pen_at fi0 yi0 f -f f2 *f yi0)

unfoldable pub bendy_of : IonoState → ℕ → ℕ → Float → Float
bendy_of s i k f = bendy_at (at s.fi (3 * k + i)) (at s.yi (3 * k + i)) f

unfoldable pub pen_of : IonoState → ℕ → ℕ → Float → Float
pen_of s i k f = pen_at (at s.fi (3 * k + i)) (at s.yi (3 * k + i)) f

-- a layer or a slot number above 2 is refused
abbrev pub layer_answer_by : {A : Type 0} → Bool → Bool → A → Result A Refusal
layer_answer_by true b v = Err Refusal.SlotNumber
layer_answer_by false true v = Err Refusal.SlotNumber
layer_answer_by false false v = Ok v

unfoldable pub bendy_answer : IonoState → ℕ → ℕ → Float → Result Float Refusal
bendy_answer s i k f = layer_answer_by (ltb 2 i) (ltb 2 k) (bendy_of s i k f)

unfoldable pub pen_answer : IonoState → ℕ → ℕ → Float → Result Float Refusal
pen_answer s i k f = layer_answer_by (ltb 2 i) (ltb 2 k) (pen_of s i k f)

-- the value that an answer gives, none beside a refusal
abbrev pub layer_values_of : Result Float Refusal → List Float
layer_values_of (Ok v) = v ∷ []
layer_values_of (Err r) = []

-- by these an answer says: 6, and no value, where a layer or a slot number is above 2; else 0, and the layer's value
unfoldable pub LayerSays : Result Float Refusal → ℕ → ℕ → Float → Type 0
LayerSays r i k v =
    let above = ltb 2 i || ltb 2 k in
    (answer_number r ≡ cond above 6 0) × (layer_values_of r ≡ cond above [] (v ∷ []))
