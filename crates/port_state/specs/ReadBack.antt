-- A state put into words and read again is that state, where the words suffice; so what one call leaves in the words lent is what the next call reads, and the theorem on lists of calls reaches callers in other languages.
use Rattle.std.specs.Prelude.{List, ◌≡◌, ℕ, ◌<◌, ◌≤◌, T, length, Float}
use Rattle.std.specs.Int.Signed.{mag}
use Rattle.std.specs.Float.{binary32}
use Rattle.std.specs.Float.Ieee.{fits}
use Rattle.scalar.specs.F32.{at}
use Rattle.layers.specs.Owners.{owner_slot}
use Rattle.layers.specs.declared.IonoState.{IonoState}
use Rattle.port_state.specs.Words.{word}
use Rattle.port_state.specs.State.{state_words, state_of, state_into}

-- n numbers, each an f32
abbrev pub Floats : ℕ → List Float → Type 0
Floats n l = (length l ≡ n) × ((i : ℕ) → T (fits binary32 (at l i)))

-- The lengths and formats are those of the fields' types, so they hold of every state of the code; so does the bound of `iedp`. The counts are below 2^32, and the owner is no slot above 2.
pub record WordsSuffice (s : IonoState) : Type 0 where
  pub fi-floats : Floats 15 s.fi
  pub yi-floats : Floats 15 s.yi
  pub hi-floats : Floats 15 s.hi
  pub htr-floats : Floats 50 s.htr
  pub fnsq-floats : Floats 50 s.fnsq
  pub fsecv-floats : Floats 3 s.fsecv
  pub km-small : s.km < 0x1_0000_0000
  pub kfx-small : s.kfx < 0x1_0000_0000
  pub iedp-small : mag s.iedp < 0x8000_0000
  pub owner-small : owner_slot s.owner < 3

-- what `state-read-back` says
abbrev pub StateReadBack : Type 0
StateReadBack = (s : IonoState) (w : List ℕ) → WordsSuffice s → state_words ≤ length w → state_of (state_into s w) ≡ s

-- what `words-suffice` says: they do for every state that is read from words
abbrev pub WordsSufficeRead : Type 0
WordsSufficeRead = (w : List ℕ) → state_words ≤ length w → ((i : ℕ) → word w i < 0x1_0000_0000) → WordsSuffice (state_of w)
