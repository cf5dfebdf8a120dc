-- A state as words: fi, yi, hi (15 each), km, kfx, htr and fnsq (50 each), rises, fsecv (3), iedp, ielect, owner, the switch of the exact height rule.
use Rattle.std.specs.Prelude.{List, ℕ, set}
use Rattle.layers.specs.State.{zero_state, with_tables, with_km, with_kfx, with_profile, with_fsecv, with_iedp, with_ielect, with_owner, with_exact}
use Rattle.layers.specs.declared.IonoState.{IonoState}
use Rattle.port_state.specs.Owners.{owner_of_word, word_of_owner}
use Rattle.port_state.specs.Words.{word, floats_of, floats_into, signed_of, word_of, yes_of, flag_of, count_word}

-- how many they are, for every call that takes a state
abbrev pub state_words : ℕ
state_words = 155

unfoldable pub state_of : List ℕ → IonoState
state_of w =
    let a = with_tables zero_state (floats_of w 0 15) (floats_of w 15 15) (floats_of w 30 15) in
    let b = with_kfx (with_km a (word w 45)) (word w 46) in
    let c = with_profile b (floats_of w 47 50) (floats_of w 97 50) (yes_of (word w 147)) in
    let d = with_fsecv c (floats_of w 148 3) in
    let e = with_ielect (with_iedp d (signed_of (word w 151))) (yes_of (word w 152)) in
    with_owner (with_exact e (yes_of (word w 154))) (owner_of_word (word w 153))

-- words 0 to 44
unfoldable pub tables_into : IonoState → List ℕ → List ℕ
tables_into s w = floats_into (floats_into (floats_into w 0 s.fi) 15 s.yi) 30 s.hi

-- words 47 to 146 and 148 to 150
unfoldable pub profile_into : IonoState → List ℕ → List ℕ
profile_into s w = floats_into (floats_into (floats_into w 47 s.htr) 97 s.fnsq) 148 s.fsecv

-- words 45 and 46
unfoldable pub counts_into : IonoState → List ℕ → List ℕ
counts_into s w = set (set w 45 (count_word s.km)) 46 (count_word s.kfx)

-- words 147, 151 and 152
unfoldable pub flags_into : IonoState → List ℕ → List ℕ
flags_into s w = set (set (set w 147 (flag_of s.htr_rises)) 151 (word_of s.iedp)) 152 (flag_of s.ielect)

-- word 153: the owner as stored
unfoldable pub owner_into : IonoState → List ℕ → List ℕ
owner_into s w = set w 153 (word_of_owner s.owner)

-- word 154
unfoldable pub exact_into : IonoState → List ℕ → List ℕ
exact_into s w = set w 154 (flag_of s.exact_virtual_height)

-- words past the state's stay
unfoldable pub state_into : IonoState → List ℕ → List ℕ
state_into s w = exact_into s (owner_into s (flags_into s (counts_into s (profile_into s (tables_into s w)))))
