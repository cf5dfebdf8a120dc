-- An hour as words, its 54 in the order of its fields, and the one word of the Es rows that is rewritten.
use Rattle.muf.specs.declared.sporadic.Rewrite.{Rewrite}
use Rattle.std.specs.Prelude.{List, [], ◌∷◌, ℕ, ◌+◌, ◌*◌, set, Option, Some, None, ◌<◌, ⊤}
use Rattle.std.specs.Float.{binary32}
use Rattle.std.specs.Float.Ieee.{to_bits}
use Rattle.layers.specs.State.{layer_line_at}
use Rattle.layers.specs.declared.LayerMuf.{LayerMuf}
use Rattle.muf.specs.declared.MufHour.{MufHour}
use Rattle.port_state.specs.Words.{floats_into, word_of, count_word}

-- a layer's eleven words from word `from` on, in the order of its fields: the hop count is the eighth
unfoldable pub ten_into : LayerMuf → ℕ → List ℕ → List ℕ
ten_into l from w =
    let a = floats_into w from (l.sigl ∷ l.sigu ∷ l.delmuf ∷ l.hpmuf ∷ l.htmuf ∷ l.fvmuf ∷ l.afmuf ∷ []) in
    floats_into a (from + 8) (l.yfot ∷ l.ymuf ∷ l.yhpf ∷ [])

unfoldable pub line_into : LayerMuf → ℕ → List ℕ → List ℕ
line_into l from w = set (ten_into l from w) (from + 7) (word_of l.nhopmf)

-- words 0 to 9
unfoldable pub head_into : MufHour → List ℕ → List ℕ
head_into h w =
    let a = floats_into w 0 (h.emuf ∷ h.f1muf ∷ h.f2muf ∷ h.esmuf ∷ h.allmuf ∷ h.fot ∷ h.hpf ∷ h.angmuf ∷ []) in
    set (set a 8 (word_of h.modmuf)) 9 (count_word h.ks)

-- words 0 to 53: then E, F1, F2 and Es
unfoldable pub hour_into : MufHour → List ℕ → List ℕ
hour_into h w =
    let e = line_into (layer_line_at h.layers 0) 10 (head_into h w) in
    let f1 = line_into (layer_line_at h.layers 1) 21 e in
    let f2 = line_into (layer_line_at h.layers 2) 32 f1 in
    line_into (layer_line_at h.layers 3) 43 f2

-- the word of a row that is rewritten is there, of n words
abbrev pub WordThere : Option Rewrite → ℕ → Type 0
WordThere (Some w) n = 4 * w.ksx < n
WordThere None n = ⊤

-- only the word of the controlling row's lower decile is rewritten
abbrev pub words_by : Option Rewrite → List ℕ → List ℕ
words_by (Some w) es = set es (4 * w.ksx) (to_bits binary32 w.lower)
words_by None es = es
