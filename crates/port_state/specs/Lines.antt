-- The four layer lines as the exports read them from words.
use Rattle.std.specs.Prelude.{List, [], ◌∷◌, ℕ, ◌+◌}
use Rattle.port_state.specs.Words.{word, number, signed_of}
use Rattle.layers.specs.declared.LayerMuf.{LayerMuf}

-- eleven words from word i on
unfoldable pub line_of_words : List ℕ → ℕ → LayerMuf
line_of_words w i =
    record {
      sigl = number w i;
      sigu = number w (i + 1);
      delmuf = number w (i + 2);
      hpmuf = number w (i + 3);
      htmuf = number w (i + 4);
      fvmuf = number w (i + 5);
      afmuf = number w (i + 6);
      nhopmf = signed_of (word w (i + 7));
      yfot = number w (i + 8);
      ymuf = number w (i + 9);
      yhpf = number w (i + 10);
    }

-- 44 words: E, F1, F2, Es
unfoldable pub lines_of_words : List ℕ → List LayerMuf
lines_of_words w = line_of_words w 0 ∷ line_of_words w 11 ∷ line_of_words w 22 ∷ line_of_words w 33 ∷ []
