-- How many bytes a text has at most, piece by piece: a program adds them up once, over its whole text.
use mathlib.Core.List.{List, [], ◌∷◌, ◌++◌}
use Prim.Native.Nat.{ℕ, zero, suc, ◌+◌, ◌*◌, ◌^◌, ◌≤◌, ◌<◌}
use native.Mathlib.Omega.{arith}
use lib.ListN.{length, length-append}
use Rattle.refusal.specs.declared.Refusal.{Refusal}
use Rattle.refusal.specs.Number.{number_of}
use Rattle.lines.specs.Text.{line_feed, decimal_of, hex_of, field_of, refused_word, refused_text, joined}
use Rattle.lines.proofs.Decimals.{length_digits, length-decimal, length-below}

-- A text has at most n bytes.
pub record AtMost (text : List ℕ) (n : ℕ) : Type 0 where
  pub most : length text ≤ n

infixr 60 ◌then◌
pub ◌then◌ : {t u : List ℕ} {m n : ℕ} → AtMost t m → AtMost u n → AtMost (t ++ u) (m + n)
◌then◌ {t} {u} p q = record { most = omega (arith, p.most, q.most, length-append t u) }

-- a word, by counting
pub word : (t : List ℕ) → AtMost t (length t)
word t = record { most = omega arith }

pub line-feed : AtMost (line_feed ∷ []) 1
line-feed = word (line_feed ∷ [])

-- a number below 2 ^ 64, and one below 10 ^ (k + 1)
pub decimal : (n : ℕ) → AtMost (decimal_of n) 20
decimal n = record { most = length-decimal n }

pub digits-below : (k n : ℕ) → n < 10 ^ suc k → AtMost (decimal_of n) (suc k)
digits-below k n h = record { most = length-below k n h }

pub field : (n : ℕ) → AtMost (field_of n) 21
unfolding field_of
field n = record { most = omega (arith, length-decimal n) }

pub hex : (n : ℕ) → AtMost (hex_of n) 8
unfolding hex_of
hex n = record { most = omega (arith, length_digits 16 8 n) }

pub refused : (r : Refusal) → AtMost (refused_text r) 29
unfolding refused_text
refused r = word refused_word then decimal (number_of r) then line-feed

-- n texts of at most m bytes
pub times : (text : ℕ → List ℕ) (m n : ℕ) → ((i : ℕ) → i < n → AtMost (text i) m) → AtMost (joined text n) (m * n)
unfolding joined
times text m zero h = record { most = omega arith }
times text m (suc n) h =
    let r = times text m n (λ i l. h i (omega arith)) then h n (omega arith) in
    record { most = omega (arith, r.most) }
