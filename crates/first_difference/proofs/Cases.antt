-- The paper's cases, byte by byte: after a common beginning of whole lines the next line differs, and lines with their line feeds
-- are as many as line feeds.
use Prim.Native.Nat.{ℕ, ◌+◌, ◌≤◌}
use mathlib.Core.Path.{◌≡◌, refl, sym, ap, ◌∙◌}
use mathlib.Core.Bool.{Bool, true, false, cond}
use mathlib.Core.List.{List, [], ◌∷◌, ◌++◌}
use mathlib.Core.Logic.{inl, inr}
use native.Mathlib.Omega.{arith}
use borrow.Author.Tests.{eq-eqb, ne_eqb}
use lib.Dec.{eqb}
use lib.ListN.{length}
use Rattle.std.specs.Prelude.{Some}
use Rattle.lines.specs.Text.{line_feed}
use Rattle.first_difference.specs.Lines.{in_front, lines_of}
use Rattle.first_difference.specs.Difference.{verdict_of}
use Rattle.first_difference.specs.Closed.{feed_of, feeds_of}
use Rattle.first_difference.specs.Laws.{Ended, carriage_return}
use Rattle.first_difference.proofs.Bytes.{by_bytes, compared-bytes, feed-most}

-- ---- after a common beginning

-- theirs ends there
short-after : (t rest : List ℕ) (n : ℕ) → (rest ≡ [] → ⊥) → by_bytes n (t ++ rest) t ≡ Some (n + feeds_of t)
unfolding by_bytes feeds_of
short-after [] [] n h = absurd (h refl)
short-after [] (a ∷ rest) n h = ap Some (omega arith)
short-after (b ∷ t) rest n h =
    rw (eq-eqb b b refl) (short-after t rest (n + feed_of b) h ∙ ap Some {x = n + feed_of b + feeds_of t} (omega arith))

-- ours ends there
long_after : (s rest : List ℕ) (n : ℕ) → (rest ≡ [] → ⊥) → by_bytes n s (s ++ rest) ≡ Some (n + feeds_of s)
unfolding by_bytes feeds_of
long_after [] [] n h = absurd (h refl)
long_after [] (a ∷ rest) n h = ap Some (omega arith)
long_after (b ∷ s) rest n h =
    rw (eq-eqb b b refl) (long_after s rest (n + feed_of b) h ∙ ap Some {x = n + feed_of b + feeds_of s} (omega arith))

-- another byte
byte-after : (p s t : List ℕ) (a b n : ℕ) → (a ≡ b → ⊥) → by_bytes n (p ++ (a ∷ s)) (p ++ (b ∷ t)) ≡ Some (n + feeds_of p)
unfolding by_bytes feeds_of
byte-after [] s t a b n h = rw (ne_eqb a b h) (ap Some (omega arith))
byte-after (c ∷ p) s t a b n h =
    rw (eq-eqb c c refl) (byte-after p s t a b (n + feed_of c) h ∙ ap Some {x = n + feed_of c + feeds_of p} (omega arith))

pub other_byte : (p s t : List ℕ) (a b : ℕ) → (a ≡ b → ⊥) → verdict_of (p ++ (a ∷ s)) (p ++ (b ∷ t)) ≡ Some (1 + feeds_of p)
other_byte p s t a b h = compared-bytes (p ++ (a ∷ s)) (p ++ (b ∷ t)) ∙ byte-after p s t a b 1 h

apart : line_feed ≡ carriage_return → ⊥
apart e = omega arith

pub other-return : (p s t : List ℕ) → verdict_of (p ++ (line_feed ∷ s)) (p ++ (carriage_return ∷ (line_feed ∷ t))) ≡ Some (1 + feeds_of p)
other-return p s t = other_byte p s (line_feed ∷ t) line_feed carriage_return apart

-- ---- lines and line feeds

front_length : (b : ℕ) (ls : List (List ℕ)) → 1 ≤ length ls → length (in_front b ls) ≡ length ls
front_length b [] h = absurd (omega arith)
front_length b (l ∷ ls) h = refl

-- of a text that ends with a line feed
lines-feeds : (p : List ℕ) → (length (lines_of (p ++ (line_feed ∷ []))) ≡ feeds_of (p ++ (line_feed ∷ []))) × (1 ≤ feeds_of (p ++ (line_feed ∷ [])))
unfolding lines_of feeds_of feed_of
lines-feeds [] = (refl, omega arith)
lines-feeds (b ∷ p) = by (lines-feeds p) (eqb b line_feed)
  where
    t : List ℕ
    t = p ++ (line_feed ∷ [])

    by : (length (lines_of t) ≡ feeds_of t) × (1 ≤ feeds_of t) → (q : Bool)
        → (length (cond q ((b ∷ []) ∷ lines_of t) (in_front b (lines_of t))) ≡ cond q 1 0 + feeds_of t) × (1 ≤ cond q 1 0 + feeds_of t)
    by r true = (omega (arith, r.0), omega (arith, r.1))
    by r false =
        let h : 1 ≤ length (lines_of t) = omega (arith, r.0, r.1) in
        (front_length b (lines_of t) h ∙ r.0 ∙ omega arith, omega (arith, r.1))

-- the text's lines are as many as its line feeds
ended-lines : (t : List ℕ) → Ended t → length (lines_of t) ≡ feeds_of t
unfolding lines_of feeds_of
ended-lines t (inl e) = rw e
ended-lines t (inr (p, e)) = rw e (lines-feeds p).0

feeds-end : (t : List ℕ) → feeds_of (t ++ (line_feed ∷ [])) ≡ 1 + feeds_of t
unfolding feeds_of feed_of
feeds-end [] = refl
feeds-end (b ∷ t) = let r = feeds-end t in omega (arith, r)

-- ---- the cases

pub ends-early : (theirs rest : List ℕ) → Ended theirs → (rest ≡ [] → ⊥)
    → verdict_of (theirs ++ rest) theirs ≡ Some (1 + length (lines_of theirs))
ends-early theirs rest e h =
    compared-bytes (theirs ++ rest) theirs ∙ short-after theirs rest 1 h ∙ ap (λ (n : ℕ). Some (1 + n)) (sym (ended-lines theirs e))

pub is-empty : (ours : List ℕ) → (ours ≡ [] → ⊥) → verdict_of ours [] ≡ Some 1
unfolding feeds_of
is-empty ours h = compared-bytes ours [] ∙ short-after [] ours 1 h

pub feed-missing : (theirs : List ℕ)
    → verdict_of (theirs ++ (line_feed ∷ [])) theirs ≡ Some (length (lines_of (theirs ++ (line_feed ∷ []))))
feed-missing theirs =
    compared-bytes (theirs ++ (line_feed ∷ [])) theirs
    ∙ short-after theirs (line_feed ∷ []) 1 some
    ∙ ap Some (sym ((lines-feeds theirs).0 ∙ feeds-end theirs))
  where
    some : line_feed ∷ [] ≡ [] → ⊥
    some e = let z : ◌≡◌ {A = ℕ} 0 1 = cc in omega arith

pub goes_on : (ours rest : List ℕ) → Ended ours → (rest ≡ [] → ⊥)
    → verdict_of ours (ours ++ rest) ≡ Some (1 + length (lines_of ours))
goes_on ours rest e h =
    compared-bytes ours (ours ++ rest) ∙ long_after ours rest 1 h ∙ ap (λ (n : ℕ). Some (1 + n)) (sym (ended-lines ours e))

-- ---- at most one line for each byte

bytes_most : (s t : List ℕ) (n k : ℕ) → by_bytes n s t ≡ Some k → k ≤ n + length t
unfolding by_bytes
bytes_most [] [] n k e = let z : ◌≡◌ {A = ℕ} 0 1 = cc in absurd (omega arith)
bytes_most [] (b ∷ t) n k e = let z : n ≡ k = cc in omega arith
bytes_most (a ∷ s) [] n k e = let z : n ≡ k = cc in omega arith
bytes_most (a ∷ s) (b ∷ t) n k e = by (λ (h : by_bytes (n + feed_of a) s t ≡ Some k). bytes_most s t (n + feed_of a) k h) (eqb a b) e
  where
    by : (by_bytes (n + feed_of a) s t ≡ Some k → k ≤ n + feed_of a + length t) → (q : Bool)
        → cond q (by_bytes (n + feed_of a) s t) (Some n) ≡ Some k
        → k ≤ n + length (b ∷ t)
    by r true h = omega (arith, r h, feed-most a)
    by r false h = let z : n ≡ k = cc in omega arith

pub line-most : (ours theirs : List ℕ) (n : ℕ) → verdict_of ours theirs ≡ Some n → n ≤ 1 + length theirs
line-most ours theirs n e = bytes_most ours theirs 1 n (sym (compared-bytes ours theirs) ∙ e)
