-- Lines compared are bytes compared. The first line of a text begins with the text's first byte, and no line is empty: so texts
-- whose first bytes differ differ in their first line, and texts that begin alike go on as their rests do, one line further
-- after a line feed.
use Prim.Native.Nat.{ℕ, suc, ◌+◌, ◌≤◌}
use mathlib.Core.Path.{◌≡◌, refl, ap, subst, ◌∙◌}
use mathlib.Core.Bool.{Bool, true, false, cond, ◌&&◌}
use mathlib.Core.List.{List, [], ◌∷◌}
use mathlib.Core.Logic.{◌⊎◌, inl, inr}
use native.Mathlib.Omega.{arith}
use borrow.Author.Tests.{eq-eqb, ne_eqb, eqb-true}
use lib.Dec.{eqb}
use lib.ListN.{length, take}
use Rattle.std.specs.Prelude.{Option, None, Some}
use Rattle.lines.specs.Text.{line_feed}
use Rattle.first_difference.specs.Lines.{in_front, lines_of}
use Rattle.first_difference.specs.Difference.{same_bytes, verdict_from, verdict_of}
use Rattle.first_difference.specs.Closed.{feed_of, feeds_of, common_of, closed_of}

-- two texts byte by byte, from line n on
unfoldable pub by_bytes : ℕ → List ℕ → List ℕ → Option ℕ
by_bytes n [] [] = None
by_bytes n [] (b ∷ t) = Some n
by_bytes n (a ∷ s) [] = Some n
by_bytes n (a ∷ s) (b ∷ t) = cond (eqb a b) (by_bytes (n + feed_of a) s t) (Some n)

-- ---- lines

-- no line is empty
abbrev pub NoneEmpty : List (List ℕ) → Type 0
NoneEmpty [] = Unit {0}
NoneEmpty ([] ∷ ls) = ⊥
NoneEmpty ((a ∷ l) ∷ ls) = NoneEmpty ls

front-some : (b : ℕ) (ls : List (List ℕ)) → NoneEmpty ls → NoneEmpty (in_front b ls)
front-some b [] h = tt
front-some b ([] ∷ ls) h = absurd h
front-some b ((a ∷ l) ∷ ls) h = h

pub lines-some : (t : List ℕ) → NoneEmpty (lines_of t)
unfolding lines_of
lines-some [] = tt
lines-some (b ∷ t) = by (lines-some t) (eqb b line_feed)
  where
    by : NoneEmpty (lines_of t) → (q : Bool) → NoneEmpty (cond q ((b ∷ []) ∷ lines_of t) (in_front b (lines_of t)))
    by r true = r
    by r false = front-some b (lines_of t) r

-- the first line of a text begins with its first byte
record Begins (a : ℕ) (t : List ℕ) : Type 0 where
  pub line : List ℕ
  pub rest : List (List ℕ)
  pub is : lines_of (a ∷ t) ≡ (a ∷ line) ∷ rest

begins : (a : ℕ) (t : List ℕ) → Begins a t
unfolding lines_of
begins a t = by (eqb a line_feed) (lines_of t) refl refl
  where
    by : (q : Bool) (ls : List (List ℕ)) → eqb a line_feed ≡ q → lines_of t ≡ ls → Begins a t
    by true ls e f = record { line = []; rest = ls; is = rw (e, f) }
    by false [] e f = record { line = []; rest = []; is = rw (e, f) }
    by false (l ∷ ls) e f = record { line = l; rest = ls; is = rw (e, f) }

-- ---- a byte in front of both

in-front : (n a : ℕ) (ls ms : List (List ℕ)) → NoneEmpty ls → NoneEmpty ms
    → verdict_from n (in_front a ls) (in_front a ms) ≡ verdict_from n ls ms
unfolding verdict_from same_bytes
in-front n a [] [] h k = rw (eq-eqb a a refl)
in-front n a [] ([] ∷ ms) h k = absurd k
in-front n a [] ((b ∷ m) ∷ ms) h k = rw (eq-eqb a a refl)
in-front n a ([] ∷ ls) ms h k = absurd h
in-front n a ((b ∷ l) ∷ ls) [] h k = rw (eq-eqb a a refl)
in-front n a ((b ∷ l) ∷ ls) (m ∷ ms) h k = rw (eq-eqb a a refl)

apart : (n a b : ℕ) (s t : List ℕ) → eqb a b ≡ false → verdict_from n (lines_of (a ∷ s)) (lines_of (b ∷ t)) ≡ Some n
unfolding verdict_from same_bytes
apart n a b s t e = rw ((begins a s).is, (begins b t).is, e)

alike : (n a : ℕ) (s t : List ℕ) → ((m : ℕ) → verdict_from m (lines_of s) (lines_of t) ≡ by_bytes m s t)
    → verdict_from n (lines_of (a ∷ s)) (lines_of (a ∷ t)) ≡ by_bytes (n + feed_of a) s t
unfolding verdict_from same_bytes lines_of feed_of
alike n a s t r = by (eqb a line_feed)
  where
    by : (q : Bool)
        → verdict_from n (cond q ((a ∷ []) ∷ lines_of s) (in_front a (lines_of s))) (cond q ((a ∷ []) ∷ lines_of t) (in_front a (lines_of t)))
        ≡ by_bytes (n + cond q 1 0) s t
    by true = rw (eq-eqb a a refl) (r (n + 1))
    by false =
        in-front n a (lines_of s) (lines_of t) (lines-some s) (lines-some t)
        ∙ r n
        ∙ ap (λ (m : ℕ). by_bytes m s t) (omega arith)

none_left : (n : ℕ) → verdict_from n (lines_of []) (lines_of []) ≡ None
unfolding lines_of verdict_from
none_left n = refl

longer : (n b : ℕ) (t : List ℕ) → verdict_from n (lines_of []) (lines_of (b ∷ t)) ≡ Some n
unfolding lines_of verdict_from
longer n b t = rw (begins b t).is

shorter : (n a : ℕ) (s : List ℕ) → verdict_from n (lines_of (a ∷ s)) (lines_of []) ≡ Some n
unfolding lines_of verdict_from
shorter n a s = rw (begins a s).is

pub lines-bytes : (s t : List ℕ) (n : ℕ) → verdict_from n (lines_of s) (lines_of t) ≡ by_bytes n s t
unfolding by_bytes
lines-bytes [] [] n = none_left n
lines-bytes [] (b ∷ t) n = longer n b t
lines-bytes (a ∷ s) [] n = shorter n a s
lines-bytes (a ∷ s) (b ∷ t) n = by (lines-bytes s t) (eqb a b) refl
  where
    by : ((m : ℕ) → verdict_from m (lines_of s) (lines_of t) ≡ by_bytes m s t) → (q : Bool) → eqb a b ≡ q
        → verdict_from n (lines_of (a ∷ s)) (lines_of (b ∷ t)) ≡ cond q (by_bytes (n + feed_of a) s t) (Some n)
    by r true e =
        subst (λ (x : ℕ). verdict_from n (lines_of (a ∷ s)) (lines_of (x ∷ t)) ≡ by_bytes (n + feed_of a) s t) (eqb-true a b e)
        (alike n a s t r)
    by r false e = apart n a b s t e

pub compared-bytes : (ours theirs : List ℕ) → verdict_of ours theirs ≡ by_bytes 1 ours theirs
unfolding verdict_of
compared-bytes ours theirs = lines-bytes ours theirs 1

-- ---- the closed form

bytes-closed : (s t : List ℕ) (n : ℕ)
    → by_bytes n s t ≡ cond (same_bytes s t) None (Some (n + feeds_of (take (common_of s t) s)))
unfolding by_bytes same_bytes common_of feeds_of
bytes-closed [] [] n = refl
bytes-closed [] (b ∷ t) n = ap Some (omega arith)
bytes-closed (a ∷ s) [] n = ap Some (omega arith)
bytes-closed (a ∷ s) (b ∷ t) n = by (bytes-closed s t (n + feed_of a)) (eqb a b)
  where
    by : by_bytes (n + feed_of a) s t
        ≡ cond (same_bytes s t) None (Some (n + feed_of a + feeds_of (take (common_of s t) s)))
        → (q : Bool)
        → cond q (by_bytes (n + feed_of a) s t) (Some n)
        ≡ cond (q && same_bytes s t) None (Some (n + feeds_of (take (cond q (suc (common_of s t)) 0) (a ∷ s))))
    by r true =
        r
        ∙ ap (λ (m : ℕ). cond (same_bytes s t) None (Some m)) {x = n + feed_of a + feeds_of (take (common_of s t) s)} (omega arith)
    by r false = ap Some (omega arith)

pub closed-form : (ours theirs : List ℕ) → verdict_of ours theirs ≡ closed_of ours theirs
unfolding closed_of
closed-form ours theirs = compared-bytes ours theirs ∙ bytes-closed ours theirs 1

-- ---- a step of the loop, and its ends

pub feed-most : (b : ℕ) → feed_of b ≤ 1
unfolding feed_of
feed-most b = by (eqb b line_feed)
  where
    by : (q : Bool) → cond q 1 0 ≤ 1
    by true = omega arith
    by false = omega arith

pub on : (s t u v : List ℕ) (a b n : ℕ) → s ≡ a ∷ u → t ≡ b ∷ v → a ≡ b → by_bytes n s t ≡ by_bytes (n + feed_of a) u v
unfolding by_bytes
on s t u v a b n e f h = rw (e, f, eq-eqb a b h)

pub off : (s t u v : List ℕ) (a b n : ℕ) → s ≡ a ∷ u → t ≡ b ∷ v → (a ≡ b → ⊥) → by_bytes n s t ≡ Some n
unfolding by_bytes
off s t u v a b n e f h = rw (e, f, ne_eqb a b h)

-- one has ended, and the other has as many bytes left, or not
pub even : (s t : List ℕ) (n : ℕ) → (length s ≡ 0) ⊎ (length t ≡ 0) → length s ≡ length t → by_bytes n s t ≡ None
unfolding by_bytes
even [] [] n h e = refl
even [] (b ∷ t) n h e = absurd (omega arith)
even (a ∷ s) [] n h e = absurd (omega arith)
even (a ∷ s) (b ∷ t) n (inl h) e = absurd (omega arith)
even (a ∷ s) (b ∷ t) n (inr h) e = absurd (omega arith)

pub uneven : (s t : List ℕ) (n : ℕ) → (length s ≡ 0) ⊎ (length t ≡ 0) → (length s ≡ length t → ⊥) → by_bytes n s t ≡ Some n
unfolding by_bytes
uneven [] [] n h e = absurd (e refl)
uneven [] (b ∷ t) n h e = refl
uneven (a ∷ s) [] n h e = refl
uneven (a ∷ s) (b ∷ t) n (inl h) e = absurd (omega arith)
uneven (a ∷ s) (b ∷ t) n (inr h) e = absurd (omega arith)
