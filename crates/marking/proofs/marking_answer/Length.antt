-- A marking's line has at most 29 bytes: a word of eight, the number's twenty digits, the line feed.
use native.Mathlib.Omega.{arith}
use Rattle.std.specs.Prelude.{ℕ, Option, None, Some, Result, Ok, Err}
use Rattle.lines.proofs.Sizes.{AtMost, ◌then◌, word, line-feed, decimal, refused}
use Rattle.marking.specs.Text.{same_line, differs_word, differs_text, marking_text}
use Rattle.refusal.specs.declared.Refusal.{Refusal}

pub marking-most : (m : Result (Option ℕ) Refusal) → AtMost (marking_text m) 29
unfolding differs_text
marking-most (Ok None) = let t = word same_line in record { most = omega (arith, t.most) }
marking-most (Ok (Some n)) = word differs_word then decimal n then line-feed
marking-most (Err r) = refused r
