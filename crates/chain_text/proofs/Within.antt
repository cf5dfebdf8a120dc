-- Every record of a chain that was followed to its end is in the file, and there are at most 64 of them. So the text has at most 4,057 bytes: a line has three numbers of at most twenty digits, two spaces and the line feed.
use mathlib.Core.Path.{◌≡◌}
use mathlib.Core.List.{List}
use Prim.Native.Nat.{ℕ, ◌+◌, ◌*◌, ◌≤◌, ◌<◌}
use native.Mathlib.Omega.{arith}
use lib.ListN.{length, get_or, take, length-take}
use lib.Seq.{get_or-take}
use Rattle.std.specs.Prelude.{Ok}
use Rattle.lines.proofs.Sizes.{AtMost, ◌then◌, word, line-feed, decimal, field, times}
use Rattle.records.specs.declared.record_chain.Chain.{Chain}
use Rattle.records.specs.Record.{form64, record_at, kind_of, next_of}
use Rattle.records.specs.Chain.{chain_of}
use Rattle.records.proofs.Lists.{fit64}
use Rattle.records.proofs.record_chain.Followed.{Followed, followed, there, count-range}
use Rattle.chain_text.specs.ChainText.{step_line, step_line_at, end_word, end_line, followed_text}

pub within : (f : List ℕ) (k : Chain) → chain_of form64 f ≡ Ok k
    → (k.count ≤ 64) × ((i : ℕ) → 64 * get_or k.order i 0 + 64 ≤ length f)
within f k e =
    let t : Followed form64 f k = followed form64 fit64 f k e in
    let n = count-range form64 f k t in
    (omega (arith, t.head.most, n.1), there form64 f k t)

-- the record of a step, in the list that a loop goes along
pub step_there : (f : List ℕ) (k : Chain) (i : ℕ) → chain_of form64 f ≡ Ok k → i < length (take k.count k.order)
    → 64 * get_or (take k.count k.order) i 0 + 64 ≤ length f
step_there f k i e h =
    let l : i < k.count = let m = length-take k.count k.order in omega arith in
    rw (get_or-take k.count k.order i 0 l) ((within f k e).1 i)

step-most : (r : List ℕ) (n : ℕ) → AtMost (step_line r n) 63
unfolding step_line
step-most r n = decimal n then field (kind_of r) then field (next_of r) then line-feed

end-most : (n : ℕ) → AtMost (end_line n) 25
unfolding end_line
end-most n = word end_word then decimal n then line-feed

pub followed-most : (f : List ℕ) (k : Chain) → chain_of form64 f ≡ Ok k → AtMost (followed_text f k) 4057
unfolding followed_text
followed-most f k e =
    let steps = times (step_line_at f k.order) 63 k.count (λ i l. step-most (record_at form64 f (get_or k.order i 0)) (get_or k.order i 0)) in
    let t = steps then end-most k.count in
    record { most = omega (arith, t.most, (within f k e).0) }
