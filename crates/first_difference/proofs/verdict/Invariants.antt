-- What is left of both, line and all, has the verdict of the whole; each byte past gave one line at most.
use Rattle.std.proofs.Common.{◌≡◌, ◌+◌, ◌≤◌, length}
use Rattle.first_difference.proofs.Bytes.{by_bytes}
use Rattle.first_difference.proofs.verdict.Given as goal

abbrev pub invariant-loop-a : goal.invariant-loop-a
invariant-loop-a l =
    let ours = l.a-iterator.a.rest.now in
    let theirs = l.a-iterator.b.rest.now in
    (l.line + length ours ≤ 1 + length l.ours)
    × (length ours + length l.theirs ≡ length theirs + length l.ours)
    × (by_bytes l.line ours theirs ≡ by_bytes 1 l.ours l.theirs)
