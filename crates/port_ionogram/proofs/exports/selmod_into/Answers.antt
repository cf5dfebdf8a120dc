-- A slot is at most 2, so that it fits a word.
use Prim.Native.Nat.{◌≤◌}
use borrow.Author.Rules.{rules}
use Rattle.port_ionogram.proofs.ionogram_words.Ranges.{selmod-range}
use Rattle.port_ionogram.proofs.exports.selmod_into.Goals as goal

pub overflow_cast-out : goal.overflow_cast-out
overflow_cast-out c =
    let h : c.selmod.result ≤ 2 = rw c.selmod.ensures (selmod-range _) in
    search (rules, h)
