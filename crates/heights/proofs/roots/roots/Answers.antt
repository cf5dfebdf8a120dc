-- Where all tests are passed the guesses are the roots, of numbers that are what their patterns stand for. Assumes nothing.
use Rattle.std.proofs.Common.{rules}
use mathlib.Core.Path.{◌≡◌, ap}
use Prim.Native.Nat.{ℕ, ◌<◌}
use lib.ListN.{get_or}
use lib.Ieee.{nan, binary32, of_bits}
use Rattle.scalar.specs.F32.{at}
use Rattle.scalar.specs.Root.{sqrt_of}
use Rattle.scalar.proofs.FromFn.{from_fn_each, from_fn_map}
use Rattle.heights.proofs.roots.roots.Goals as goal

pub returns-then-passed-eq80 : goal.returns-then-passed-eq80
returns-then-passed-eq80 c =
    let x = c.args.x in
    let b = c.from_fn-b.result in
    let is : (k : ℕ) → k < 40 → sqrt_of (of_bits binary32 (get_or b k 0)) ≡ sqrt_of (at x k) = λ k l. ap sqrt_of (from_fn_each (λ k y. of_bits binary32 y ≡ at x k) (λ k y q l r. search rules) c.from_fn-b.ensures.items 0 k l) in
    from_fn_map sqrt_of x nan nan (search rules) (λ k y q l r. search (rules, is k l)) c.from_fn.ensures.items

pub returns : goal.returns
returns c = from_fn_map sqrt_of c.args.x nan nan (search rules) (λ k y q l r. search rules) c.from_fn-2.ensures.items
