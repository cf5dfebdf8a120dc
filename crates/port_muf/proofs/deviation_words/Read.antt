-- A float read with others is that of its word.
use mathlib.Core.Path.{◌≡◌}
use mathlib.Core.List.{List}
use Prim.Native.Nat.{ℕ, ◌<◌, ◌≤◌}
use native.Mathlib.Omega.{arith}
use lib.Ieee.{nan, binary32, of_bits}
use lib.ListN.{length, get_or, take}
use Rattle.std.proofs.lemmas.List.{get_or-map, get_or-take, length-take-le}
use Rattle.port_state.specs.Words.{number, floats_of}

pub float-read : (w : List ℕ) (n i : ℕ) → i < n → n ≤ length w → get_or (floats_of w 0 n) i nan ≡ number w i
unfolding floats_of
float-read w n i h l =
    let m = length-take-le n w l in
    rw (get_or-map (of_bits binary32) (take n w) i 0 nan (omega arith)) (rw (get_or-take n w i 0 h))
