-- Case by case; a slot below 3 is one of three.
use mathlib.Core.Path.{refl, ap}
use Prim.Native.Nat.{◌+◌}
use native.Mathlib.Omega.{arith}
use borrow.Author.Tests.{lt-ltb, ne_eqb, le-leb}
use Rattle.layers.specs.declared.Owner.{Owner}
use Rattle.port_state.specs.Owners.{owner_of_word, OwnerReadBack}

pub owner-read-back : OwnerReadBack
unfolding owner_of_word
owner-read-back Owner.None h = refl
owner-read-back (Owner.Slot k) h =
    rw (lt-ltb k 3 h, ne_eqb (k + 1) 4 (λ e. absurd (omega arith)), le-leb 1 (k + 1) (omega arith), le-leb (k + 1) 3 (omega arith))
    (ap Owner.Slot (omega arith))
owner-read-back Owner.Supplied h = refl
