-- An i32 that is not below zero is its own size, and of one below zero and 0 the greater is 0.
use mathlib.Core.Path.{◌≡◌, refl}
use Prim.Native.Nat.{ℕ, zero, suc, ◌<◌}
use native.Mathlib.Omega.{arith}
use lib.Dec.{T}
use lib.IntN.{ℤ, pos, negsuc, nat_abs}
use lib.Signed.{non_neg, mag}
use mir.Syntax.{w64}
use mir.Val.{Fits}
use mir.Facts.{to_z-of_z}
use borrow.Author.Rules.{rules}
use borrow.Author.Tests.{lt-ltb}
use Rattle.std.specs.Int.{int_max}
use Rattle.sheet_text.specs.SheetLines.{natural}
use Rattle.sheet_text.proofs.sheet_lines.mode.Goals as goal

itself : (n : ℕ) → int_max (pos n) (pos 0) ≡ pos n
itself zero = refl
itself (suc n) = rw (lt-ltb 0 (suc n) (omega arith)) refl

greater : (z : ℤ) → nat_abs (int_max z (pos 0)) ≡ natural z
greater (pos n) = rw (itself n) refl
greater (negsuc n) = refl

castable : (z : ℤ) → mag z < 0x8000_0000 → T (non_neg (int_max z (pos 0))) × Fits w64 (nat_abs (int_max z (pos 0)))
castable (pos n) m = rw (itself n) (tt, record { fits = omega arith })
castable (negsuc n) m = (tt, record { fits = omega arith })

pub overflow_cast-result : goal.overflow_cast-result
overflow_cast-result c =
    let z = c.args.h.now.modmuf in
    let m : mag z < 0x8000_0000 = search rules in
    rw (to_z-of_z {z = c.max.result} (record { sfits = c.max.type_inv }), c.max.ensures.value, to_z-of_z {z = z} (record { sfits = m })) (castable z m)

pub returns : goal.returns
returns c =
    let z = c.args.h.now.modmuf in
    let m : mag z < 0x8000_0000 = search rules in
    rw (to_z-of_z {z = c.max.result} (record { sfits = c.max.type_inv }), c.max.ensures.value, to_z-of_z {z = z} (record { sfits = m })) (greater z)
