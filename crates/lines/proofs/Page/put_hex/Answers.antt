-- Eight is the fewest digits that `io::hex` gives at that width, since they hold every u32.
use mathlib.Core.Path.{ap, ◌∙◌}
use Prim.Native.Nat.{ℕ}
use native.Mathlib.Omega.{arith}
use Rattle.io.specs.Digits.{last_digits}
use Rattle.lines.specs.Text.{hex_of}
use Rattle.lines.proofs.Decimals.{fewest-hex}
use Rattle.lines.proofs.Page.put_hex.Goals as goal

pub returns : goal.returns
unfolding hex_of
returns g c =
    let h = c.hex-k in
    let k = fewest-hex _ _ (omega arith) h.ensures.len in
    let e = h.ensures.digits ∙ ap (λ (n : ℕ). last_digits 16 n c.args.n) k in
    rw (← e) c.put_word.ensures
