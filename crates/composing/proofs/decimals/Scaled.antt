-- n moved up by 32 and the difference of the leading zeros, over 2 ^ 8 d, has 24 digits or 25.
use mathlib.Core.Path.{◌≡◌, sym, ap, ◌∙◌}
use Prim.Native.Nat.{ℕ, suc, ◌+◌, ◌-◌, ◌*◌, ◌^◌, ◌≤◌, ◌<◌}
use native.Mathlib.Nat.{le_trans, le_of_eq, lt_of_lt_of_le, lt_of_le_of_lt, mul-le-mul_right, mul-lt-mul_of_pos_right}
use native.Mathlib.Omega.{arith}
use lib.Dec.{lit≤}
use lib.Pow.{pow-add, pow_pos, pow_mono}
use lib.Count.{count_leading_zeros, leading_top}
use Rattle.scalar.proofs.Normalise.{pow_lt_back}

pub record Scaled (n d z y : ℕ) : Type 0 where
  pub less : y ≤ 32 + z
  pub places : 32 + z - y < 64
  pub room : n * 2 ^ (32 + z - y) < 2 ^ 64
  pub most : z < 64
  pub first : z ≤ 125 + y
  pub field : 126 + y - z < 252
  pub even : 149 + 8 ≡ 32 + z - y + (125 + y - z)
  pub odd : 149 + 9 ≡ 32 + z - y + (126 + y - z)
  pub low : 2 ^ 23 * (d * 256) ≤ n * 2 ^ (32 + z - y)
  pub high : n * 2 ^ (32 + z - y) < 2 ^ 25 * (d * 256)

pub scaled : (n d : ℕ) → 0 < n → n < 2 ^ 32 → 0 < d → d < 2 ^ 32 → Scaled n d (count_leading_zeros 64 n) (count_leading_zeros 64 d)
scaled n d pn hn pd hd =
    let t = leading_top 64 n pn (lt_of_lt_of_le hn (lit≤ tt)) in
    let u = leading_top 64 d pd (lt_of_lt_of_le hd (lit≤ tt)) in
    go (count_leading_zeros 64 n) (count_leading_zeros 64 d) t.0 u.0 t.1 u.1 t.2 t.3 u.2 u.3 (pow_lt_back t.0 32 (lt_of_le_of_lt t.2 hn)) (pow_lt_back u.0 32 (lt_of_le_of_lt u.2 hd))
  where
    doubled : (h : ℕ) → 2 ^ suc h ≡ 2 * 2 ^ h
    doubled h = omega arith

    go : (z y j h : ℕ) → z + suc j ≡ 64 → y + suc h ≡ 64 → 2 ^ j ≤ n → n < 2 ^ suc j → 2 ^ h ≤ d → d < 2 ^ suc h → j < 32 → h < 32 → Scaled n d z y
    go z y j h ez ey nl nh dl dh jl hl =
        let i = 32 + z - y in
        let e : j + i ≡ 32 + h = omega arith in
        let f : suc j + i ≡ 33 + h = omega arith in
        let a : 2 ^ (32 + h) ≤ n * 2 ^ i = le_trans (le_of_eq (ap (λ (x : ℕ). 2 ^ x) (sym e) ∙ pow-add 2 j i)) (mul-le-mul_right (2 ^ i) nl) in
        let b : n * 2 ^ i < 2 ^ (33 + h) = lt_of_lt_of_le (mul-lt-mul_of_pos_right nh (pow_pos i)) (le_of_eq (sym (pow-add 2 (suc j) i) ∙ ap (λ (x : ℕ). 2 ^ x) f)) in
        let p : 2 ^ (32 + h) ≡ 2 ^ 32 * 2 ^ h = pow-add 2 32 h in
        let q : 2 ^ (33 + h) ≡ 2 ^ 33 * 2 ^ h = pow-add 2 33 h in
        let r : d < 2 * 2 ^ h = lt_of_lt_of_le dh (le_of_eq (doubled h)) in
        let m : 2 ^ (33 + h) ≤ 2 ^ 64 = pow_mono {i = 33 + h} {j = 64} (omega arith) in
        record {
          less = omega arith;
          places = omega arith;
          room = lt_of_lt_of_le b m;
          most = omega arith;
          first = omega arith;
          field = omega arith;
          even = omega arith;
          odd = omega arith;
          low = below (2 ^ h) (n * 2 ^ i) (2 ^ (32 + h)) a p r;
          high = above (2 ^ h) (n * 2 ^ i) (2 ^ (33 + h)) b q dl;
        }
      where
        below : (w v o : ℕ) → o ≤ v → o ≡ 2 ^ 32 * w → d < 2 * w → 2 ^ 23 * (d * 256) ≤ v
        below w v o a p r = omega arith

        above : (w v o : ℕ) → v < o → o ≡ 2 ^ 33 * w → w ≤ d → v < 2 ^ 25 * (d * 256)
        above w v o b q l = omega arith
