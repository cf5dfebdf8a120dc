-- Of two whole numbers the first is below the second, or not below it: by the test `ltb`.
use mathlib.Core.Bool.{Bool, true, false, not}
use Prim.Native.Nat.{ℕ, ◌≤◌, ◌<◌}
use lib.Dec.{T, ltb, ltb→lt, nltb→le}

by-test : {A B P : Type 0} (b : Bool) → (T b → A) → (T (not b) → B) → (A → P) → (B → P) → P
by-test true a b below above = below (a tt)
by-test false a b below above = above (b tt)

pub split : (e n : ℕ) → {P : Type 0} → (e < n → P) → (n ≤ e → P) → P
split e n below above = by-test (ltb e n) (ltb→lt e n) (nltb→le e n) below above
