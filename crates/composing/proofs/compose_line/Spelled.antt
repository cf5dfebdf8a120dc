-- A word is a name just where it has the name's length and its bytes.
use mathlib.Core.Path.{◌≡◌, sym, subst}
use mathlib.Core.Bool.{true, ◌&&◌}
use mathlib.Core.List.{List, [], ◌∷◌}
use Prim.Native.Nat.{ℕ, suc, ◌+◌, ◌≤◌, ◌<◌}
use native.Mathlib.Numerals.{add-one}
use native.Mathlib.Omega.{arith}
use lib.Dec.{eqb}
use lib.ListN.{length, get_or, drop, drop_of_length-le}
use lib.Seq.{drop-cons}
use Rattle.std.proofs.Common.{rules}
use Rattle.std.proofs.lemmas.Bool.{eq-eqb}
use Rattle.first_difference.specs.Difference.{same_bytes}
use Rattle.first_difference.proofs.Same.{bytes-equal}

-- w has the bytes of l from its byte i on
abbrev pub At : List ℕ → ℕ → List ℕ → Type 0
At w i [] = Unit {0}
At w i (b ∷ l) = (get_or w i 0 ≡ b) × At w (i + 1) l

-- the length first, which tells most words apart
abbrev pub Spelled : List ℕ → List ℕ → Type 0
Spelled w l = (length w ≡ length l) × At w 0 l

at_same : (w l : List ℕ) (i : ℕ) → length w ≡ i + length l → At w i l → same_bytes (drop i w) l ≡ true
unfolding same_bytes
at_same w [] i h a = let k : length w ≤ i = omega arith in rw (drop_of_length-le w k)
at_same w (b ∷ l) i h a =
    let k : i < length w = omega arith in
    let r = at_same w l (i + 1) (omega arith) a.1 in
    let s : same_bytes (drop (suc i) w) l ≡ true = rw (add-one i) at r in
    let t : eqb (get_or w i 0) b && same_bytes (drop (suc i) w) l ≡ true = rw (eq-eqb (get_or w i 0) b a.0) s in
    subst (λ (x : List ℕ). same_bytes x (b ∷ l) ≡ true) (sym (drop-cons w i 0 k)) t

is : (w l : List ℕ) → Spelled w l → same_bytes w l ≡ true
is w l s = at_same w l 0 (omega (arith, s.0)) s.1

-- each name has its own length and bytes, which a search sees
spelled : (w l : List ℕ) → Spelled l l → same_bytes w l ≡ true → Spelled w l
spelled w l s h = rw (bytes-equal w l h) s

-- ---- the names, one by one, so that a search can cite them

pub is_path : (w : List ℕ) → length w ≡ 4 → get_or w 0 0 ≡ 112 → get_or w 1 0 ≡ 97 → get_or w 2 0 ≡ 116 → get_or w 3 0 ≡ 104 → same_bytes w (112 ∷ 97 ∷ 116 ∷ 104 ∷ []) ≡ true
is_path w h a b c d = is w (112 ∷ 97 ∷ 116 ∷ 104 ∷ []) (h, (a, (b, (c, (d, tt)))))

pub path_spelled : (w : List ℕ) → same_bytes w (112 ∷ 97 ∷ 116 ∷ 104 ∷ []) ≡ true → Spelled w (112 ∷ 97 ∷ 116 ∷ 104 ∷ [])
path_spelled w h = spelled w _ (search rules) h

pub is_point : (w : List ℕ) → length w ≡ 5 → get_or w 0 0 ≡ 112 → get_or w 1 0 ≡ 111 → get_or w 2 0 ≡ 105 → get_or w 3 0 ≡ 110 → get_or w 4 0 ≡ 116 → same_bytes w (112 ∷ 111 ∷ 105 ∷ 110 ∷ 116 ∷ []) ≡ true
is_point w h a b c d e = is w (112 ∷ 111 ∷ 105 ∷ 110 ∷ 116 ∷ []) (h, (a, (b, (c, (d, (e, tt))))))

pub point_spelled : (w : List ℕ) → same_bytes w (112 ∷ 111 ∷ 105 ∷ 110 ∷ 116 ∷ []) ≡ true → Spelled w (112 ∷ 111 ∷ 105 ∷ 110 ∷ 116 ∷ [])
point_spelled w h = spelled w _ (search rules) h

pub is_deciles : (w : List ℕ) → length w ≡ 7 → get_or w 0 0 ≡ 100 → get_or w 1 0 ≡ 101 → get_or w 2 0 ≡ 99 → get_or w 3 0 ≡ 105 → get_or w 4 0 ≡ 108 → get_or w 5 0 ≡ 101 → get_or w 6 0 ≡ 115 → same_bytes w (100 ∷ 101 ∷ 99 ∷ 105 ∷ 108 ∷ 101 ∷ 115 ∷ []) ≡ true
is_deciles w h a b c d e f g = is w (100 ∷ 101 ∷ 99 ∷ 105 ∷ 108 ∷ 101 ∷ 115 ∷ []) (h, (a, (b, (c, (d, (e, (f, (g, tt))))))))

pub deciles_spelled : (w : List ℕ) → same_bytes w (100 ∷ 101 ∷ 99 ∷ 105 ∷ 108 ∷ 101 ∷ 115 ∷ []) ≡ true → Spelled w (100 ∷ 101 ∷ 99 ∷ 105 ∷ 108 ∷ 101 ∷ 115 ∷ [])
deciles_spelled w h = spelled w _ (search rules) h

pub is_shape : (w : List ℕ) → length w ≡ 5 → get_or w 0 0 ≡ 115 → get_or w 1 0 ≡ 104 → get_or w 2 0 ≡ 97 → get_or w 3 0 ≡ 112 → get_or w 4 0 ≡ 101 → same_bytes w (115 ∷ 104 ∷ 97 ∷ 112 ∷ 101 ∷ []) ≡ true
is_shape w h a b c d e = is w (115 ∷ 104 ∷ 97 ∷ 112 ∷ 101 ∷ []) (h, (a, (b, (c, (d, (e, tt))))))

pub shape_spelled : (w : List ℕ) → same_bytes w (115 ∷ 104 ∷ 97 ∷ 112 ∷ 101 ∷ []) ≡ true → Spelled w (115 ∷ 104 ∷ 97 ∷ 112 ∷ 101 ∷ [])
shape_spelled w h = spelled w _ (search rules) h

pub is_gcd : (w : List ℕ) → length w ≡ 3 → get_or w 0 0 ≡ 103 → get_or w 1 0 ≡ 99 → get_or w 2 0 ≡ 100 → same_bytes w (103 ∷ 99 ∷ 100 ∷ []) ≡ true
is_gcd w h a b c = is w (103 ∷ 99 ∷ 100 ∷ []) (h, (a, (b, (c, tt))))

pub gcd_spelled : (w : List ℕ) → same_bytes w (103 ∷ 99 ∷ 100 ∷ []) ≡ true → Spelled w (103 ∷ 99 ∷ 100 ∷ [])
gcd_spelled w h = spelled w _ (search rules) h

pub is_gcdkm : (w : List ℕ) → length w ≡ 5 → get_or w 0 0 ≡ 103 → get_or w 1 0 ≡ 99 → get_or w 2 0 ≡ 100 → get_or w 3 0 ≡ 107 → get_or w 4 0 ≡ 109 → same_bytes w (103 ∷ 99 ∷ 100 ∷ 107 ∷ 109 ∷ []) ≡ true
is_gcdkm w h a b c d e = is w (103 ∷ 99 ∷ 100 ∷ 107 ∷ 109 ∷ []) (h, (a, (b, (c, (d, (e, tt))))))

pub gcdkm_spelled : (w : List ℕ) → same_bytes w (103 ∷ 99 ∷ 100 ∷ 107 ∷ 109 ∷ []) ≡ true → Spelled w (103 ∷ 99 ∷ 100 ∷ 107 ∷ 109 ∷ [])
gcdkm_spelled w h = spelled w _ (search rules) h

pub is_amind : (w : List ℕ) → length w ≡ 5 → get_or w 0 0 ≡ 97 → get_or w 1 0 ≡ 109 → get_or w 2 0 ≡ 105 → get_or w 3 0 ≡ 110 → get_or w 4 0 ≡ 100 → same_bytes w (97 ∷ 109 ∷ 105 ∷ 110 ∷ 100 ∷ []) ≡ true
is_amind w h a b c d e = is w (97 ∷ 109 ∷ 105 ∷ 110 ∷ 100 ∷ []) (h, (a, (b, (c, (d, (e, tt))))))

pub amind_spelled : (w : List ℕ) → same_bytes w (97 ∷ 109 ∷ 105 ∷ 110 ∷ 100 ∷ []) ≡ true → Spelled w (97 ∷ 109 ∷ 105 ∷ 110 ∷ 100 ∷ [])
amind_spelled w h = spelled w _ (search rules) h

pub is_ssn : (w : List ℕ) → length w ≡ 3 → get_or w 0 0 ≡ 115 → get_or w 1 0 ≡ 115 → get_or w 2 0 ≡ 110 → same_bytes w (115 ∷ 115 ∷ 110 ∷ []) ≡ true
is_ssn w h a b c = is w (115 ∷ 115 ∷ 110 ∷ []) (h, (a, (b, (c, tt))))

pub ssn_spelled : (w : List ℕ) → same_bytes w (115 ∷ 115 ∷ 110 ∷ []) ≡ true → Spelled w (115 ∷ 115 ∷ 110 ∷ [])
ssn_spelled w h = spelled w _ (search rules) h

pub is_fi : (w : List ℕ) → length w ≡ 2 → get_or w 0 0 ≡ 102 → get_or w 1 0 ≡ 105 → same_bytes w (102 ∷ 105 ∷ []) ≡ true
is_fi w h a b = is w (102 ∷ 105 ∷ []) (h, (a, (b, tt)))

pub fi_spelled : (w : List ℕ) → same_bytes w (102 ∷ 105 ∷ []) ≡ true → Spelled w (102 ∷ 105 ∷ [])
fi_spelled w h = spelled w _ (search rules) h

pub is_yi : (w : List ℕ) → length w ≡ 2 → get_or w 0 0 ≡ 121 → get_or w 1 0 ≡ 105 → same_bytes w (121 ∷ 105 ∷ []) ≡ true
is_yi w h a b = is w (121 ∷ 105 ∷ []) (h, (a, (b, tt)))

pub yi_spelled : (w : List ℕ) → same_bytes w (121 ∷ 105 ∷ []) ≡ true → Spelled w (121 ∷ 105 ∷ [])
yi_spelled w h = spelled w _ (search rules) h

pub is_hi : (w : List ℕ) → length w ≡ 2 → get_or w 0 0 ≡ 104 → get_or w 1 0 ≡ 105 → same_bytes w (104 ∷ 105 ∷ []) ≡ true
is_hi w h a b = is w (104 ∷ 105 ∷ []) (h, (a, (b, tt)))

pub hi_spelled : (w : List ℕ) → same_bytes w (104 ∷ 105 ∷ []) ≡ true → Spelled w (104 ∷ 105 ∷ [])
hi_spelled w h = spelled w _ (search rules) h

pub is_fs : (w : List ℕ) → length w ≡ 2 → get_or w 0 0 ≡ 102 → get_or w 1 0 ≡ 115 → same_bytes w (102 ∷ 115 ∷ []) ≡ true
is_fs w h a b = is w (102 ∷ 115 ∷ []) (h, (a, (b, tt)))

pub fs_spelled : (w : List ℕ) → same_bytes w (102 ∷ 115 ∷ []) ≡ true → Spelled w (102 ∷ 115 ∷ [])
fs_spelled w h = spelled w _ (search rules) h

pub is_hs : (w : List ℕ) → length w ≡ 2 → get_or w 0 0 ≡ 104 → get_or w 1 0 ≡ 115 → same_bytes w (104 ∷ 115 ∷ []) ≡ true
is_hs w h a b = is w (104 ∷ 115 ∷ []) (h, (a, (b, tt)))

pub hs_spelled : (w : List ℕ) → same_bytes w (104 ∷ 115 ∷ []) ≡ true → Spelled w (104 ∷ 115 ∷ [])
hs_spelled w h = spelled w _ (search rules) h

pub is_clat : (w : List ℕ) → length w ≡ 4 → get_or w 0 0 ≡ 99 → get_or w 1 0 ≡ 108 → get_or w 2 0 ≡ 97 → get_or w 3 0 ≡ 116 → same_bytes w (99 ∷ 108 ∷ 97 ∷ 116 ∷ []) ≡ true
is_clat w h a b c d = is w (99 ∷ 108 ∷ 97 ∷ 116 ∷ []) (h, (a, (b, (c, (d, tt)))))

pub clat_spelled : (w : List ℕ) → same_bytes w (99 ∷ 108 ∷ 97 ∷ 116 ∷ []) ≡ true → Spelled w (99 ∷ 108 ∷ 97 ∷ 116 ∷ [])
clat_spelled w h = spelled w _ (search rules) h

pub is_clck : (w : List ℕ) → length w ≡ 4 → get_or w 0 0 ≡ 99 → get_or w 1 0 ≡ 108 → get_or w 2 0 ≡ 99 → get_or w 3 0 ≡ 107 → same_bytes w (99 ∷ 108 ∷ 99 ∷ 107 ∷ []) ≡ true
is_clck w h a b c d = is w (99 ∷ 108 ∷ 99 ∷ 107 ∷ []) (h, (a, (b, (c, (d, tt)))))

pub clck_spelled : (w : List ℕ) → same_bytes w (99 ∷ 108 ∷ 99 ∷ 107 ∷ []) ≡ true → Spelled w (99 ∷ 108 ∷ 99 ∷ 107 ∷ [])
clck_spelled w h = spelled w _ (search rules) h

-- ---- those that a word is compared with together
pub ruleset line_kinds = (is_path, path_spelled, is_point, point_spelled, is_deciles, deciles_spelled)

pub ruleset path_names = (is_shape, shape_spelled, is_gcd, gcd_spelled, is_gcdkm, gcdkm_spelled, is_amind, amind_spelled, is_ssn, ssn_spelled)

pub ruleset point_names = (is_fi, fi_spelled, is_yi, yi_spelled, is_hi, hi_spelled, is_fs, fs_spelled, is_hs, hs_spelled, is_clat, clat_spelled, is_clck, clck_spelled)
