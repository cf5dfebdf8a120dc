-- The row that is rewritten is one of those that were worked: a search that holds no row still has the MUF of its start, and then nothing is rewritten.
use Rattle.muf.specs.declared.sporadic.Rewrite.{Rewrite}
use Rattle.refusal.specs.declared.Refusal.{Refusal}
use Rattle.std.specs.Prelude.{Option, Some, None, Result, Ok, Err}
use mathlib.Core.Path.{◌≡◌, refl, ap, sym, ◌∙◌}
use mathlib.Core.Bool.{Bool, true, false}
use mathlib.Core.Logic.{◌⊎◌, inl, inr}
use mathlib.Core.List.{List}
use Prim.Native.Nat.{ℕ, zero, suc, ◌+◌, ◌*◌, ◌/◌, ◌<◌, ◌≤◌}
use native.Mathlib.Omega.{arith}
use native.Mathlib.Nat.{div-add-mod', min-le_left}
use lib.ListN.{length}
use lib.Ieee.{Float, of_bits, sub, add, neg, le, round}
use Rattle.scalar.specs.F32.{◌-f◌, ◌*f◌, ◌>f◌, ◌≥f◌, ◌≤f◌, at}
use Rattle.scalar.specs.Literals.{f0, f1000}
use Rattle.hops.specs.Geometry.{hops_of}
use Rattle.layers.specs.declared.IonoState.{IonoState}
use Rattle.layer_mufs.specs.Controlling.{controlling_of}
use Rattle.profile.specs.Lecden.{slot_at, lecden_of}
use Rattle.profile.specs.declared.slot_curves.Slot.{Slot}
use Rattle.heights.specs.Gethp.{gethp_of}
use Rattle.layer_mufs.specs.declared.PathNumbers.{PathNumbers}
use Rattle.muf.specs.Sporadic.{ray_of, taken_by, taken_of, hop_by, row_by, es_row_of, start_of, next_by, es_from, es_line_by, es_line_of, row_at, es_found_of}
use Rattle.muf.specs.Domain.{in_domain, lists_reach, taken_rows, row_count_of}
use Rattle.muf.specs.Curmuf.{es_by, regular_by, regular_with, muf_at_slot_with, muf_from_search_by, muf_from_search_with, muf_of_rows_with, flat_muf_with, flat_muf_of, rewrite_by, found_muf_of, RowBelow}
use Rattle.layers.specs.declared.EsParams.{EsParams}
use Rattle.muf.specs.declared.sporadic.EsRay.{EsRay}
use Rattle.muf.specs.declared.sporadic.EsSearch.{EsSearch}
use Rattle.muf.specs.declared.RegularLines.{RegularLines}
use Rattle.muf.specs.declared.AnswerAndRow.{AnswerAndRow}

-- the row is below m, or the MUF is that of the start
abbrev Held : ℕ → EsSearch → Type 0
Held m a = (a.ksx < m) ⊎ (a.esmuf ≡ f1000)

abbrev HeldStep : ℕ → Result EsSearch Refusal → Type 0
HeldStep m (Ok a) = Held m a
HeldStep m (Err r) = Unit {0}

taken-by : (b : Bool) (m : ℕ) (a : EsSearch) (k : ℕ) (row : EsParams) (ray : EsRay) (hop esd : Float) → k < m → Held m a → Held m (taken_by b a k row ray hop esd)
taken-by true m a k row ray hop esd h w = inl h
taken-by false m a k row ray hop esd h w = w

hop-by : (q : Result Float Refusal) (m : ℕ) (a : EsSearch) (k : ℕ) (row : EsParams) (c : PathNumbers) → k < m → Held m a → HeldStep m (hop_by q a k row c)
unfolding taken_of
hop-by (Ok hop) m a k row c h w =
    let ray = ray_of row.hs hop c.gcd in
    let esd = at row.fs 1 *f ray.secp in
    taken-by (a.esmuf -f esd >f f0) m a k row ray hop esd h w
hop-by (Err r) m a k row c h w = tt

row-by : (b : Bool) (m : ℕ) (a : EsSearch) (k : ℕ) (row : EsParams) (c : PathNumbers) → k < m → Held m a → HeldStep m (row_by b a k row c)
row-by true m a k row c h w = w
row-by false m a k row c h w = hop-by (hops_of c.gcdkm c.amind row.hs) m a k row c h w

row-held : (m : ℕ) (a : EsSearch) (k : ℕ) (row : EsParams) (c : PathNumbers) → k < m → Held m a → HeldStep m (es_row_of a k row c)
unfolding es_row_of
row-held m a k row c h w = row-by (at row.fs 1 ≤f f0) m a k row c h w

next-held : (m : ℕ) (q : Result EsSearch Refusal) (rest : EsSearch → Result EsSearch Refusal) → HeldStep m q → ((b : EsSearch) → Held m b → HeldStep m (rest b)) → HeldStep m (next_by q rest)
next-held m (Ok b) rest w f = f b w
next-held m (Err r) rest w f = tt

from-held : (row : ℕ → EsParams) (c : PathNumbers) (m n k : ℕ) (a : EsSearch) → k + n ≤ m → Held m a → HeldStep m (es_from row c n k a)
unfolding es_from
from-held row c m zero k a h w = w
from-held row c m (suc n) k a h w =
    next-held m (es_row_of a k (row k) c) (λ b. es_from row c n (k + 1) b) (row-held m a k (row k) c (omega arith) w)
    (λ b v. from-held row c m n (k + 1) b (omega arith) v)

all_held : (row : ℕ → EsParams) (c : PathNumbers) (n : ℕ) → HeldStep n (es_from row c n 0 start_of)
unfolding start_of
all_held row c n = from-held row c n n 0 start_of (omega arith) (inr refl)

no_row : (f1000 -f f1000 ≥f f0) ≡ true
unfolding of_bits sub add neg le round
no_row = refl

-- where something is rewritten, its row is below m
abbrev Below : ℕ → Result AnswerAndRow Refusal → Type 0
Below m d = RowBelow m (rewrite_by d)

line-below : (b : Bool) (m : ℕ) (a : EsSearch) (fe : Float) → (a.esmuf -f f1000 ≥f f0) ≡ b → Held m a → RowBelow m (es_line_by b a fe).rewrite
unfolding es_found_of
line-below true m a fe p w = tt
line-below false m a fe p (inl h) = h
line-below false m a fe p (inr q) = let e : true ≡ false = sym no_row ∙ ap (λ x. x -f f1000 ≥f f0) (sym q) ∙ p in let z : ◌≡◌ {A = ℕ} 0 1 = cc in absurd (omega arith)

es-below : (q : Result EsSearch Refusal) (m : ℕ) (t : IonoState) (fe : Float) (x : RegularLines) (ks : ℕ) → HeldStep m q → Below m (es_by q t fe x ks)
unfolding es_line_of found_muf_of
es-below (Ok a) m t fe x ks w = line-below (a.esmuf -f f1000 ≥f f0) m a fe refl w
es-below (Err r) m t fe x ks w = tt

three-below : (q : Result RegularLines Refusal) (m : ℕ) (t : IonoState) (l : Slot) (ks : ℕ) (found : Result EsSearch Refusal) → HeldStep m found → Below m (regular_by q t l ks found)
three-below (Ok x) m t l ks found w = es-below found m t l.fi0 x ks w
three-below (Err r) m t l ks found w = tt

done-by-below : (a b : Bool) (m : ℕ) (s : IonoState) (found : Result EsSearch Refusal) (f2d clat clck : List Float) (c : PathNumbers) → HeldStep m found → Below m (muf_from_search_by a b gethp_of s found f2d clat clck c)
unfolding muf_at_slot_with
done-by-below true true m s found f2d clat clck c w =
    let ks = controlling_of s in
    let t = lecden_of s ks in
    three-below (regular_with gethp_of t (slot_at t ks) f2d (at clat ks) (at clck ks) c) m t (slot_at t ks) ks found w
done-by-below true false m s found f2d clat clck c w = tt
done-by-below false b m s found f2d clat clck c w = tt

pub done_below : (s : IonoState) (n : ℕ) (row : ℕ → EsParams) (f2d clat clck : List Float) (c : PathNumbers) → RowBelow n (rewrite_by (muf_of_rows_with gethp_of s n row f2d clat clck c))
unfolding muf_of_rows_with muf_from_search_with
done_below s n row f2d clat clck c = done-by-below (in_domain c) (lists_reach (controlling_of s) (length f2d) (length clat) (length clck)) n s (es_from row c n 0 start_of) f2d clat clck c (all_held row c n)

-- the rows that are worked are there
pub taken-there : (there km : ℕ) → taken_rows there km ≤ there
taken-there there km = min-le_left there km

pub rows-there : (numbers km : ℕ) → 4 * row_count_of numbers km ≤ numbers
unfolding row_count_of
rows-there numbers km = let h = taken-there (numbers / 4) km in omega (arith, div-add-mod' numbers 4)

-- the same at another bound
pub row-within : (m n : ℕ) (w : Option Rewrite) → m ≤ n → RowBelow m w → RowBelow n w
row-within m n (Some w) h b = omega arith
row-within m n None h b = tt

pub flat-below : (s : IonoState) (es f2d clat clck : List Float) (c : PathNumbers) → RowBelow (row_count_of (length es) s.km) (rewrite_by (flat_muf_of s es f2d clat clck c))
unfolding flat_muf_with
flat-below s es f2d clat clck c = done_below s (row_count_of (length es) s.km) (row_at es) f2d clat clck c
