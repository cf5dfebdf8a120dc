-- On every profile whose heights pass the rising test the forty readings of the walk are those of forty scans, and `gethp` so read is `gethp_of`: the heights never fall in the walk's order, so each read starts
-- at or below the count of its height.
use mathlib.Core.Path.{◌≡◌, refl, ap, ◌∙◌, subst}
use mathlib.Core.Logic.{inl, inr}
use mathlib.Core.Bool.{Bool, true, false, ◌&&◌}
use mathlib.Core.List.{List}
use Prim.Native.Nat.{ℕ, zero, suc, ◌+◌, ◌≤◌, ◌<◌, zero-le}
use native.Mathlib.Nat.{le_refl, eq-or-lt_of_le}
use native.Mathlib.Omega.{arith}
use lib.Dec.{T, eqb, ltb, eqb→eq, ltb→lt}
use lib.Ieee.{Float, binary32, fits}
use lib.Ieee.Fits.{and_l, and_r, sub-fits}
use Rattle.scalar.specs.F32.{◌+f◌, ◌-f◌, ◌*f◌, ◌<f◌, ◌≤f◌, ◌>f◌, ◌≥f◌, at}
use Rattle.scalar.specs.Literals.{f0}
use Rattle.layers.specs.declared.IonoState.{IonoState}
use Rattle.profile.specs.Rising.{rises_from, rises_of}
use Rattle.readings.specs.Scan.{segment_number, reading_of, profile_interpolate_of, profile_segment_of}
use Rattle.readings.specs.Cursor.{count_of}
use Rattle.readings.specs.declared.Reading.{Reading}
use Rattle.readings.specs.declared.Read.{Read}
use Rattle.heights.specs.Walk.{EachF32, Rising, cursor_before, scanned_read, moves_of}
use Rattle.heights.proofs.walk.Walks.{reads-are-scans, segment-after, cursor-after, moves-are, moves-bound}
use Rattle.heights.specs.Nodes.{xnpl, twdiv, height_of, height_at, ig_at, ib_at}
use Rattle.heights.specs.Densities.{cut_of, ysq_of}
use Rattle.heights.specs.ReadsByWalk.{read_at, cursor_after, turn_of, ysq_walk_of}
use Rattle.heights.proofs.forty_reads.Rise.{all, all-at, height-fits, reads-orderly}
use Rattle.heights.specs.Weights.{wt}
use Rattle.heights.specs.Gethp.{mup_of, hp_of, heights_by, gethp_by, cursor_by, gethp_of, gethp_scan_of}
use Rattle.heights.specs.GethpWalk.{gethp_read_of}
use Rattle.heights.specs.declared.Heights.{Heights}

-- ---- the rising test at each height
rises-at : (htr : List Float) (n i j : ℕ) → T (rises_from htr n i) → i ≤ j → j < i + n → T (at htr j <f at htr (j + 1))
unfolding rises_from
rises-at htr zero i j t h k = absurd (none i j h k)
  where
    none : (i j : ℕ) → i ≤ j → j < i + 0 → ⊥
    none i j h k = omega arith
rises-at htr (suc n) i j t h k =
    let a = at htr i <f at htr (i + 1) in
    let b = rises_from htr n (i + 1) in
    elim (eq-or-lt_of_le h) [
      | inl e ↦ subst (λ (z : ℕ). T (at htr z <f at htr (z + 1))) e (and_l a b t)
      | inr l ↦ rises-at htr n (i + 1) j (and_r a b t) (omega arith) (within i j n k)
    ]
  where
    within : (i j n : ℕ) → j < i + suc n → j < i + 1 + n
    within i j n h = omega arith

rising : (htr : List Float) → T (rises_of htr) → Rising htr
rising htr t i h = rises-at htr 49 0 i t zero-le h

-- ---- the forty reads on a profile that rises, at any height difference
module _ (htr fnsq : List Float) (ht : Float) (held : EachF32 htr) (rises : T (rises_of htr)) (fine : T (fits binary32 ht)) where
  -- each of the forty readings, kind, number and segment, with the cursor after it
  each_read : (k : ℕ) → k < 40 → read_at htr fnsq ht k ≡ scanned_read htr fnsq (height_at (at htr 0) ht k)
  each_read k h =
      reads-are-scans htr fnsq (height_at (at htr 0) ht) 40 held (rising htr rises) (height-fits (at htr 0) ht (held 0) fine) (reads-orderly (at htr 0) ht (held 0) fine) k h

  pub walk-is-scan : (k : ℕ) → k < 40 → (read_at htr fnsq ht k).reading ≡ reading_of htr fnsq (height_at (at htr 0) ht k)
  walk-is-scan k h = ap (λ (r : Read). r.reading) (each_read k h)

  -- the segment of each is the count of its height
  pub segment-counts : (k : ℕ) → k < 40 → segment_number (read_at htr fnsq ht k).reading ≡ count_of htr (height_at (at htr 0) ht k)
  segment-counts k h =
      segment-after htr fnsq (height_at (at htr 0) ht) 40 held (rising htr rises) (height-fits (at htr 0) ht (held 0) fine) (reads-orderly (at htr 0) ht (held 0) fine) k h

  -- 0 before the first read, and after each one how many of the upper 49 heights are at or below its height
  pub cursor-starts : cursor_after htr fnsq ht 0 ≡ 0
  unfolding cursor_before
  cursor-starts = refl

  pub cursor-counts : (k : ℕ) → k < 40 → cursor_after htr fnsq ht (suc k) ≡ count_of htr (height_at (at htr 0) ht k)
  cursor-counts k h =
      cursor-after htr fnsq (height_at (at htr 0) ht) 40 held (rising htr rises) (height-fits (at htr 0) ht (held 0) fine) (reads-orderly (at htr 0) ht (held 0) fine) k h

  -- the sum over the forty reads of the cursor's distance from before to after
  pub moves-sum : moves_of htr fnsq (height_at (at htr 0) ht) 40 ≡ cursor_after htr fnsq ht 40
  moves-sum =
      moves-are htr fnsq (height_at (at htr 0) ht) 40 held (rising htr rises) (height-fits (at htr 0) ht (held 0) fine) (reads-orderly (at htr 0) ht (held 0) fine) 40 (le_refl 40)

  pub moves : moves_of htr fnsq (height_at (at htr 0) ht) 40 ≤ 49
  moves =
      moves-bound htr fnsq (height_at (at htr 0) ht) 40 held (rising htr rises) (height-fits (at htr 0) ht (held 0) fine) (reads-orderly (at htr 0) ht (held 0) fine) 40 (le_refl 40)

-- ---- each node is read in its turn
turn-right : (up : Bool) (ib ig : ℕ) → Bool
turn-right up ib ig = let k = turn_of up ig ib in ltb k 40 && (eqb (ig_at k) ig && eqb (ib_at up k) ib)

turns-right : (up : Bool) (ib : ℕ) → ib < 2 → T (all (turn-right up ib) 20)
unfolding turn-right ig_at ib_at
turns-right true zero h = tt
turns-right true (suc zero) h = tt
turns-right true (suc (suc ib)) h = absurd (omega arith)
turns-right false zero h = tt
turns-right false (suc zero) h = tt
turns-right false (suc (suc ib)) h = absurd (omega arith)

turn-of : (up : Bool) (ig ib : ℕ) → ig < 20 → ib < 2 → (turn_of up ig ib < 40) × (ig_at (turn_of up ig ib) ≡ ig) × (ib_at up (turn_of up ig ib) ≡ ib)
unfolding turn-right
turn-of up ig ib h g =
    let k = turn_of up ig ib in
    let t = all-at (turn-right up ib) 20 (turns-right up ib g) ig h in
    let u = and_r (ltb k 40) (eqb (ig_at k) ig && eqb (ib_at up k) ib) t in
    (ltb→lt k 40 (and_l (ltb k 40) (eqb (ig_at k) ig && eqb (ib_at up k) ib) t), eqb→eq (ig_at k) ig (and_l (eqb (ig_at k) ig) (eqb (ib_at up k) ib) u), eqb→eq (ib_at up k) ib (and_r (eqb (ig_at k) ig) (eqb (ib_at up k) ib) u))

node-density : (htr fnsq : List Float) (ht fr : Float) → EachF32 htr → T (rises_of htr) → T (fits binary32 ht) → (ig ib : ℕ) → ig < 20 → ib < 2 → ysq_walk_of htr fnsq ht fr ig ib ≡ ysq_of htr fnsq ht fr ig ib
unfolding ysq_walk_of ysq_of height_at
node-density htr fnsq ht fr held rises fine ig ib h g =
    let k = turn_of (ht ≥f f0) ig ib in
    let t = turn-of (ht ≥f f0) ig ib h g in
    ap (λ (r : Reading). cut_of r fr) (walk-is-scan htr fnsq ht held rises fine k t.0)
    ∙ ap (λ (i : ℕ). cut_of (reading_of htr fnsq (height_of (at htr 0) ht i (ib_at (ht ≥f f0) k))) fr) t.1
    ∙ ap (λ (i : ℕ). cut_of (reading_of htr fnsq (height_of (at htr 0) ht ig i)) fr) t.2

same_sum : (f g : ℕ → ℕ → Float) (n : ℕ) → ((ig ib : ℕ) → ig < n → ib < 2 → f ig ib ≡ g ig ib) → hp_of f n ≡ hp_of g n
unfolding hp_of
same_sum f g zero e = refl
same_sum f g (suc n) e =
    ap (λ (x : Float). x +f at wt n *f (mup_of (f n 0) +f mup_of (f n 1))) (same_sum f g n (λ ig ib h k. e ig ib (omega arith) k))
    ∙ ap (λ (x : Float). hp_of g n +f at wt n *f (mup_of x +f mup_of (f n 1))) (e n 0 (omega arith) (omega arith))
    ∙ ap (λ (x : Float). hp_of g n +f at wt n *f (mup_of (g n 0) +f mup_of x)) (e n 1 (omega arith) (omega arith))

-- ---- `gethp` whole
made : List Float → Float → ℕ → Float → ℕ → Heights
made htr ht segment hp cursor = record { hp = at htr 0 +f ht *f twdiv *f xnpl *f hp; ht = at htr 0 +f ht; cursor = cursor; segment = segment }

by-rule : (r : Bool) (htr fnsq : List Float) (fr ht : Float) (segment : ℕ) (ysq ysq' : ℕ → ℕ → Float) (cur cur' : ℕ) → hp_of ysq 20 ≡ hp_of ysq' 20 → cur ≡ cur' → heights_by r htr fnsq fr ht segment ysq cur ≡ heights_by r htr fnsq fr ht segment ysq' cur'
by-rule true htr fnsq fr ht segment ysq ysq' cur cur' e f = refl
by-rule false htr fnsq fr ht segment ysq ysq' cur cur' e f = unfold made in ap (λ (h : Float). made htr ht segment h cur) e ∙ ap (λ (c : ℕ). made htr ht segment (hp_of ysq' 20) c) f

by-test : (b exact : Bool) (htr fnsq : List Float) (fr : Float) (ysq ysq' : Float → ℕ → ℕ → Float) (cur cur' : Float → ℕ) → let ht = profile_interpolate_of fnsq htr fr -f at htr 0 in hp_of (ysq ht) 20 ≡ hp_of (ysq' ht) 20 → cur ht ≡ cur' ht → gethp_by b exact htr fnsq fr ysq cur ≡ gethp_by b exact htr fnsq fr ysq' cur'
by-test true exact htr fnsq fr ysq ysq' cur cur' e f = refl
by-test false exact htr fnsq fr ysq ysq' cur cur' e f = let ht = profile_interpolate_of fnsq htr fr -f at htr 0 in by-rule (exact && (ht >f f0)) htr fnsq fr ht (profile_segment_of fnsq htr fr) (ysq ht) (ysq' ht) (cur ht) (cur' ht) e f

by-walk : (s : IonoState) (fxx : Float) → EachF32 s.htr → true ≡ rises_of s.htr → gethp_read_of s.exact_virtual_height true s.htr s.fnsq fxx ≡ gethp_of s fxx
unfolding gethp_read_of gethp_of cursor_by
by-walk s fxx held e =
    let htr = s.htr in
    let fnsq = s.fnsq in
    let fr = fxx *f fxx in
    let h0 = at htr 0 in
    let top = profile_interpolate_of fnsq htr fr in
    let ht = top -f h0 in
    let rises = subst (λ (b : Bool). T b) e tt in
    let fine = sub-fits binary32 top h0 in
    by-test (fr -f at fnsq 0 ≤f f0) s.exact_virtual_height htr fnsq fr (λ ht. ysq_walk_of htr fnsq ht fr) (λ ht. ysq_of htr fnsq ht fr) (λ ht. cursor_after htr fnsq ht 40) (λ ht. cursor_by (rises_of htr) htr ht)
    (same_sum (ysq_walk_of htr fnsq ht fr) (ysq_of htr fnsq ht fr) 20 (node-density htr fnsq ht fr held rises fine))
    (cursor-counts htr fnsq ht held rises fine 39 (omega arith) ∙ ap (λ (b : Bool). cursor_by b htr ht) e)

by-scans : (s : IonoState) (fxx : Float) → false ≡ rises_of s.htr → gethp_read_of s.exact_virtual_height false s.htr s.fnsq fxx ≡ gethp_of s fxx
unfolding gethp_read_of gethp_of cursor_by
by-scans s fxx e =
    let htr = s.htr in
    let fnsq = s.fnsq in
    let fr = fxx *f fxx in
    by-test (fr -f at fnsq 0 ≤f f0) s.exact_virtual_height htr fnsq fr (λ ht. ysq_of htr fnsq ht fr) (λ ht. ysq_of htr fnsq ht fr) (λ ht. 0) (λ ht. cursor_by (rises_of htr) htr ht) refl
    (ap (λ (b : Bool). cursor_by b htr (profile_interpolate_of fnsq htr fr -f at htr 0)) e)

-- read by a walk where the heights rise and by scans where they do not
pub gethp-read-so : (rises : Bool) (s : IonoState) (fxx : Float) → EachF32 s.htr → rises ≡ rises_of s.htr → gethp_read_of s.exact_virtual_height rises s.htr s.fnsq fxx ≡ gethp_of s fxx
gethp-read-so true s fxx held e = by-walk s fxx held e
gethp-read-so false s fxx held e = by-scans s fxx e

pub gethp-scan-so : (s : IonoState) (fxx : Float) → gethp_read_of s.exact_virtual_height false s.htr s.fnsq fxx ≡ gethp_scan_of s fxx
unfolding gethp_read_of gethp_scan_of
gethp-scan-so s fxx = refl
