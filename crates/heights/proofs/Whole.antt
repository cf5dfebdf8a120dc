-- The claims on `gethp` whole, for every state and frequency.
use mathlib.Core.Path.{◌≡◌, refl, sym, ap, subst, ◌∙◌}
use mathlib.Core.Bool.{Bool, true, false, not, ◌&&◌, cond, true≢false}
use mathlib.Core.List.{List}
use Prim.Native.Nat.{ℕ, ◌≤◌, zero-le}
use native.Mathlib.Omega.{arith}
use lib.Dec.{T}
use lib.Ieee.{Float, binary32}
use lib.Ieee.Bits.{is_true}
use lib.Ieee.Fits.{sub-fits}
use Rattle.scalar.specs.F32.{◌-f◌, ◌*f◌, ◌≤f◌, ◌>f◌, at}
use Rattle.scalar.specs.Literals.{f0}
use Rattle.layers.specs.declared.IonoState.{IonoState}
use Rattle.layers.specs.State.{with_profile}
use Rattle.profile.specs.Rising.{rises_of}
use Rattle.readings.specs.Scan.{profile_interpolate_of, profile_segment_of}
use Rattle.readings.specs.Cursor.{count_of}
use Rattle.heights.specs.Walk.{EachF32}
use Rattle.heights.proofs.walk.Cursor.{count-bound}
use Rattle.heights.specs.Nodes.{height_at}
use Rattle.heights.specs.Densities.{ysq_of}
use Rattle.heights.proofs.forty_reads.Rise.{reads-rise-finite}
use Rattle.heights.specs.Gethp.{heights_by, gethp_by, cursor_by, gethp_of, gethp_scan_of}
use Rattle.heights.specs.Reads.{difference_of, walks, FortyReads, ExactRule}
use Rattle.heights.proofs.Walks.{walk-is-scan, segment-counts, cursor-starts, cursor-counts, moves-sum, moves}

-- the answer is the same under both values of the stored rising mark: of the state `gethp` reads the profile only
pub mark-unread : (s : IonoState) (mark : Bool) (fxx : Float) → gethp_of (with_profile s s.htr s.fnsq mark) fxx ≡ gethp_of s fxx
unfolding gethp_of
mark-unread s mark fxx = refl

-- the cursor is asked for by one of the two rules alone, and neither height asks for it
same-heights : (r : Bool) (htr fnsq : List Float) (fr ht : Float) (segment : ℕ) (ysq : ℕ → ℕ → Float) (c d : ℕ) → ((heights_by r htr fnsq fr ht segment ysq c).hp ≡ (heights_by r htr fnsq fr ht segment ysq d).hp) × ((heights_by r htr fnsq fr ht segment ysq c).ht ≡ (heights_by r htr fnsq fr ht segment ysq d).ht) × ((heights_by r htr fnsq fr ht segment ysq c).segment ≡ (heights_by r htr fnsq fr ht segment ysq d).segment)
same-heights true htr fnsq fr ht segment ysq c d = (refl, refl, refl)
same-heights false htr fnsq fr ht segment ysq c d = (refl, refl, refl)

module _ (exact : Bool) (htr fnsq : List Float) (fr : Float) (ysq : Float → ℕ → ℕ → Float) where
  ht : Float
  ht = profile_interpolate_of fnsq htr fr -f at htr 0

  segment : ℕ
  segment = profile_segment_of fnsq htr fr

  same_by : (b : Bool) (c d : Float → ℕ) → ((gethp_by b exact htr fnsq fr ysq c).hp ≡ (gethp_by b exact htr fnsq fr ysq d).hp) × ((gethp_by b exact htr fnsq fr ysq c).ht ≡ (gethp_by b exact htr fnsq fr ysq d).ht) × ((gethp_by b exact htr fnsq fr ysq c).segment ≡ (gethp_by b exact htr fnsq fr ysq d).segment)
  same_by true c d = (refl, refl, refl)
  same_by false c d = unfold ht segment in same-heights (exact && (ht >f f0)) htr fnsq fr ht segment (ysq ht) (c ht) (d ht)

  cursor-rule : (r : Bool) (c : ℕ) → (heights_by r htr fnsq fr ht segment (ysq ht) c).cursor ≡ cond (not r) c 0
  cursor-rule true c = refl
  cursor-rule false c = refl

  cursor-by : (b : Bool) (c : Float → ℕ) → (gethp_by b exact htr fnsq fr ysq c).cursor ≡ cond (not b && not (exact && (ht >f f0))) (c ht) 0
  cursor-by true c = refl
  cursor-by false c = unfold ht segment in cursor-rule (exact && (ht >f f0)) (c ht)

  used-by : (b : Bool) (c : Float → ℕ) → not b ≡ true → (exact && (ht >f f0)) ≡ true → gethp_by b exact htr fnsq fr ysq c ≡ heights_by true htr fnsq fr ht segment (ysq ht) 0
  used-by true c n e = absurd (true≢false (sym n))
  used-by false c n e = unfold ht segment in ap (λ (r : Bool). heights_by r htr fnsq fr ht segment (ysq ht) (c ht)) e

  unused-by : (b : Bool) (c : Float → ℕ) → (exact && (ht >f f0)) ≡ false → gethp_by b exact htr fnsq fr ysq c ≡ gethp_by b false htr fnsq fr ysq c
  unused-by true c e = refl
  unused-by false c e = unfold ht segment in ap (λ (r : Bool). heights_by r htr fnsq fr ht segment (ysq ht) (c ht)) e

-- forty scans on every profile give the same heights and the same segment
pub scans-same : (s : IonoState) (fxx : Float) → ((gethp_of s fxx).hp ≡ (gethp_scan_of s fxx).hp) × ((gethp_of s fxx).ht ≡ (gethp_scan_of s fxx).ht) × ((gethp_of s fxx).segment ≡ (gethp_scan_of s fxx).segment)
unfolding gethp_of gethp_scan_of
scans-same s fxx = same_by s.exact_virtual_height s.htr s.fnsq (fxx *f fxx) (λ ht. ysq_of s.htr s.fnsq ht (fxx *f fxx)) (fxx *f fxx -f at s.fnsq 0 ≤f f0) (λ ht. cursor_by (rises_of s.htr) s.htr ht) (λ ht. 0)

-- the cursor handed up: where a walk takes place the count at the last read where the heights rise, and 0 where they do not; 0 where none takes place
cursor-up : (s : IonoState) (fxx : Float) → (gethp_of s fxx).cursor ≡ cond (walks s fxx) (cursor_by (rises_of s.htr) s.htr (difference_of s fxx)) 0
unfolding gethp_of
cursor-up s fxx = unfold ht segment in cursor-by s.exact_virtual_height s.htr s.fnsq (fxx *f fxx) (λ ht. ysq_of s.htr s.fnsq ht (fxx *f fxx)) (fxx *f fxx -f at s.fnsq 0 ≤f f0) (λ ht. cursor_by (rises_of s.htr) s.htr ht)

counted : (s : IonoState) (fxx : Float) → walks s fxx ≡ true → T (rises_of s.htr) → (gethp_of s fxx).cursor ≡ count_of s.htr (height_at (at s.htr 0) (difference_of s fxx) 39)
unfolding cursor_by
counted s fxx e t =
    cursor-up s fxx
    ∙ ap (λ (w : Bool). cond w (cursor_by (rises_of s.htr) s.htr (difference_of s fxx)) 0) e
    ∙ ap (λ (r : Bool). cursor_by r s.htr (difference_of s fxx)) (is_true (rises_of s.htr) t)

pub exact-rule : (s : IonoState) (fxx : Float) → ExactRule s fxx
unfolding gethp_of
exact-rule s fxx =
    let ysq : Float → ℕ → ℕ → Float = λ ht. ysq_of s.htr s.fnsq ht (fxx *f fxx) in
    let first : Bool = fxx *f fxx -f at s.fnsq 0 ≤f f0 in
    let cursor : Float → ℕ = λ ht. cursor_by (rises_of s.htr) s.htr ht in
    record {
      used = unfold ht segment in used-by s.exact_virtual_height s.htr s.fnsq (fxx *f fxx) ysq first cursor;
      unused = unfold ht segment in unused-by s.exact_virtual_height s.htr s.fnsq (fxx *f fxx) ysq first cursor;
    }

pub forty-reads : (s : IonoState) (fxx : Float) → EachF32 s.htr → T (rises_of s.htr) → FortyReads s fxx
forty-reads s fxx held rises =
    let htr = s.htr in
    let fnsq = s.fnsq in
    let ht = difference_of s fxx in
    let fine = sub-fits binary32 (profile_interpolate_of fnsq htr (fxx *f fxx)) (at htr 0) in
    record {
      scanned = walk-is-scan htr fnsq ht held rises fine;
      starts = cursor-starts htr fnsq ht held rises fine;
      counts = cursor-counts htr fnsq ht held rises fine;
      segments = segment-counts htr fnsq ht held rises fine;
      handed = λ e. counted s fxx e rises ∙ sym (cursor-counts htr fnsq ht held rises fine 39 (omega arith));
      unwalked = λ e. cursor-up s fxx ∙ ap (λ (w : Bool). cond w (cursor_by (rises_of htr) htr ht) 0) e;
      moved = (moves-sum htr fnsq ht held rises fine, moves htr fnsq ht held rises fine);
      rising = reads-rise-finite (at htr 0) ht (held 0) fine;
    }

-- the cursor is a place of the profile
pub cursor-bound : (s : IonoState) (fxx : Float) → (gethp_of s fxx).cursor ≤ 49
unfolding cursor_by
cursor-bound s fxx = subst (λ (n : ℕ). n ≤ 49) (sym (cursor-up s fxx)) (go (walks s fxx) (rises_of s.htr))
  where
    go : (w r : Bool) → cond w (cursor_by r s.htr (difference_of s fxx)) 0 ≤ 49
    go false r = zero-le
    go true true = count-bound s.htr (height_at (at s.htr 0) (difference_of s fxx) 39) 49 0
    go true false = zero-le

pub scan-cursor : (s : IonoState) (fxx : Float) → (gethp_scan_of s fxx).cursor ≡ 0
unfolding gethp_scan_of
scan-cursor s fxx = unfold ht segment in cursor-by s.exact_virtual_height s.htr s.fnsq (fxx *f fxx) (λ ht. ysq_of s.htr s.fnsq ht (fxx *f fxx)) (fxx *f fxx -f at s.fnsq 0 ≤f f0) (λ ht. 0) ∙ either (walks s fxx)
  where
    either : (w : Bool) → cond {A = ℕ} w 0 0 ≡ 0
    either true = refl
    either false = refl
