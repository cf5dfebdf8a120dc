-- The answer and the lists lent, where the call is refused and where it is not; what the tests that it passes say.
use Prim.Native.Nat.{ℕ, ◌+◌, ◌≤◌}
use mathlib.Core.Path.{◌≡◌, refl, ap}
use mathlib.Core.Bool.{true, false, ◌&&◌}
use mathlib.Core.List.{List}
use lib.Dec.{eqb, leb}
use lib.IntN.{ℤ}
use lib.ListN.{length}
use borrow.Author.Tests.{eqb-true, leb-true}
use Rattle.refusal.specs.declared.Refusal.{Refusal}
use Rattle.traces.specs.Trace.{rises, fit}
use Rattle.traces.specs.Lines.{trace_lines}
use Rattle.traces.specs.Compared.{ready, column, compared_of}
use Rattle.traces.specs.Trace.{TraceRows}
use Rattle.std.specs.Prelude.{Ok, Err}
use Rattle.std.proofs.lemmas.Bool.{and_parts}
use Rattle.traces.proofs.Merged.{khz_in, which_in, difference_in}

fit-facts : (xs hs : List ℕ) → fit xs hs ≡ true → TraceRows xs hs × (length xs ≤ 512)
fit-facts xs hs e =
    let p = and_parts (eqb (length xs) (length hs)) (leb (length xs) 512 && rises xs) e in
    let q = and_parts (leb (length xs) 512) (rises xs) p.1 in
    (record { rising = q.1; heights = eqb-true (length xs) (length hs) p.0 }, leb-true (length xs) 512 q.0)

module _ (a ah b bh khz which : List ℕ) (difference : List ℤ) where
  pub record Facts : Type 0 where
    pub first : TraceRows a ah
    pub second : TraceRows b bh
    pub first-few : length a ≤ 512
    pub second-few : length b ≤ 512
    pub khz-room : length a + length b ≤ length khz
    pub which-room : length a + length b ≤ length which
    pub difference-room : length a + length b ≤ length difference

  pub ready-facts : ready a ah b bh khz which difference ≡ true → Facts
  ready-facts e =
      let rows = length a + length b in
      let p =
      and_parts (fit a ah) (fit b bh && (leb rows (length khz) && (leb rows (length which) && leb rows (length difference)))) e
      in
      let q = and_parts (fit b bh) (leb rows (length khz) && (leb rows (length which) && leb rows (length difference))) p.1 in
      let r = and_parts (leb rows (length khz)) (leb rows (length which) && leb rows (length difference)) q.1 in
      let s = and_parts (leb rows (length which)) (leb rows (length difference)) r.1 in
      let f = fit-facts a ah p.0 in
      let g = fit-facts b bh q.0 in
      record {
        first = f.0;
        second = g.0;
        first-few = f.1;
        second-few = g.1;
        khz-room = leb-true rows (length khz) r.0;
        which-room = leb-true rows (length which) s.0;
        difference-room = leb-true rows (length difference) s.1;
      }

  pub refused : ready a ah b bh khz which difference ≡ false
      → let r = compared_of a ah b bh khz which difference in
      (Err Refusal.Traces ≡ r.answer) × ((khz ≡ r.khz) × ((which ≡ r.which) × (difference ≡ r.difference)))
  unfolding compared_of
  refused e = rw e (refl, (refl, (refl, refl)))

  pub answered : (n : ℕ) (khz' which' : List ℕ) (difference' : List ℤ) → ready a ah b bh khz which difference ≡ true
      → n ≡ length (trace_lines a ah b bh) → khz' ≡ column khz_in (trace_lines a ah b bh) khz
      → which' ≡ column which_in (trace_lines a ah b bh) which
      → difference' ≡ column difference_in (trace_lines a ah b bh) difference
      → let r = compared_of a ah b bh khz which difference in
      (Ok n ≡ r.answer) × ((khz' ≡ r.khz) × ((which' ≡ r.which) × (difference' ≡ r.difference)))
  unfolding compared_of
  answered n khz' which' difference' e p q r s = rw e (ap Ok p, (q, (r, s)))
