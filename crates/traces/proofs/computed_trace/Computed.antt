-- The numbers of a column: all are taken, or one is refused. An answer is a trace.
use Prim.Native.Nat.{ℕ, zero, suc, ◌+◌, ◌≤◌, ◌<◌}
use mathlib.Core.Path.{◌≡◌, refl, sym, ap, ◌∙◌, subst}
use mathlib.Core.Bool.{Bool, true, false, cond, ◌&&◌}
use mathlib.Core.List.{List, [], ◌∷◌, ◌++◌, map, append-nil}
use native.Mathlib.Omega.{arith}
use native.Mathlib.Numerals.{add-one}
use lib.Ieee.{Float, nan}
use lib.ListN.{length, get_or, drop, set, length-map, drop_of_length-le}
use borrow.Author.Tests.{eq-eqb, le-leb}
use Rattle.std.specs.Prelude.{Result, Ok, Err}
use Rattle.refusal.specs.declared.Refusal.{Refusal}
use Rattle.figures.specs.Nearest.{times_of}
use Rattle.traces.proofs.Cells.{sofar, sofar-more, sofar-all}
use Rattle.traces.specs.Trace.{rises, fit}
use Rattle.traces.specs.Computed.{fit_number, all_fit, khz_rows, height_rows, fit_column_of, trace_by, trace_of, TraceFits}
use Rattle.traces.specs.declared.computed_trace.ComputedTrace.{ComputedTrace}
use Rattle.std.proofs.lemmas.Bool.{and_parts}

module _ (k : ℕ) where
  abbrev number_of : Float → Result ℕ Refusal
  number_of v = cond (fit_number k v) (Ok (times_of k v)) (Err Refusal.Traces)

  taken : (b : Bool) (n m : ℕ) → Ok n ≡ cond b (Ok m) (Err Refusal.Traces) → (b ≡ true) × (n ≡ m)
  taken true n m e = (refl, cc)
  taken false n m e = absurd cc

  refused : (b : Bool) (m : ℕ) (r : Refusal) → Err r ≡ cond b (Ok m) (Err Refusal.Traces) → (b ≡ false) × (r ≡ Refusal.Traces)
  refused true m r e = absurd cc
  refused false m r e = (refl, cc)

  step : (x : List Float) (i : ℕ) → i < length x
      → all_fit k (drop i x) ≡ (fit_number k (get_or x i nan) && all_fit k (drop (suc i) x))
  unfolding all_fit
  step [] i h = absurd (omega arith)
  step (v ∷ x) zero h = refl
  step (v ∷ x) (suc i) h = step x i (omega arith)

  -- a number that is refused ends the test, and one that is taken leaves it to the others
  pub unfit-at : (x : List Float) (i : ℕ) (r : Refusal) → i < length x → Err r ≡ number_of (get_or x i nan)
      → (all_fit k (drop i x) ≡ false) × (r ≡ Refusal.Traces)
  unfit-at x i r h e =
      let p = refused (fit_number k (get_or x i nan)) (times_of k (get_or x i nan)) r e in (step x i h ∙ rw p.0, p.1)

  pub fit-at : (x : List Float) (i n : ℕ) → i < length x → Ok n ≡ number_of (get_or x i nan)
      → (all_fit k (drop i x) ≡ all_fit k (drop (i + 1) x)) × (n ≡ times_of k (get_or x i nan))
  fit-at x i n h e =
      let p = taken (fit_number k (get_or x i nan)) n (times_of k (get_or x i nan)) e in (step x i h ∙ rw (p.0, add-one i), p.1)

  pub stored : (x : List Float) (out₀ out : List ℕ) (i n : ℕ) → i < length x → length out₀ ≡ length x
      → out ≡ sofar (times_of k) x i out₀ → n ≡ times_of k (get_or x i nan) → set out i n ≡ sofar (times_of k) x (i + 1) out₀
  stored x out₀ out i n h e p q =
      ap (λ (l : List ℕ). set l i n) p
      ∙ ap (λ (m : ℕ). set (sofar (times_of k) x i out₀) i m) q
      ∙ sofar-more (times_of k) x i out₀ (get_or x i nan) nan h (omega arith) refl
      ∙ ap (λ (m : ℕ). sofar (times_of k) x m out₀) (sym (add-one i))

  pub fit-end : (x : List Float) (i : ℕ) → length x ≤ i → all_fit k (drop i x) ≡ true
  unfolding all_fit
  fit-end x i h = ap (all_fit k) (drop_of_length-le x {i = i} h)

  pub all-stored : (x : List Float) (out₀ out : List ℕ) (i : ℕ) → i ≡ length x → length out₀ ≡ length x
      → out ≡ sofar (times_of k) x i out₀ → out ≡ map (times_of k) x
  all-stored x out₀ out i e p q =
      q
      ∙ sofar-all (times_of k) x i out₀ e
      ∙ ap (λ (l : List ℕ). map (times_of k) x ++ l) (drop_of_length-le out₀ {i = length x} (omega arith))
      ∙ append-nil (map (times_of k) x)

-- ---- an answer is a trace

rows_fit : (khz height : List ℕ) → length khz ≡ 30 → length height ≡ 30 → rises khz ≡ true → fit khz height ≡ true
rows_fit khz height p q r =
    rw (eq-eqb (length khz) (length height) (omega arith), le-leb (length khz) 512 (omega arith)) r

by_fits : (fvert hprim : List Float) (t : ComputedTrace) → length fvert ≡ 30 → length hprim ≡ 30 → (b : Bool)
    → (b ≡ true → rises (khz_rows fvert) ≡ true) → trace_by b (khz_rows fvert) (height_rows hprim) ≡ Ok t
    → fit t.khz t.height ≡ true
by_fits fvert hprim t p q true r e =
    let s : record { khz = khz_rows fvert; height = height_rows hprim } ≡ t = cc in
    subst (λ (u : ComputedTrace). fit u.khz u.height ≡ true) s
    (rows_fit (khz_rows fvert) (height_rows hprim) (length-map fvert (times_of 1000) ∙ p) (length-map hprim (times_of 10) ∙ q) (r refl))
by_fits fvert hprim t p q false r e = let z : ◌≡◌ {A = ℕ} 0 1 = cc in absurd (omega arith)

pub trace-fits : TraceFits
unfolding trace_of
trace-fits fvert hprim t p q e =
    by_fits fvert hprim t p q (all_fit 1000 fvert && (all_fit 10 hprim && rises (khz_rows fvert)))
    (λ b.
    (and_parts (all_fit 10 hprim) (rises (khz_rows fvert))
    (and_parts (all_fit 1000 fvert) (all_fit 10 hprim && rises (khz_rows fvert)) b).1).1) e
