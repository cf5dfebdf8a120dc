-- The circuit of a text is whole: every word is a u32, the arrays have their lengths, and the words past its points are zero. It
-- has one point to five, and shape 0 or 1.
use mathlib.Core.Path.{◌≡◌, refl, sym, ap, ◌∙◌, subst}
use mathlib.Core.Bool.{Bool, true, false, cond}
use mathlib.Core.List.{List, [], ◌∷◌}
use Prim.Native.Nat.{ℕ, zero, suc, ◌+◌, ◌-◌, ◌*◌, ◌^◌, ◌≤◌, ◌<◌}
use native.Mathlib.Omega.{arith}
use borrow.Author.Tests.{eqb-false, ltb-true}
use lib.Dec.{eqb, ltb}
use lib.ListN.{length, get_or, set, take, drop, replicate, length-set}
use lib.Seq.{sets, length-sets, drop-drop}
use lib.Ieee.{binary32}
use lib.Ieee.Fits.{round-fits}
use lib.Ieee.Bits.{to_bits-lt}
use Rattle.std.specs.Prelude.{Option, Some, None, Result, Ok, Err}
use Rattle.std.specs.List.{list_any}
use Rattle.composing.specs.Words.{words_of, up_to}
use Rattle.first_difference.specs.Lines.{lines_of}
use Rattle.composing.specs.Decimal.{decimal_read, unsigned_of, parts_of, fine_of}
use Rattle.circuit.specs.declared.Circuit.{Circuit}
use Rattle.circuit.specs.Read.{no_circuit}
use Rattle.circuit.specs.Forms.{Each, Whole}
use Rattle.circuit.proofs.circuit_laws.Back.{each_at}
use Rattle.circuit.proofs.circuit_laws.ReadWritten.{each_take}
use Rattle.circuit.proofs.circuit_laws.WrittenForm.{each-zero}
use Rattle.composing.specs.declared.compose_line.Row.{Row}
use Rattle.composing.specs.declared.compose_line.names.LineKind.{LineKind}
use Rattle.composing.specs.declared.compose_line.faults.Fault.{Fault}
use Rattle.composing.specs.Names.{line_kind_of, field_place_of}
use Rattle.composing.specs.Row.{then, blank_row, begun, named, stored, first_word, field_word, number_by, with_word, with_words, ended_row, row_of}
use Rattle.composing.specs.declared.compose_text.Draft.{Draft}
use Rattle.composing.specs.Draft.{no_draft, at_line, is_shape, shape_in, pathed, pointed, deciled, given_path, given_point, given_deciles, with_path, with_point, with_deciles, with_kind, with_row, with_row_if, with_line, with_lines, is_whole, ended_draft, composed_of}
use Rattle.std.proofs.lemmas.List.{drop-set-lt, drop-replicate}

-- what holds of an answer, where nothing is wrong, and of a row or a draft, where there is one
abbrev pub Of : {A E : Type 0} → (A → Type 0) → Result A E → Type 0
Of P (Ok a) = P a
Of P (Err e) = Unit {0}

abbrev pub OfSome : {A : Type 0} → (A → Type 0) → Option A → Type 0
OfSome P (Some a) = P a
OfSome P None = Unit {0}

known : {A E : Type 0} (P : A → Type 0) (q : Bool) (a b : Result A E) → (q ≡ true → Of P a) → (q ≡ false → Of P b) → Of P (cond q a b)
known P true a b f g = f refl
known P false a b f g = g refl

of-then : {A B E : Type 0} (P : A → Type 0) (Q : B → Type 0) (f : A → Result B E) (x : Result A E)
    → ((a : A) → P a → Of Q (f a)) → Of P x → Of Q (then f x)
of-then P Q f (Ok a) h p = h a p
of-then P Q f (Err e) h p = tt

of-line : {A : Type 0} (P : A → Type 0) (n : ℕ) (x : Result A Fault) → Of P x → Of P (at_line n x)
of-line P n (Ok a) p = p
of-line P n (Err f) p = tt

each_set : (n : ℕ) (l : List ℕ) (i a : ℕ) → a < n → Each n l → Each n (set l i a)
each_set n [] i a h e = tt
each_set n (x ∷ l) zero a h e = (h, e.1)
each_set n (x ∷ l) (suc i) a h e = (e.0, each_set n l i a h e.1)

each-sets : (n : ℕ) (l : List ℕ) (i : ℕ) (v : List ℕ) → Each n l → Each n v → Each n (sets l i v)
each-sets n l i [] e f = e
each-sets n l i (a ∷ v) e f = each-sets n (set l i a) (suc i) v (each_set n l i a f.0 e) f.1

-- what stands past the stores stays
past-sets : (l : List ℕ) (i k : ℕ) (v : List ℕ) → i + length v ≤ k → drop k (sets l i v) ≡ drop k l
past-sets l i k [] h = refl
past-sets l i k (a ∷ v) h = past-sets (set l i a) (suc i) k v (omega (arith, h)) ∙ drop-set-lt k l i a (omega (arith, h))

zeros : {m n : ℕ} → m ≡ n → replicate m 0 ≡ replicate {A = ℕ} n 0
zeros = ap (λ (x : ℕ). replicate x 0)

-- a decimal's bits
abbrev Below : ℕ → Type 0
Below b = b < 2 ^ 32

below-cond : (q : Bool) (x : ℕ) → Below x → OfSome Below (cond q (Some x) None)
below-cond true x a = a
below-cond false x a = tt

below_parts : (minus : Bool) (whole rest : List ℕ) → OfSome Below (parts_of minus whole rest)
unfolding parts_of
below_parts minus whole rest = below-cond (fine_of whole rest) _ (to_bits-lt binary32 _ (round-fits binary32 minus _ _))

below-decimal : (w : List ℕ) → OfSome Below (decimal_read w)
unfolding decimal_read unsigned_of
below-decimal w = below_parts _ _ _

record Fifteen (r : Row) : Type 0 where
  each : Each (2 ^ 32) r.values
  all : length r.values ≡ 15

row-stored : (r : Row) (b : ℕ) → Below b → Fifteen r → Fifteen (stored r b)
unfolding stored
row-stored r b h s =
    by (ltb r.at 15) (record { each = each_set (2 ^ 32) r.values r.at b h s.each; all = length-set r.values r.at b ∙ s.all }) s
  where
    by : {x y : Row} (q : Bool) → Fifteen x → Fifteen y → Fifteen (cond q x y)
    by true a b = a
    by false a b = b

row_number : (x : Option ℕ) (r : Row) → OfSome Below x → Fifteen r → Of Fifteen (number_by x r)
row_number (Some b) r h s = row-stored r b h s
row_number None r h s = tt

row_first : (k : Option LineKind) → Of Fifteen (first_word k)
unfolding begun
row_first (Some k) = record { each = each-zero (2 ^ 32) 15 (omega arith); all = refl }
row_first None = tt

row_field : (r : Row) (p : Option ℕ) → Fifteen r → Of Fifteen (field_word r p)
unfolding field_word named
row_field r None s = tt
row_field r (Some p) s = known Fifteen (get_or r.missing p false) _ _ (λ e. record { each = s.each; all = s.all }) (λ e. tt)

row_word : (r : Option Row) (w : List ℕ) → OfSome Fifteen r → Of Fifteen (with_word r w)
unfolding with_word
row_word None w s = row_first (line_kind_of w)
row_word (Some r) w s =
    known Fifteen (eqb r.left 0) _ _ (λ e. row_field r (field_place_of r.kind w) s)
    (λ e. row_number (decimal_read w) r (below-decimal w) s)

row_words : (r : Option Row) (ws : List (List ℕ)) → OfSome Fifteen r → Of (OfSome Fifteen) (with_words r ws)
unfolding with_words
row_words r [] s = s
row_words r (w ∷ ws) s =
    of-then Fifteen (OfSome Fifteen) (λ (x : Row). with_words (Some x) ws) (with_word r w) (λ x p. row_words (Some x) ws p) (row_word r w s)

row-ended : (r : Option Row) → OfSome Fifteen r → Of (OfSome Fifteen) (ended_row r)
unfolding ended_row
row-ended None s = tt
row-ended (Some r) s =
    known (OfSome Fifteen) (eqb r.left 0) _ _ (λ e. known (OfSome Fifteen) (list_any (λ m. m) r.missing) _ _ (λ e. tt) (λ e. s)) (λ e. tt)

row_line : (l : List ℕ) → Of (OfSome Fifteen) (row_of l)
unfolding row_of
row_line l =
    of-then (OfSome Fifteen) (OfSome Fifteen) ended_row (with_words blank_row (words_of (up_to 35 l))) row-ended
    (row_words blank_row (words_of (up_to 35 l)) tt)

pub record Held (c : Circuit) : Type 0 where
  pub whole : Whole c
  pub past : drop (15 * c.km) c.points ≡ replicate (75 - 15 * c.km) 0
  pub km : c.km ≤ 5
  pub shape : c.shape ≤ 1

abbrev HeldDraft : Draft → Type 0
HeldDraft d = Held d.circuit

shape-in : (b : ℕ) → shape_in b ≤ 1
unfolding shape_in
shape-in b = by (eqb b 0)
  where
    by : (q : Bool) → cond q 0 1 ≤ 1
    by true = omega arith
    by false = omega arith

held-path : (d : Option Draft) (v : List ℕ) → Each (2 ^ 32) v → Of HeldDraft (with_path d v)
unfolding with_path given_path pathed no_circuit
held-path (Some d) v e = tt
held-path None v e =
    let at : (i : ℕ) → get_or v i 0 < 2 ^ 32 = each_at (2 ^ 32) v (omega arith) e in
    known HeldDraft (is_shape (get_or v 0 0)) _ _
    (λ q. record {
      whole = record {
        gcd = at 1;
        gcdkm = at 2;
        amind = at 3;
        ssn = at 4;
        points = each-zero (2 ^ 32) 75 (omega arith);
        deciles = each-zero (2 ^ 32) 576 (omega arith);
        five = refl;
        all = refl;
      };
      past = refl;
      km = omega arith;
      shape = shape-in (get_or v 0 0);
    }) (λ q. tt)

past-point : (l v : List ℕ) (k : ℕ) → length v ≡ 15 → drop (15 * k) l ≡ replicate (75 - 15 * k) 0
    → drop (15 * (k + 1)) (sets l (15 * k) v) ≡ replicate (75 - 15 * (k + 1)) 0
past-point l v k h p =
    let a : 15 * (k + 1) ≡ 15 * k + 15 = omega arith in
    let b : 75 - 15 * k - 15 ≡ 75 - 15 * (k + 1) = omega arith in
    let c : drop (15 * k + 15) l ≡ drop 15 (drop (15 * k) l) = sym (drop-drop 15 (15 * k) l) in
    past-sets l (15 * k) (15 * (k + 1)) v (omega (arith, h))
    ∙ ap (λ (x : ℕ). drop x l) a
    ∙ c
    ∙ ap (drop 15) p
    ∙ drop-replicate {X = ℕ} 15 (75 - 15 * k) 0
    ∙ zeros b

held-point : (d : Option Draft) (v : List ℕ) → Each (2 ^ 32) v → length v ≡ 15 → OfSome HeldDraft d → Of HeldDraft (with_point d v)
unfolding with_point given_point pointed
held-point None v e h s = tt
held-point (Some d) v e h s =
    let w = s.whole in
    let k = d.circuit.km in
    let p = d.circuit.points in
    known HeldDraft (eqb d.twelves 0) _ _
    (λ q. known HeldDraft (ltb k 5) _ _
    (λ q. record {
      whole = record {
        gcd = w.gcd;
        gcdkm = w.gcdkm;
        amind = w.amind;
        ssn = w.ssn;
        points = each-sets (2 ^ 32) p (15 * k) v w.points e;
        deciles = w.deciles;
        five = length-sets p (15 * k) v ∙ w.five;
        all = w.all;
      };
      past = past-point p v k h s.past;
      km = let l = ltb-true k 5 q in omega (arith, l);
      shape = s.shape;
    }) (λ q. tt))
    (λ q. tt)

held-deciles : (d : Option Draft) (v : List ℕ) → Each (2 ^ 32) v → OfSome HeldDraft d → Of HeldDraft (with_deciles d v)
unfolding with_deciles given_deciles deciled
held-deciles None v e s = tt
held-deciles (Some d) v e s =
    let w = s.whole in
    let l = d.circuit.deciles in
    let i = 12 * d.twelves in
    known HeldDraft (eqb d.circuit.km 0) _ _ (λ q. tt)
    (λ q. known HeldDraft (ltb d.twelves 48) _ _
    (λ q. record {
      whole = record {
        gcd = w.gcd;
        gcdkm = w.gcdkm;
        amind = w.amind;
        ssn = w.ssn;
        points = w.points;
        deciles = each-sets (2 ^ 32) l i (take 12 v) w.deciles (each_take (2 ^ 32) 12 v e);
        five = w.five;
        all = length-sets l i (take 12 v) ∙ w.all;
      };
      past = s.past;
      km = s.km;
      shape = s.shape;
    }) (λ q. tt))

held-row : (d : Option Draft) (r : Row) → Fifteen r → OfSome HeldDraft d → Of HeldDraft (with_row d r)
unfolding with_row
held-row d r t s = by r.kind
  where
    by : (k : LineKind) → Of HeldDraft (with_kind k d r.values)
    by LineKind.Path = held-path d r.values t.each
    by LineKind.Point = held-point d r.values t.each t.all s
    by LineKind.Deciles = held-deciles d r.values t.each s

held-line : (d : Option Draft) (l : List ℕ) → OfSome HeldDraft d → Of (OfSome HeldDraft) (with_line d l)
unfolding with_line
held-line d l s = of-then (OfSome Fifteen) (OfSome HeldDraft) (with_row_if d) (row_of l) by (row_line l)
  where
    by : (r : Option Row) → OfSome Fifteen r → Of (OfSome HeldDraft) (with_row_if d r)
    by None t = s
    by (Some r) t = of-then HeldDraft (OfSome HeldDraft) (λ e. Ok (Some e)) (with_row d r) (λ e p. p) (held-row d r t s)

-- at the end there is a point too
pub record HeldText (c : Circuit) : Type 0 where
  pub held : Held c
  pub point : 1 ≤ c.km

held-end : (d : Option Draft) → OfSome HeldDraft d → Of HeldText (ended_draft d)
unfolding ended_draft
held-end None s = tt
held-end (Some d) s =
    known HeldText (eqb d.circuit.km 0) _ _ (λ e. tt)
    (λ e. known HeldText (is_whole d.twelves) _ _
    (λ w. record { held = s; point = let h = eqb-false d.circuit.km 0 e in omega (arith, h) }) (λ w. tt))

held-lines : (d : Option Draft) (n : ℕ) (ls : List (List ℕ)) → OfSome HeldDraft d → Of HeldText (with_lines d n ls)
unfolding with_lines
held-lines d n [] s = of-line HeldText n (ended_draft d) (held-end d s)
held-lines d n (l ∷ ls) s =
    of-then (OfSome HeldDraft) HeldText (λ (x : Option Draft). with_lines x (n + 1) ls) (at_line n (with_line d l))
    (λ x p. held-lines x (n + 1) ls p) (of-line (OfSome HeldDraft) n (with_line d l) (held-line d l s))

pub held-text : (text : List ℕ) (c : Circuit) → composed_of text ≡ Ok c → HeldText c
unfolding composed_of
held-text text c e = subst (Of HeldText) e (held-lines no_draft 1 (lines_of text) tt)
