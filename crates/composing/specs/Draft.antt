-- The circuit that a text says, line by line: one line of the path first, one to five of points, then none or 48 of deciles; lines without a word
-- anywhere. The first line with something wrong decides, and the end of the text counts as a line.
use Rattle.std.specs.Prelude.{ℕ, ◌+◌, ◌*◌, Bool, cond, ◌||◌, List, [], ◌∷◌, eqb, ltb, get_or, take, Option, Some, None, Result, Ok, Err}
use Rattle.std.proofs.lemmas.List.Edits.{sets}
use Rattle.first_difference.specs.Lines.{lines_of}
use Rattle.circuit.specs.declared.Circuit.{Circuit}
use Rattle.circuit.specs.Read.{no_circuit}
use Rattle.composing.specs.declared.compose_line.Row.{Row}
use Rattle.composing.specs.declared.compose_line.names.LineKind.{LineKind}
use Rattle.composing.specs.declared.compose_line.faults.Fault.{Fault}
use Rattle.composing.specs.declared.compose_line.faults.Wrong.{Wrong}
use Rattle.composing.specs.Row.{then, row_of}
use Rattle.composing.specs.declared.compose_text.Draft.{Draft}

-- no path yet
abbrev pub no_draft : Option Draft
no_draft = None

-- what is wrong, and in which line
abbrev pub at_line : {A : Type 0} → ℕ → Result A Fault → Result A Wrong
at_line n (Ok a) = Ok a
at_line n (Err f) = Err (record { line = n; fault = f })

-- the bits of 0 and of 1, and which shape they are
unfoldable pub is_shape : ℕ → Bool
is_shape b = eqb b 0 || eqb b 0x3f80_0000

unfoldable pub shape_in : ℕ → ℕ
shape_in b = cond (eqb b 0) 0 1

-- the numbers of the path: shape, gcd, gcdkm, amind, ssn
unfoldable pub pathed : Circuit → List ℕ → Circuit
pathed c v =
    record {
      km = c.km;
      shape = shape_in (get_or v 0 0);
      gcd = get_or v 1 0;
      gcdkm = get_or v 2 0;
      amind = get_or v 3 0;
      ssn = get_or v 4 0;
      points = c.points;
      deciles = c.deciles;
    }

-- one point more, p the words of all points
abbrev pub point_added : Circuit → List ℕ → Circuit
point_added c p =
    record {
      km = c.km + 1;
      shape = c.shape;
      gcd = c.gcd;
      gcdkm = c.gcdkm;
      amind = c.amind;
      ssn = c.ssn;
      points = p;
      deciles = c.deciles;
    }

-- other deciles
abbrev pub deciles_set : Circuit → List ℕ → Circuit
deciles_set c d =
    record {
      km = c.km;
      shape = c.shape;
      gcd = c.gcd;
      gcdkm = c.gcdkm;
      amind = c.amind;
      ssn = c.ssn;
      points = c.points;
      deciles = d;
    }

-- one point more
unfoldable pub pointed : Circuit → List ℕ → Circuit
pointed c v = point_added c (sets c.points (15 * c.km) v)

-- twelve deciles more, after so many twelves
unfoldable pub deciled : Circuit → ℕ → List ℕ → Circuit
deciled c n v = deciles_set c (sets c.deciles (12 * n) (take 12 v))

unfoldable pub given_path : List ℕ → Draft
given_path v = record { circuit = pathed no_circuit v; twelves = 0 }

unfoldable pub given_point : Draft → List ℕ → Draft
given_point d v = record { circuit = pointed d.circuit v; twelves = d.twelves }

unfoldable pub given_deciles : Draft → List ℕ → Draft
given_deciles d v = record { circuit = deciled d.circuit d.twelves v; twelves = d.twelves + 1 }

-- the path's line: the only one, with shape 0 or 1
unfoldable pub with_path : Option Draft → List ℕ → Result Draft Fault
with_path None v = cond (is_shape (get_or v 0 0)) (Ok (given_path v)) (Err Fault.BadShape)
with_path (Some d) v = Err Fault.SecondPath

-- a point's line: after the path and before the deciles, the fifth at most
unfoldable pub with_point : Option Draft → List ℕ → Result Draft Fault
with_point None v = Err Fault.NoPathYet
with_point (Some d) v =
    cond (eqb d.twelves 0) (cond (ltb d.circuit.km 5) (Ok (given_point d v)) (Err Fault.TooManyPoints)) (Err Fault.PointTooLate)

-- a line of deciles: after a point, the 48th at most
unfoldable pub with_deciles : Option Draft → List ℕ → Result Draft Fault
with_deciles None v = Err Fault.NoPointYet
with_deciles (Some d) v =
    cond (eqb d.circuit.km 0) (Err Fault.NoPointYet)
    (cond (ltb d.twelves 48) (Ok (given_deciles d v)) (Err Fault.TooManyDeciles))

-- the three kinds
abbrev pub with_kind : LineKind → Option Draft → List ℕ → Result Draft Fault
with_kind LineKind.Path d v = with_path d v
with_kind LineKind.Point d v = with_point d v
with_kind LineKind.Deciles d v = with_deciles d v

unfoldable pub with_row : Option Draft → Row → Result Draft Fault
with_row d r = with_kind r.kind d r.values

-- a line without a word says nothing
abbrev pub with_row_if : Option Draft → Option Row → Result (Option Draft) Fault
with_row_if d None = Ok d
with_row_if d (Some r) = then (λ e. Ok (Some e)) (with_row d r)

-- a line with something wrong in itself, one without a word, and the three kinds
unfoldable pub with_line : Option Draft → List ℕ → Result (Option Draft) Fault
with_line d line = then (with_row_if d) (row_of line)

-- none or all lines of deciles
unfoldable pub is_whole : ℕ → Bool
is_whole t = eqb t 0 || eqb t 48

-- the end of the text
unfoldable pub ended_draft : Option Draft → Result Circuit Fault
ended_draft None = Err Fault.NoPath
ended_draft (Some d) =
    cond (eqb d.circuit.km 0) (Err Fault.NoPoint) (cond (is_whole d.twelves) (Ok d.circuit) (Err Fault.TooFewDeciles))

-- the lines from number n on; after something wrong nothing counts
unfoldable pub with_lines : Option Draft → ℕ → List (List ℕ) → Result Circuit Wrong
with_lines d n [] = at_line n (ended_draft d)
with_lines d n (l ∷ ls) = then (λ e. with_lines e (n + 1) ls) (at_line n (with_line d l))

unfoldable pub composed_of : List ℕ → Result Circuit Wrong
composed_of text = with_lines no_draft 1 (lines_of text)
