-- What is read from bytes is a value of its type and has nothing past its km points. So a circuit that is read in one form and
-- written in another is read back as it was.
use Prim.Native.Nat.{ℕ, zero, suc, ◌+◌, ◌*◌, ◌-◌, ◌^◌, ◌<◌}
use mathlib.Core.Path.{◌≡◌, refl, ap, subst}
use mathlib.Core.List.{List, [], ◌∷◌}
use native.Mathlib.Omega.{arith}
use lib.ListN.{length, get_or, take, drop, replicate}
use lib.Seq.{take_at}
use Rattle.std.specs.Prelude.{IsOk}
use Rattle.records.specs.declared.record_chain.Chain.{Chain}
use Rattle.circuit.specs.declared.Circuit.{Circuit}
use Rattle.records.specs.declared.Form.{Form}
use Rattle.records.specs.Record.{Fit, record_at, word_at, record_words}
use Rattle.records.specs.Chain.{km_of, padded}
use Rattle.circuit.specs.Read.{numbers_of, circuit_of, read_of, circuit_in}
use Rattle.circuit.proofs.Lists.{length-numbers, length-read}
use Rattle.records.proofs.record_chain.Followed.{Followed, followed, count-range}
use Rattle.circuit.proofs.Answers.{read-answered}
use Rattle.circuit.specs.Written.{left_of}
use Rattle.circuit.specs.Forms.{Each, Whole, held_circuit, held_beside}
use Rattle.circuit.specs.Laws.{EveryForm, ReadBack, Carried}
use Rattle.circuit.proofs.circuit_laws.Back.{each_at}
use Rattle.circuit.proofs.circuit_laws.ReadWritten.{each_take, each-drop, each_append, read-written}
use Rattle.circuit.proofs.circuit_laws.WrittenForm.{each-zero}
use Rattle.circuit.proofs.circuit_laws.WrittenRead.{chain-answered}

word_small : (r : List ℕ) (at : ℕ) → Each 256 r → word_at r at < 2 ^ 32
unfolding word_at
word_small r at p =
    let b = each_at 256 r (omega arith) p in
    omega (arith, b at, b (at + 1), b (at + 2), b (at + 3))

words_small : (r : List ℕ) (n : ℕ) → Each 256 r → Each (2 ^ 32) (record_words r n)
unfolding record_words
words_small r zero p = tt
words_small r (suc n) p =
    each_append (2 ^ 32) (record_words r n) (word_at r (4 + 4 * n) ∷ []) (words_small r n p) (word_small r (4 + 4 * n) p, tt)

module _ (o : Form) (f : List ℕ) (p : Each 256 f) where
  record-bytes : (n : ℕ) → Each 256 (record_at o f n)
  record-bytes n = each_take 256 o.size (drop (o.size * n) f) (each-drop 256 (o.size * n) f p)

  numbers-small : (order : List ℕ) (from skip words n : ℕ) → Each (2 ^ 32) (numbers_of o f order from skip words n)
  unfolding numbers_of
  numbers-small order from skip words zero = tt
  numbers-small order from skip words (suc n) =
      let r = record_at o f (get_or order (from + n) 0) in
      each_append (2 ^ 32) (numbers_of o f order from skip words n) (drop skip (record_words r (skip + words)))
      (numbers-small order from skip words n)
      (each-drop (2 ^ 32) skip (record_words r (skip + words)) (words_small r (skip + words) (record-bytes (get_or order (from + n) 0))))

  padded-small : (N : ℕ) (l : List ℕ) → Each (2 ^ 32) l → Each (2 ^ 32) (padded N l)
  padded-small N l q = each_append (2 ^ 32) l (replicate (N - length l) 0) q (each-zero (2 ^ 32) (N - length l) (omega arith))

  module _ (k : Chain) (t : Followed o f k) where
    km : ℕ
    km = km_of (record_at o f 0)

    whole : Whole (circuit_of o f k)
    unfolding circuit_of km
    whole =
        let r = record_at o f 0 in
        let b = record-bytes 0 in
        let n = count-range o f k t in
        let h = t.head.most in
        record {
          gcd = word_small r 8 b;
          gcdkm = word_small r 12 b;
          amind = word_small r 16 b;
          ssn = word_small r 20 b;
          points = padded-small 75 (numbers_of o f k.order 1 0 15 km) (numbers-small k.order 1 0 15 km);
          deciles =
              padded-small 576 (numbers_of o f k.order (1 + km) 0 12 (k.count - (1 + km)))
              (numbers-small k.order (1 + km) 0 12 (k.count - (1 + km)));
          five = length-read o f k.order 1 0 15 75 km (omega (arith, h));
          all = length-read o f k.order (1 + km) 0 12 576 (k.count - (1 + km)) (omega (arith, n.0, n.1));
        }

    held : held_circuit (circuit_of o f k) ≡ circuit_of o f k
    unfolding circuit_of held_circuit km
    held =
        let X = numbers_of o f k.order 1 0 15 km in
        rw (take_at X (replicate (75 - length X) 0) (15 * km) (length-numbers o f k.order 1 0 15 km)) refl

-- so is what the reader answers
pub whole-read : (o : Form) → Fit o → (f : List ℕ) → Each 256 f → IsOk (read_of o f)
    → Whole (circuit_in (read_of o f))
whole-read o fit f b a =
    let g = chain-answered o f a in
    rw (read-answered o f g.0 g.1) (whole o f b g.0 (followed o fit f g.0 g.1))

pub carried : EveryForm (λ o. EveryForm (Carried o))
carried o fit p fits f beside out n b a x e =
    let g = chain-answered o f a in
    let k = g.0 in
    let t = followed o fit f k g.1 in
    let c = circuit_of o f k in
    let i : circuit_in (read_of o f) ≡ c = ap circuit_in (read-answered o f k g.1) in
    rw i
    (subst (λ (d : Circuit). ReadBack p d (held_beside p c beside) (take n (left_of p c beside out))) (held o f b k t)
    (read-written p fits c beside out n (whole o f b k t) x (rw i at e)))
