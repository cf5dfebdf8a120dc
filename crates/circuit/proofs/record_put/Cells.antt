-- Cells filled from the front: what stands there is p, and then the cells as they were lent.
use Prim.Native.Nat.{ℕ, ◌+◌, ◌*◌, ◌-◌, ◌/◌, ◌%◌, ◌≤◌, ◌<◌}
use mathlib.Core.Path.{◌≡◌, refl, ap, ◌∙◌}
use mathlib.Core.List.{List, [], ◌∷◌, ◌++◌, append_assoc, append-nil}
use native.Mathlib.Omega.{arith}
use native.Mathlib.Numerals.{add-one}
use native.Mathlib.Nat.{add-sub_cancel_left}
use lib.ListN.{length, get_or, take, drop, replicate, length-replicate, length-append, length-drop, drop_of_length-le}
use lib.Seq.{take_at, drop_at, drop-drop, take-suc, length-take-le}
use Rattle.circuit.specs.declared.Circuit.{Circuit}
use Rattle.records.specs.declared.Form.{Form}
use Rattle.std.proofs.lemmas.List.{take_rest, drop-replicate}
use Rattle.circuit.specs.Bytes.{half_of, word_bytes, bytes_of, record_of, head_of}

module _ (l l₀ p : List ℕ) (a : ℕ) (e : l ≡ p ++ drop a l₀) (n : length p ≡ a) where
  -- a part filled
  pub fill_on : (ys : List ℕ) (w : ℕ) → take a l ++ (ys ++ drop (a + w - a) (drop a l)) ≡ (p ++ ys) ++ drop (a + w) l₀
  fill_on ys w =
      rw (
        add-sub_cancel_left a w,
        e,
        take_at p (drop a l₀) a n,
        drop_at p (drop a l₀) a n,
        drop-drop w a l₀,
        append_assoc,
      )

  -- the rest filled
  pub fill_end : (ys : List ℕ) → take a l ++ (ys ++ drop (length l - a) (drop a l)) ≡ p ++ ys
  fill_end ys =
      let h : length (drop a l) ≤ length l - a = simp length-drop (omega arith) in
      rw (drop_of_length-le (drop a l) h, append-nil) (ap (λ (x : List ℕ). take a x ++ ys) e ∙ rw (take_at p (drop a l₀) a n) refl)

pub bytes-append : (a b : List ℕ) → bytes_of (a ++ b) ≡ bytes_of a ++ bytes_of b
unfolding bytes_of
bytes-append [] b = refl
bytes-append (w ∷ a) b = rw (bytes-append a b)

pub length-bytes : (ws : List ℕ) → length (bytes_of ws) ≡ 4 * length ws
unfolding bytes_of
length-bytes [] = omega arith
length-bytes (w ∷ ws) = omega (arith, length-bytes ws)

pub bytes_on : (ws : List ℕ) (i : ℕ) → i < length ws → bytes_of (take (i + 1) ws) ≡ bytes_of (take i ws) ++ word_bytes (get_or ws i 0)
unfolding bytes_of
bytes_on ws i h = rw (add-one, take-suc ws i 0 h, bytes-append)

-- the bytes of the first words
pub bytes-took : (ws : List ℕ) (i : ℕ) → i ≤ length ws → length (bytes_of (take i ws)) ≡ 4 * i
bytes-took ws i h = length-bytes (take i ws) ∙ ap (λ (n : ℕ). 4 * n) (length-take-le i ws h)

pub words_more : (ws l l₀ ys : List ℕ) (i : ℕ) → i < length ws → l ≡ bytes_of (take i ws) ++ drop (4 * i) l₀
    → ys ≡ word_bytes (get_or ws i 0)
    → take (4 * i) l ++ (ys ++ drop (4 * i + 4 - 4 * i) (drop (4 * i) l)) ≡ bytes_of (take (i + 1) ws) ++ drop (4 * (i + 1)) l₀
words_more ws l l₀ ys i h e y =
    let q : 4 * i + 4 ≡ 4 * (i + 1) = omega arith in
    fill_on l l₀ (bytes_of (take i ws)) (4 * i) e (bytes-took ws i (omega arith)) ys 4
    ∙ rw (y, q, bytes_on ws i h) refl

-- filled cells are as many as were lent
pub length-filled : (p l₀ : List ℕ) (a : ℕ) → length p ≡ a → a ≤ length l₀ → length (p ++ drop a l₀) ≡ length l₀
length-filled p l₀ a n h = simp (length-append, length-drop) (omega arith)

-- a record put in four parts
module _ (l ws : List ℕ) (kind next : ℕ) (k : 4 + 4 * length ws ≤ length l) where
  unfoldable pub one : List ℕ
  one = half_of kind ++ drop 2 l

  unfoldable pub two : List ℕ
  two = take 2 one ++ (half_of next ++ drop 2 (drop 2 one))

  unfoldable pub three : List ℕ
  three = take 4 two ++ (bytes_of ws ++ drop (4 + 4 * length ws - 4) (drop 4 two))

  front : List ℕ
  front = (half_of kind ++ half_of next) ++ bytes_of ws

  three-is : three ≡ front ++ drop (4 + 4 * length ws) l
  unfolding one two three front
  three-is =
      fill_on two l (half_of kind ++ half_of next) 4 (fill_on one l (half_of kind) 2 refl refl (half_of next) 2) refl
      (bytes_of ws) (4 * length ws)

  front_long : length front ≡ 4 + 4 * length ws
  unfolding front
  front_long = omega (arith, length-bytes ws)

  three-long : length three ≡ length l
  three-long = ap length three-is ∙ length-filled front l (4 + 4 * length ws) front_long k

  pub put_all :
      take (4 + 4 * length ws) three
      ++ (replicate (length (take (length three - (4 + 4 * length ws)) (drop (4 + 4 * length ws) three))) 0
      ++ drop (length three - (4 + 4 * length ws)) (drop (4 + 4 * length ws) three))
      ≡ record_of (length l) kind next ws
  unfolding record_of front
  put_all =
      let q : length (take (length three - (4 + 4 * length ws)) (drop (4 + 4 * length ws) three)) ≡ length l - (4 + 4 * length ws)
      = ap length (take_rest three (4 + 4 * length ws)) ∙ simp (length-drop, three-long) in
      fill_end three l front (4 + 4 * length ws) three-is front_long _
      ∙ ap (λ (n : ℕ). front ++ replicate n 0) q
      ∙ rw append_assoc refl

-- a point: the words that the form adds, put over the zeros after its fifteen
pub point-put : (size next : ℕ) (ws extra : List ℕ) → length ws ≡ 15
    → take 64 (record_of size 2 next ws)
    ++ (bytes_of extra ++ drop (64 + 4 * length extra - 64) (drop 64 (record_of size 2 next ws)))
    ≡ record_of size 2 next (ws ++ extra)
unfolding record_of
point-put size next ws extra h =
    let zeros : List ℕ = replicate (size - (4 + 4 * length ws)) 0 in
    let n : length (bytes_of ws) ≡ 60 = omega (arith, length-bytes ws) in
    let q : size - (4 + 4 * length ws) - 4 * length extra ≡ size - (4 + 4 * length (ws ++ extra))
    = simp length-append (omega arith) in
    rw (
      add-sub_cancel_left 64 (4 * length extra),
      take_at (bytes_of ws) zeros 60 n,
      drop_at (bytes_of ws) zeros 60 n,
      drop-replicate {X = ℕ} (4 * length extra) (size - (4 + 4 * length ws)) 0,
      q,
      bytes-append,
      append_assoc,
    )

-- the first word of record 0 is km, shape and two zero bytes
pub head-put : (o : Form) (c : Circuit) (next : ℕ) → c.km ≤ 5 → c.shape ≤ 1
    → record_of o.size o.first next ((c.km + 256 * c.shape) ∷ c.gcd ∷ c.gcdkm ∷ c.amind ∷ c.ssn ∷ [])
    ≡ head_of o c next
unfolding record_of head_of bytes_of
head-put o c next h k =
    let a : (c.km + 256 * c.shape) % 256 ≡ c.km = omega arith in
    let b : (c.km + 256 * c.shape) / 256 ≡ c.shape = omega arith in
    let b' : c.shape % 256 ≡ c.shape = omega arith in
    let d : (c.km + 256 * c.shape) / 0x1_0000 ≡ 0 = omega arith in
    let e : (c.km + 256 * c.shape) / 0x100_0000 ≡ 0 = omega arith in
    rw (a, b, b', d, e)

pub length-record : (size kind next : ℕ) (ws : List ℕ) → 4 + 4 * length ws ≤ size → length (record_of size kind next ws) ≡ size
unfolding record_of
length-record size kind next ws h = simp (length-append, length-bytes, length-replicate) (omega arith)
