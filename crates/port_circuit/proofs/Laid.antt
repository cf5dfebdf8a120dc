-- Parts written one after the other are the layout, and the circuit read from there is the one written.
use mathlib.Core.Path.{◌≡◌, refl, ap, sym, ◌∙◌}
use mathlib.Core.List.{List, ◌++◌, append_assoc}
use Prim.Native.Nat.{ℕ, ◌+◌}
use native.Mathlib.Nat.{zero-add}
use lib.ListN.{length, take, drop}
use lib.Seq.{take_at, drop_at, drop-drop}
use Rattle.circuit.specs.declared.Circuit.{Circuit}
use Rattle.port_circuit.specs.Words.{words_into, head_words, layout_of, circuit_into}
use Rattle.port_circuit.specs.Words as words

-- a part written after those before it
pub next-part : (p x w : List ℕ) (n : ℕ) → length p ≡ n → words_into (p ++ drop n w) n x ≡ (p ++ x) ++ drop (n + length x) w
unfolding words_into
next-part p x w n e =
    let d : drop (n + length x) (p ++ drop n w) ≡ drop (n + length x) w =
    sym (drop-drop (length x) n (p ++ drop n w)) ∙ ap (drop (length x)) (drop_at p (drop n w) n e) ∙ drop-drop (length x) n w in
    rw (take_at p (drop n w) n e, d)

pub first_part : (x w : List ℕ) → words_into w 0 x ≡ x ++ drop (length x) w
unfolding words_into
first_part x w = rw (zero-add (length x))

pub laid : (c : Circuit) (w : List ℕ) → length c.points ≡ 75 → length c.deciles ≡ 576
    → words_into (words_into (words_into w 0 (head_words c)) 6 c.points) 81 c.deciles ≡ circuit_into c w
unfolding circuit_into layout_of
laid c w p d =
    let q : length (head_words c ++ c.points) ≡ 81 = simp p in
    let a : drop {A = ℕ} (6 + length c.points) w ≡ drop 81 w = ap (λ (k : ℕ). drop (6 + k) w) p in
    let b : drop {A = ℕ} (81 + length c.deciles) w ≡ drop 657 w = ap (λ (k : ℕ). drop (81 + k) w) d in
    rw (first_part (head_words c) w, next-part (head_words c) c.points w 6 refl, a, next-part (head_words c ++ c.points) c.deciles w 81 q, b, append_assoc)

-- what `port_read` leaves, `port_write` takes for the same circuit
pub read_back : (c : Circuit) (w : List ℕ) → length c.points ≡ 75 → length c.deciles ≡ 576
    → words.circuit_of_words (circuit_into c w) ≡ c
unfolding circuit_into layout_of words.circuit_of_words words.words_from
read_back c w p d =
    let q : length (head_words c ++ c.points) ≡ 81 = simp p in
    let r : head_words c ++ (c.points ++ c.deciles) ++ drop 657 w ≡ (head_words c ++ c.points) ++ (c.deciles ++ drop 657 w) = rw (append_assoc, append_assoc) in
    let a : take 75 (drop 6 (head_words c ++ (c.points ++ c.deciles) ++ drop 657 w)) ≡ c.points =
    rw append_assoc (take_at c.points (c.deciles ++ drop 657 w) 75 p) in
    let b : take 576 (drop 81 (head_words c ++ (c.points ++ c.deciles) ++ drop 657 w)) ≡ c.deciles =
    rw (r, drop_at (head_words c ++ c.points) (c.deciles ++ drop 657 w) 81 q) (take_at c.deciles (drop 657 w) 576 d) in
    rw (a, b)
