-- A chain that was followed to its end: every record that it names is in the file, the points' after record 0, and the others after them.
use Prim.Native.Nat.{ℕ, ◌+◌, ◌-◌, ◌*◌, ◌≤◌}
use mathlib.Core.Path.{◌≡◌, refl}
use mathlib.Core.List.{List}
use native.Mathlib.Omega.{arith}
use native.Mathlib.Nat.{add-sub_cancel_left}
use denote.Ref.{Bor}
use lib.ListN.{length, take, drop, length-drop}
use lib.Seq.{length-take-le}
use Rattle.std.specs.Prelude.{Ok}
use Rattle.records.specs.declared.Form.{Form}
use Rattle.records.specs.Record.{Fit, record_at}
use Rattle.records.specs.declared.record_chain.Chain.{Chain}
use Rattle.records.specs.Chain.{chain_of, km_of}
use Rattle.records.proofs.record_chain.Followed.{Followed, followed, there, count-range}
use Rattle.circuit.specs.Read.{Parts, RecordsFound, numbers_of}
use Rattle.circuit.proofs.Lists.{numbers-part, part-there}

module _ (o : Form) (fit : Fit o) (f : List ℕ) (c : Chain) (e : chain_of o f ≡ Ok c) where
  told : Followed o f c
  told = followed o fit f c e

  range : (1 + km_of (record_at o f 0) ≤ c.count) × (c.count ≤ km_of (record_at o f 0) + 49)
  range = count-range o f c told

  -- record 0 is there, and as long as a record
  pub head-there : o.size * 0 + o.size ≤ length f
  head-there = let t = told.least in omega (arith, t)

  pub length-head : length (record_at o f 0) ≡ o.size
  length-head = length-take-le o.size (drop (o.size * 0) f) (simp length-drop (omega (arith, head-there)))

  module _ (km : ℕ) (k : km ≡ km_of (record_at o f 0)) where
    pub km-most : km ≤ 5
    km-most = omega (arith, k, told.head.most)

    pub room-points : 1 + km ≤ length c.order
    room-points = omega (arith, k, told.head.most, told.long.room)

    pub deciles-after : 1 + km ≤ c.count
    deciles-after = omega (arith, k, range)

    pub room-deciles : c.count ≤ length c.order
    room-deciles = omega (arith, range, told.head.most, told.long.room)

    abbrev pub points : List ℕ
    points = take (1 + km - 1) (drop 1 c.order)

    abbrev pub deciles : List ℕ
    deciles = take (c.count - (1 + km)) (drop (1 + km) c.order)

    -- the numbers of either part, as they stand in the definition
    pub points-are : (skip words : ℕ)
        → numbers_of o f points 0 skip words (length points) ≡ numbers_of o f c.order 1 skip words km
    points-are skip words = numbers-part o f c.order 1 (1 + km - 1) km skip words (add-sub_cancel_left 1 km) (omega (arith, room-points))

    pub deciles-are : (skip words : ℕ)
        → numbers_of o f deciles 0 skip words (length deciles) ≡ numbers_of o f c.order (1 + km) skip words (c.count - (1 + km))
    deciles-are skip words =
        let n : ℕ = c.count - (1 + km) in
        numbers-part o f c.order (1 + km) n n skip words refl (omega (arith, deciles-after, room-deciles))

    module _ (pre : Bor (List ℕ) → ℕ → Type 0) (post : Bor (List ℕ) → ℕ → Bor (List ℕ) → Type 0) (parts : Parts pre post o) where
      pub points-found : (words : ℕ) → 4 + 4 * words ≤ o.size → (length points ≤ 5) × RecordsFound pre post o f points words
      points-found words h =
          let p = part-there o f c.order 1 (1 + km - 1) 5 (there o f c told) (omega (arith, km-most)) (omega (arith, room-points)) in
          (p.0, record { room = h; there = p.1; parts = parts })

      pub deciles-found : (words : ℕ) → 4 + 4 * words ≤ o.size → (length deciles ≤ 48) × RecordsFound pre post o f deciles words
      deciles-found words h =
          let p = part-there o f c.order (1 + km) (c.count - (1 + km)) 48 (there o f c told) (omega (arith, k, range)) (omega (arith, deciles-after, room-deciles)) in
          (p.0, record { room = h; there = p.1; parts = parts })
