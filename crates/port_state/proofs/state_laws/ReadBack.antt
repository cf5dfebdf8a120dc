-- Word by word: what is written at a place stays there, since every later part is written elsewhere.
use mathlib.Core.Bool.{Bool, true, false, cond, ◌&&◌}
use mathlib.Core.List.{List, [], ◌∷◌, ◌++◌, map}
use mathlib.Core.Path.{◌≡◌, refl, sym, ap, ◌∙◌, subst}
use Prim.Native.Nat.{ℕ, zero, suc, ◌+◌, ◌-◌, ◌<◌, ◌≤◌}
use native.Mathlib.Nat.{mod-eq_of_lt}
use native.Mathlib.Omega.{arith}
use borrow.Author.Tests.{lt-ltb, le-ltb, ltb-true, ltb-false, leb-true, eqb-true, eqb-false, ne_eqb}
use lib.Dec.{T, ltb, leb, eqb}
use lib.IntN.{ℤ, pos, negsuc}
use lib.ListN.{get_or, length, take, drop, set, length-map, length-append, length-drop, length-set, get_or-append}
use lib.Seq.{length-take-le, get_or-take, get_or-drop, get_or-append-add, get_or-set_other, ext_get_or}
use lib.Signed.{mag}
use lib.Ieee.{Float, nan, binary32, fits, of_bits, to_bits}
use lib.Ieee.Bits.{of_bits-to_bits, of_bits-fits}
use lib.Ieee.Fits.{nan-fits}
use Rattle.scalar.specs.F32.{at}
use Rattle.layers.specs.Owners.{owner_slot}
use Rattle.layers.specs.declared.IonoState.{IonoState}
use Rattle.layers.specs.declared.Owner.{Owner}
use Rattle.port_state.specs.Words.{word, floats_of, floats_into, signed_by, signed_of, word_of, yes_of, flag_of, count_word}
use Rattle.port_state.specs.Owners.{owner_of_word, word_of_owner}
use Rattle.port_state.specs.State.{state_of, tables_into, profile_into, counts_into, flags_into, owner_into, exact_into, state_into}
use Rattle.port_state.specs.ReadBack.{Floats, WordsSuffice, StateReadBack, WordsSufficeRead}
use Rattle.port_state.proofs.state_laws.Owners.{owner-read-back}
use Rattle.std.proofs.lemmas.Bool.{and_parts}
use Rattle.std.proofs.lemmas.Grind.{get_or-set_at}
use Rattle.std.proofs.lemmas.List.{get_or-map}

-- ---- lists

-- n floats written from word a on
module _ (w : List ℕ) (a n : ℕ) (x : List Float) (long : length x ≡ n) (room : a + n ≤ length w) where
  head-length : length (take a w) ≡ a
  head-length = length-take-le a w (omega arith)

  body-length : length (take a w ++ map (to_bits binary32) x) ≡ a + n
  body-length = length-append (take a w) (map (to_bits binary32) x) ∙ rw (head-length, length-map, long)

  into-length : length (floats_into w a x) ≡ length w
  unfolding floats_into
  into-length = length-append (take a w ++ map (to_bits binary32) x) (drop (a + length x) w) ∙ rw (body-length, length-drop, long) (omega arith)

  into-before : (j : ℕ) → j < a → word (floats_into w a x) j ≡ word w j
  unfolding floats_into
  into-before j h =
      get_or-append (take a w ++ map (to_bits binary32) x) (drop (a + length x) w) 0 j (rw body-length (omega arith))
      ∙ get_or-append (take a w) (map (to_bits binary32) x) 0 j (rw head-length h)
      ∙ get_or-take a w j 0 h

  into-same : (i : ℕ) → i < n → word (floats_into w a x) (a + i) ≡ to_bits binary32 (at x i)
  unfolding floats_into
  into-same i h =
      get_or-append (take a w ++ map (to_bits binary32) x) (drop (a + length x) w) 0 (a + i) (rw body-length (omega arith))
      ∙ ap (λ (k : ℕ). get_or (take a w ++ map (to_bits binary32) x) (k + i) 0) (sym head-length)
      ∙ get_or-append-add (take a w) (map (to_bits binary32) x) i 0
      ∙ get_or-map (to_bits binary32) x i nan 0 (rw long h)

-- n floats read from word a on
floats-are : (u : List ℕ) (a n : ℕ) (x : List Float) → Floats n x → a + n ≤ length u → ((i : ℕ) → i < n → word u (a + i) ≡ to_bits binary32 (at x i)) → floats_of u a n ≡ x
unfolding floats_of
floats-are u a n x f room h =
    let part = take n (drop a u) in
    let l : length part ≡ n = length-take-le n (drop a u) (rw length-drop (omega arith)) in
    ext_get_or nan (map (of_bits binary32) part) x (rw length-map (l ∙ sym f.0))
    (λ i b. let k : i < n = subst (λ (m : ℕ). i < m) (rw length-map l) b in
    get_or-map (of_bits binary32) part i 0 nan (rw l k)
    ∙ ap (of_bits binary32) (get_or-take n (drop a u) i 0 k ∙ get_or-drop a u i 0 ∙ h i k)
    ∙ of_bits-to_bits binary32 (at x i) (f.1 i))

-- ---- one number as a word

flag-back : (b : Bool) → yes_of (flag_of b) ≡ b
unfolding yes_of flag_of
flag-back true = refl
flag-back false = refl

signed_back : (z : ℤ) → mag z < 0x8000_0000 → signed_of (word_of z) ≡ z
unfolding signed_of word_of
signed_back (pos n) h = ap (λ (b : Bool). signed_by b n) (lt-ltb n 0x8000_0000 h)
signed_back (negsuc n) h = ap (λ (b : Bool). signed_by b (0xffff_ffff - n)) (le-ltb (0xffff_ffff - n) 0x8000_0000 (omega arith)) ∙ ap negsuc (omega arith)

-- ---- the whole

-- words stored one by one over the words w, each with its place, the last one first; and the word that is at place j then
abbrev stored : List (ℕ × ℕ) → List ℕ → List ℕ
stored [] w = w
stored (p ∷ ps) w = set (stored ps w) p.0 p.1

abbrev last_at : List (ℕ × ℕ) → ℕ → ℕ → ℕ
last_at [] j word = word
last_at (p ∷ ps) j word = cond (eqb j p.0) p.1 (last_at ps j word)

stored-length : (ps : List (ℕ × ℕ)) (w : List ℕ) → length (stored ps w) ≡ length w
stored-length [] w = refl
stored-length (p ∷ ps) w = length-set (stored ps w) p.0 p.1 ∙ stored-length ps w

set-word : (w : List ℕ) (i j v : ℕ) → j < length w → word (set w i v) j ≡ cond (eqb j i) v (word w j)
set-word w i j v h = by (eqb j i) refl
  where
    by : (b : Bool) → eqb j i ≡ b → word (set w i v) j ≡ cond b v (word w j)
    by true e = let k = eqb-true j i e in get_or-set_at w i j v 0 k (omega arith)
    by false e = get_or-set_other w i j v 0 (eqb-false j i e)

stored-at : (ps : List (ℕ × ℕ)) (w : List ℕ) (j : ℕ) → j < length w → word (stored ps w) j ≡ last_at ps j (word w j)
stored-at [] w j h = refl
stored-at (p ∷ ps) w j h =
    set-word (stored ps w) p.0 j p.1 (rw stored-length h) ∙ ap (λ (x : ℕ). cond (eqb j p.0) p.1 x) (stored-at ps w j h)

module _ (s : IonoState) (w : List ℕ) (ok : WordsSuffice s) (room : 155 ≤ length w) where
  abbrev t1 : List ℕ
  t1 = floats_into w 0 s.fi

  abbrev t2 : List ℕ
  t2 = floats_into t1 15 s.yi

  abbrev t3 : List ℕ
  t3 = floats_into t2 30 s.hi

  abbrev p1 : List ℕ
  p1 = floats_into t3 47 s.htr

  abbrev p2 : List ℕ
  p2 = floats_into p1 97 s.fnsq

  abbrev p3 : List ℕ
  p3 = floats_into p2 148 s.fsecv

  l1 : length t1 ≡ length w
  l1 = into-length w 0 15 s.fi ok.fi-floats.0 (omega arith)

  l2 : length t2 ≡ length w
  l2 = let l = l1 in into-length t1 15 15 s.yi ok.yi-floats.0 (omega arith) ∙ l

  l3 : length t3 ≡ length w
  l3 = let l = l2 in into-length t2 30 15 s.hi ok.hi-floats.0 (omega arith) ∙ l

  l4 : length p1 ≡ length w
  l4 = let l = l3 in into-length t3 47 50 s.htr ok.htr-floats.0 (omega arith) ∙ l

  l5 : length p2 ≡ length w
  l5 = let l = l4 in into-length p1 97 50 s.fnsq ok.fnsq-floats.0 (omega arith) ∙ l

  l6 : length p3 ≡ length w
  l6 = let l = l5 in into-length p2 148 3 s.fsecv ok.fsecv-floats.0 (omega arith) ∙ l

  abbrev puts : List (ℕ × ℕ)
  puts =
      (154, flag_of s.exact_virtual_height) ∷ (153, word_of_owner s.owner) ∷ (152, flag_of s.ielect) ∷ (151, word_of s.iedp) ∷ (147, flag_of s.htr_rises) ∷ (46, count_word s.kfx) ∷ (45, count_word s.km) ∷ []

  abbrev u : List ℕ
  u = stored puts p3

  is-u : state_into s w ≡ u
  unfolding state_into exact_into owner_into flags_into counts_into profile_into tables_into
  is-u = refl

  u-length : length u ≡ length w
  u-length = stored-length puts p3 ∙ l6

  u-word : (j : ℕ) → j < 155 → word u j ≡ last_at puts j (word p3 j)
  u-word j h = let l = l6 in stored-at puts p3 j (omega arith)

  -- a word below 148 that is none of the seven is as p2 has it; below 97 as p1 has it; below 47 as t3 has it
  from-p3 : (j : ℕ) → (j ≡ 45 → ⊥) → (j ≡ 46 → ⊥) → (j ≡ 147 → ⊥) → j < 151 → word u j ≡ word p3 j
  from-p3 j h1 h2 h3 h =
      u-word j (omega arith) ∙ rw (ne_eqb j 154 (λ e. omega arith), ne_eqb j 153 (λ e. omega arith), ne_eqb j 152 (λ e. omega arith), ne_eqb j 151 (λ e. omega arith), ne_eqb j 147 h3, ne_eqb j 46 h2, ne_eqb j 45 h1)

  from-p2 : (j : ℕ) → (j ≡ 45 → ⊥) → (j ≡ 46 → ⊥) → j < 147 → word u j ≡ word p2 j
  from-p2 j h1 h2 h = let l = l5 in from-p3 j h1 h2 (λ e. omega arith) (omega arith) ∙ into-before p2 148 3 s.fsecv ok.fsecv-floats.0 (omega arith) j (omega arith)

  from-p1 : (j : ℕ) → (j ≡ 45 → ⊥) → (j ≡ 46 → ⊥) → j < 97 → word u j ≡ word p1 j
  from-p1 j h1 h2 h = let l = l4 in from-p2 j h1 h2 (omega arith) ∙ into-before p1 97 50 s.fnsq ok.fnsq-floats.0 (omega arith) j h

  from-t3 : (j : ℕ) → j < 45 → word u j ≡ word t3 j
  from-t3 j h = let l = l3 in from-p1 j (λ e. omega arith) (λ e. omega arith) (omega arith) ∙ into-before t3 47 50 s.htr ok.htr-floats.0 (omega arith) j (omega arith)

  from-t2 : (j : ℕ) → j < 30 → word u j ≡ word t2 j
  from-t2 j h = let l = l2 in from-t3 j (omega arith) ∙ into-before t2 30 15 s.hi ok.hi-floats.0 (omega arith) j h

  from-t1 : (j : ℕ) → j < 15 → word u j ≡ word t1 j
  from-t1 j h = let l = l1 in from-t2 j (omega arith) ∙ into-before t1 15 15 s.yi ok.yi-floats.0 (omega arith) j h

  fi-back : floats_of u 0 15 ≡ s.fi
  fi-back = let l = u-length in floats-are u 0 15 s.fi ok.fi-floats (omega arith) (λ i h. from-t1 (0 + i) (omega arith) ∙ into-same w 0 15 s.fi ok.fi-floats.0 (omega arith) i h)

  yi-back : floats_of u 15 15 ≡ s.yi
  yi-back = let l = u-length in let m = l1 in floats-are u 15 15 s.yi ok.yi-floats (omega arith) (λ i h. from-t2 (15 + i) (omega arith) ∙ into-same t1 15 15 s.yi ok.yi-floats.0 (omega arith) i h)

  hi-back : floats_of u 30 15 ≡ s.hi
  hi-back = let l = u-length in let m = l2 in floats-are u 30 15 s.hi ok.hi-floats (omega arith) (λ i h. from-t3 (30 + i) (omega arith) ∙ into-same t2 30 15 s.hi ok.hi-floats.0 (omega arith) i h)

  htr-back : floats_of u 47 50 ≡ s.htr
  htr-back = let l = u-length in let m = l3 in floats-are u 47 50 s.htr ok.htr-floats (omega arith) (λ i h. from-p1 (47 + i) (λ e. omega arith) (λ e. omega arith) (omega arith) ∙ into-same t3 47 50 s.htr ok.htr-floats.0 (omega arith) i h)

  fnsq-back : floats_of u 97 50 ≡ s.fnsq
  fnsq-back = let l = u-length in let m = l4 in floats-are u 97 50 s.fnsq ok.fnsq-floats (omega arith) (λ i h. from-p2 (97 + i) (λ e. omega arith) (λ e. omega arith) (omega arith) ∙ into-same p1 97 50 s.fnsq ok.fnsq-floats.0 (omega arith) i h)

  fsecv-back : floats_of u 148 3 ≡ s.fsecv
  fsecv-back = let l = u-length in let m = l5 in floats-are u 148 3 s.fsecv ok.fsecv-floats (omega arith) (λ i h. from-p3 (148 + i) (λ e. omega arith) (λ e. omega arith) (λ e. omega arith) (omega arith) ∙ into-same p2 148 3 s.fsecv ok.fsecv-floats.0 (omega arith) i h)

  km-back : word u 45 ≡ s.km
  km-back = u-word 45 (omega arith) ∙ mod-eq_of_lt ok.km-small

  kfx-back : word u 46 ≡ s.kfx
  kfx-back = u-word 46 (omega arith) ∙ mod-eq_of_lt ok.kfx-small

  rises-back : yes_of (word u 147) ≡ s.htr_rises
  rises-back = ap yes_of (u-word 147 (omega arith)) ∙ flag-back s.htr_rises

  iedp-back : signed_of (word u 151) ≡ s.iedp
  iedp-back = ap signed_of (u-word 151 (omega arith)) ∙ signed_back s.iedp ok.iedp-small

  ielect-back : yes_of (word u 152) ≡ s.ielect
  ielect-back = ap yes_of (u-word 152 (omega arith)) ∙ flag-back s.ielect

  owner-back : owner_of_word (word u 153) ≡ s.owner
  owner-back = ap owner_of_word (u-word 153 (omega arith)) ∙ owner-read-back s.owner ok.owner-small

  exact-back : yes_of (word u 154) ≡ s.exact_virtual_height
  exact-back = ap yes_of (u-word 154 (omega arith)) ∙ flag-back s.exact_virtual_height

  u-back : state_of u ≡ s
  unfolding state_of
  u-back =
      λ i. record {
        fi = fi-back i;
        yi = yi-back i;
        hi = hi-back i;
        km = km-back i;
        kfx = kfx-back i;
        htr = htr-back i;
        fnsq = fnsq-back i;
        htr_rises = rises-back i;
        fsecv = fsecv-back i;
        iedp = iedp-back i;
        ielect = ielect-back i;
        owner = owner-back i;
        exact_virtual_height = exact-back i;
      }

pub state-read-back : StateReadBack
state-read-back s w ok room = ap state_of (is-u s w ok room) ∙ u-back s w ok room

-- ---- what is read from words

of_bits-held : (l : List ℕ) (i : ℕ) → T (fits binary32 (at (map (of_bits binary32) l) i))
of_bits-held [] i = nan-fits binary32
of_bits-held (x ∷ l) zero = of_bits-fits binary32 x
of_bits-held (x ∷ l) (suc i) = of_bits-held l i

floats-read : (w : List ℕ) (a n : ℕ) → a + n ≤ length w → Floats n (floats_of w a n)
unfolding floats_of
floats-read w a n room = (rw length-map (length-take-le n (drop a w) (rw length-drop (omega arith))), λ i. of_bits-held (take n (drop a w)) i)

signed_by_lem : (b : Bool) (w : ℕ) → ltb w 0x8000_0000 ≡ b → w < 0x1_0000_0000 → mag (signed_by b w) < 0x8000_0000
signed_by_lem true w e h = ltb-true w 0x8000_0000 e
signed_by_lem false w e h = let k = ltb-false w 0x8000_0000 e in omega arith

signed-small : (w : ℕ) → w < 0x1_0000_0000 → mag (signed_of w) < 0x8000_0000
unfolding signed_of
signed-small w h = signed_by_lem (ltb w 0x8000_0000) w refl h

owner-by : (a b : Bool) (w : ℕ) → (b ≡ true → w ≤ 3) → owner_slot (cond a Owner.Supplied (cond b (Owner.Slot (w - 1)) Owner.None)) < 3
owner-by true b w h = omega arith
owner-by false true w h = let k = h refl in omega arith
owner-by false false w h = omega arith

owner-read : (w : ℕ) → owner_slot (owner_of_word w) < 3
unfolding owner_of_word
owner-read w = owner-by (eqb w 4) (leb 1 w && leb w 3) w (λ e. leb-true w 3 (and_parts (leb 1 w) (leb w 3) e).1)

pub words-suffice : WordsSufficeRead
unfolding state_of
words-suffice w room small =
    record {
      fi-floats = floats-read w 0 15 (omega arith);
      yi-floats = floats-read w 15 15 (omega arith);
      hi-floats = floats-read w 30 15 (omega arith);
      htr-floats = floats-read w 47 50 (omega arith);
      fnsq-floats = floats-read w 97 50 (omega arith);
      fsecv-floats = floats-read w 148 3 (omega arith);
      km-small = small 45;
      kfx-small = small 46;
      iedp-small = signed-small (word w 151) (small 151);
      owner-small = owner-read (word w 153);
    }
