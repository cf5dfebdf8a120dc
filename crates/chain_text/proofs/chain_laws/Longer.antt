-- Along an accepted chain no step is astray, so each next index is below the count of the shorter file, and below that of the longer one.
use mathlib.Core.Bool.{Bool, true, false, cond, ◌&&◌, not, true≢false}
use mathlib.Core.List.{List, [], ◌∷◌, ◌++◌}
use mathlib.Core.Path.{◌≡◌, refl, sym, ap, ◌∙◌, subst}
use Prim.Native.Nat.{ℕ, zero, suc, ◌+◌, ◌*◌, ◌/◌, ◌%◌, ◌<◌, ◌≤◌}
use native.Mathlib.Nat.{le_trans, le_of_eq, lt_of_lt_of_le, suc-mul, mul_comm, le-div_iff_mul-le, div-mul-le_self}
use native.Mathlib.Omega.{arith}
use borrow.Author.Tests.{lt-ltb, ltb-true, leb-true}
use lib.Dec.{ltb, leb, eqb}
use lib.ListN.{length, take, drop, length-append, length-drop}
use lib.Seq.{take-append-le, drop-append-le}
use Rattle.refusal.specs.declared.Refusal.{Refusal}
use Rattle.std.specs.Prelude.{Option, Some, Result, Ok, Err, IsOk}
use Rattle.records.specs.declared.Form.{Form}
use Rattle.records.specs.Record.{Fit, record_at, next_of}
use Rattle.records.specs.declared.record_chain.Chain.{Chain}
use Rattle.records.specs.Chain.{length_good, head_good, record_count, km_of, member, step_by, step_of, ended, answered_chain, by_step, sound_by, walk, chain_of}
use Rattle.circuit.specs.OnChain.{OnChain}
use Rattle.circuit.specs.OnChain.OnChain.{first, after}
use Rattle.circuit.proofs.circuit_laws.Off.{by-same, reached, read-so, beside-so}
use Rattle.chain_text.specs.Laws.{AlikeOnChain, LongerFile, RecordsAppended}
use Rattle.std.proofs.lemmas.Bool.{and_parts}

never : (r : Refusal) → IsOk {T = Chain} (Err r) → ⊥
never r e = true≢false (sym e)

-- ---- one step

step_by_lem : (a b c fresh : Bool) (n : ℕ) → (b ≡ true → c ≡ true) → (step_by a (b && fresh) n ≡ Err Refusal.ChainStep → ⊥) → step_by a (b && fresh) n ≡ step_by a (c && fresh) n
step_by_lem true b c fresh n h strays = refl
step_by_lem false true c fresh n h strays = ap (λ (x : Bool). step_by false (x && fresh) n) (sym (h refl))
step_by_lem false false c fresh n h strays = absurd (strays refl)

-- what a step that is not astray comes to
went : (s : Result (Option ℕ) Refusal) (e : Result Chain Refusal) (on : ℕ → Result Chain Refusal) → IsOk (by_step s e on) → (s ≡ Err Refusal.ChainStep → ⊥) × ((n : ℕ) → s ≡ Ok (Some n) → IsOk (on n))
went s e on h = (
  λ a. never Refusal.ChainStep (subst (λ (x : Result (Option ℕ) Refusal). IsOk (by_step x e on)) a h),
  λ n t. subst (λ (x : Result (Option ℕ) Refusal). IsOk (by_step x e on)) t h,
)

pick-so : (b : Bool) (x y r : Result Chain Refusal) → (IsOk x → x ≡ y) → IsOk (cond b x r) → cond b x r ≡ cond b y r
pick-so true x y r h e = h e
pick-so false x y r h e = refl

-- ---- the walk

module _ (o : Form) (f g : List ℕ) (more : record_count o f ≤ record_count o g) (same : AlikeOnChain o f g) where
  next-step : (order : List ℕ) (at : ℕ) → OnChain o f at → (step_of o f order at ≡ Err Refusal.ChainStep → ⊥) → step_of o f order at ≡ step_of o g order at
  unfolding step_of
  next-step order at on strays =
      let n = next_of (record_at o f at) in
      step_by_lem (eqb n 0) (ltb n (record_count o f)) (ltb n (record_count o g)) (not (member n order)) n (λ e. lt-ltb n (record_count o g) (lt_of_lt_of_le (ltb-true n (record_count o f) e) more)) strays
      ∙ ap (λ (r : List ℕ). step_by (eqb (next_of r) 0) (ltb (next_of r) (record_count o g) && not (member (next_of r) order)) (next_of r)) (same at on)

  next-walk : (left : ℕ) (order : List ℕ) (at : ℕ) → OnChain o f at → IsOk (walk o f left order at) → walk o f left order at ≡ walk o g left order at
  unfolding walk
  next-walk zero order at on h =
      let x = went (step_of o f order at) (ended zero (answered_chain order)) (λ n. Err Refusal.ChainRecord) h in
      by-same (step_of o f order at) (step_of o g order at) _ _ _ (next-step order at on x.0) (λ n e. refl)
  next-walk (suc left) order at on h =
      let turn : List ℕ → ℕ → Result Chain Refusal = λ k n. cond (sound_by o (leb 48 left) (record_at o k n)) (walk o k left (order ++ (n ∷ [])) n) (Err Refusal.ChainRecord) in
      let x = went (step_of o f order at) (ended (suc left) (answered_chain order)) (turn f) h in
      by-same (step_of o f order at) (step_of o g order at) _ (turn f) (turn g) (next-step order at on x.0)
      (λ n e.
      let r = reached o f g same order at n on e in
      pick-so (sound_by o (leb 48 left) (record_at o f n)) (walk o f left (order ++ (n ∷ [])) n) (walk o g left (order ++ (n ∷ [])) n) (Err Refusal.ChainRecord) (next-walk left (order ++ (n ∷ [])) n r) (x.1 n e)
      ∙ ap (λ (b : List ℕ). cond (sound_by o (leb 48 left) b) (walk o g left (order ++ (n ∷ [])) n) (Err Refusal.ChainRecord)) (same n r))

  headed : List ℕ → Result Chain Refusal
  headed k = cond (head_good o (record_at o f 0)) (walk o k (km_of (record_at o f 0) + 48) (0 ∷ []) 0) (Err Refusal.RecordZero)

  next-chain-by : (b : Bool) → IsOk (cond b (headed f) (Err Refusal.Length)) → cond b (headed f) (Err Refusal.Length) ≡ headed g
  unfolding headed
  next-chain-by true e = pick-so (head_good o (record_at o f 0)) (walk o f (km_of (record_at o f 0) + 48) (0 ∷ []) 0) (walk o g (km_of (record_at o f 0) + 48) (0 ∷ []) 0) (Err Refusal.RecordZero) (next-walk (km_of (record_at o f 0) + 48) (0 ∷ []) 0 first) e
  next-chain-by false e = absurd (never Refusal.Length e)

  next-chain : IsOk (chain_of o f) → length_good o g ≡ true → chain_of o f ≡ chain_of o g
  unfolding chain_of headed
  next-chain e good =
      next-chain-by (length_good o f) e
      ∙ ap (λ (r : List ℕ). cond (head_good o r) (walk o g (km_of r + 48) (0 ∷ []) 0) (Err Refusal.RecordZero)) (same 0 first)
      ∙ ap (λ (b : Bool). cond b (cond (head_good o (record_at o g 0)) (walk o g (km_of (record_at o g 0) + 48) (0 ∷ []) 0) (Err Refusal.RecordZero)) (Err Refusal.Length)) (sym good)

pub longer-file : LongerFile
longer-file o f g e good more same =
    let c = next-chain o f g more same e good in
    (c, read-so o f g same c, beside-so o f g same c)

-- ---- bytes appended

-- record n is among the first bytes
within : (size n long : ℕ) → 0 < size → n < long / size → size * n + size ≤ long
within size n long h k =
    let e : suc n * size ≤ long = (le-div_iff_mul-le h).0 k in
    let m : suc n * size ≡ size * n + size = suc-mul n size ∙ ap (λ (x : ℕ). x + size) (mul_comm n size) in
    le_trans (le_of_eq (sym m)) e

-- the record's bytes are those before what is appended
kept : (size n : ℕ) (f more : List ℕ) → size * n + size ≤ length f → take size (drop (size * n) f) ≡ take size (drop (size * n) (f ++ more))
kept size n f more h =
    sym (ap (take size) (drop-append-le (size * n) f more (omega arith)) ∙ take-append-le size (drop (size * n) f) more (rw length-drop (omega arith)))

-- an answered chain is that of a file of two records or more
long-enough : (o : Form) (f : List ℕ) → IsOk (chain_of o f) → 2 * o.size ≤ length f
unfolding chain_of
long-enough o f e = by (length_good o f) refl e
  where
    by : (b : Bool) → length_good o f ≡ b → IsOk (cond b (cond (head_good o (record_at o f 0)) (walk o f (km_of (record_at o f 0) + 48) (0 ∷ []) 0) (Err Refusal.RecordZero)) (Err Refusal.Length)) → 2 * o.size ≤ length f
    by true g e = leb-true (2 * o.size) (length f) (and_parts (leb (2 * o.size) (length f)) (leb (length f) (64 * o.size)) (and_parts (eqb (length f % o.size) 0) (leb (2 * o.size) (length f) && leb (length f) (64 * o.size)) g).1).0
    by false g e = absurd (never Refusal.Length e)

-- every record that a chain reaches is one of the file's
reached-within : (o : Form) (f : List ℕ) → 0 < o.size → 2 * o.size ≤ length f → (n : ℕ) → OnChain o f n → n < record_count o f
reached-within o f h l n first = (le-div_iff_mul-le {k = o.size} {x = 1} {y = length f} h).1 (omega arith)
reached-within o f h l n (after on e k) = k

more-records : (size a b : ℕ) → 0 < size → a ≤ b → a / size ≤ b / size
more-records size a b h l = (le-div_iff_mul-le {k = size} {x = a / size} {y = b} h).1 (le_trans (div-mul-le_self a size) l)

pub alike-appended : (o : Form) → Fit o → (f more : List ℕ) → IsOk (chain_of o f) → AlikeOnChain o f (f ++ more)
alike-appended o fit f more e n on =
    let h : 0 < o.size = let k = fit.0 in omega arith in
    kept o.size n f more (within o.size n (length f) h (reached-within o f h (long-enough o f e) n on))

pub records-appended : RecordsAppended
records-appended o fit f more e good =
    let h : 0 < o.size = let k = fit.0 in omega arith in
    let at_least : length f ≤ length (f ++ more) = rw length-append (omega arith) in
    longer-file o f (f ++ more) e good (more-records o.size (length f) (length (f ++ more)) h at_least) (alike-appended o fit f more e)
