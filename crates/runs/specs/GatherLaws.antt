-- A run of steps gathered piece by piece, and what its steps give.
use Rattle.std.specs.Prelude.{◌≡◌, refl, Bool, true, false, List, [], ◌∷◌, ◌++◌, ℕ, suc, ◌+◌, ◌<◌, ◌≤◌, length, get_or, set, take, drop, replicate}
use Rattle.std.proofs.Common.{sym, ap, ap₂, ◌∙◌, append_assoc, append-nil, arith, length-set, drop_of_length-le, take_all, take-add, take_at, drop_at, drop-drop, get_or-set_same, get_or-set_other, set-set, length-take-le}
use Rattle.std.proofs.lemmas.List.{length-replicate, set-get_or}
use Rattle.gf2.specs.Gf2.{xor_group, add}
use Rattle.lists.specs.ListLaws.{all_get_d, all_set}
use Rattle.gf2.specs.Vectors.{add_assoc, add_comm, add-zl, length-add}
use Rattle.lists.specs.Lists.{All, All.nil, All.cons, written}
use Rattle.lists.specs.Buffers.{part_length}
use Rattle.table.specs.PacketLaws.{sum_view}
use Rattle.table.specs.Packets.{Packets, packet_sum}
use Rattle.table.specs.SumLaws.{part-sum}
use Rattle.plan.specs.Steps.{carry_out_all}
use Rattle.slots.specs.Runs.{adding, run_steps}
use Rattle.slots.specs.Slots.{Holds, Among, PartsAdded, PartPut, base_of, run_sum, BaseAdded, RunAmong, gathered, Gathers}
use Rattle.slots.specs.SlotLaws.{holds_as}

-- ---- the sum of some slots
all_among : (k : ℕ) (fs : List ℕ) → Among k fs → All (λ p. p < k) fs
all_among k [] h = nil
all_among k (f ∷ fs) h = cons (h.each 0 (omega arith)) (all_among k fs (record { each = λ i g. h.each (suc i) (omega arith) }))

sum-long : (s : ℕ) (st : List (List ℕ)) (fs : List ℕ) → Packets s st → Among (length st) fs → length (packet_sum s st fs) ≡ s
sum-long s st fs sized h = (sum_view s sized {c = fs} (all_among (length st) fs h)).0

-- ---- what a run starts from
base-long : (fresh : Bool) (s : ℕ) (v : List ℕ) → length v ≡ s → length (base_of fresh s v) ≡ s
base-long true s v e = length-replicate s 0
base-long false s v e = e

-- a later part doesn't depend on what was written before it
base-part : (fresh : Bool) (s i k : ℕ) (v u p : List ℕ) → drop i u ≡ drop i v
    → take k (drop i (add xor_group (base_of fresh s u) p)) ≡ take k (drop i (add xor_group (base_of fresh s v) p))
base-part true s i k v u p e = refl
base-part false s i k v u p e = part-sum i k u p ∙ ap (λ y. add xor_group (take k y) (take k (drop i p))) e ∙ sym (part-sum i k v p)

-- the three parts of a piece
piece : (fresh : Bool) (s off k : ℕ) (v p z a r : List ℕ) → length v ≡ s → off + k ≤ s → z ≡ replicate k 0 → a ≡ add xor_group z (take k (drop off (base_of fresh s v)))
    → r ≡ add xor_group a (take k (drop off p)) → r ≡ take k (drop off (add xor_group (base_of fresh s v) p))
piece fresh s off k v p z a r long fits e f g =
    let x = base_of fresh s v in
    let lx : length (take k (drop off x)) ≡ k = part_length x off k (omega (arith, base-long fresh s v long)) in
    g ∙ ap (λ y. add xor_group y (take k (drop off p))) (f ∙ ap (λ y. add xor_group y (take k (drop off x))) e ∙ add-zl xor_group (take k (drop off x)) k lx)
    ∙ sym (part-sum off k x p)

-- ---- v with the first i bytes of x
abbrev up_to : List ℕ → List ℕ → ℕ → List ℕ
up_to v x i = take i x ++ drop i v

up-drop : (v x : List ℕ) (i : ℕ) → i ≤ length x → drop i (up_to v x i) ≡ drop i v
up-drop v x i h = drop_at (take i x) (drop i v) i (length-take-le i x h)

up-take : (v x : List ℕ) (i : ℕ) → i ≤ length x → take i (up_to v x i) ≡ take i x
up-take v x i h = take_at (take i x) (drop i v) i (length-take-le i x h)

up_more : (v x : List ℕ) (i k : ℕ) → i + k ≤ length x → written (up_to v x i) i (take k (drop i x)) ≡ up_to v x (i + k)
up_more v x i k h =
    let y = take k (drop i x) in
    let ly : length y ≡ k = part_length x i k h in
    let e : drop (i + length y) (up_to v x i) ≡ drop (i + k) v =
    ap (λ (j : ℕ). drop (i + j) (up_to v x i)) ly ∙ sym (drop-drop k i (up_to v x i)) ∙ ap (drop k) (up-drop v x i (omega arith)) ∙ drop-drop k i v in
    ap₂ (λ p q. p ++ (y ++ q)) (up-take v x i (omega arith)) e ∙ sym (append_assoc (take i x) y (drop (i + k) v))
    ∙ ap (λ l. l ++ drop (i + k) v) (sym (take-add i k x))

up-all : (v x : List ℕ) (s : ℕ) → length v ≡ s → length x ≡ s → up_to v x s ≡ x
up-all v x s lv lx = ap₂ ◌++◌ (take_all s x (omega arith)) (drop_of_length-le v {i = s} (omega arith)) ∙ append-nil x

-- ---- a run over the slots st
-- what is added stays as it was while the target is written
elsewhere : (s : ℕ) (st : List (List ℕ)) (to : ℕ) (v : List ℕ) (fs : List ℕ) → ((i : ℕ) → i < length fs → get_or fs i 0 ≡ to → ⊥)
    → packet_sum s (set st to v) fs ≡ packet_sum s st fs
elsewhere s st to v [] h = refl
elsewhere s st to v (f ∷ fs) h = ap₂ (add xor_group) (get_or-set_other st to f v [] (h 0 (omega arith))) (elsewhere s st to v fs (λ i g. h (suc i) (omega arith)))

module _ (fresh : Bool) (s : ℕ) (st : List (List ℕ)) (to : ℕ) (fs : List ℕ) (sized : Packets s st) (run : RunAmong (length st) to fs) where
  abbrev v : List ℕ
  v = get_or st to []

  abbrev x : List ℕ
  x = run_sum fresh s st to fs

  v-long : length v ≡ s
  v-long = all_get_d sized to run.target

  x-long : length x ≡ s
  x-long = length-add xor_group (base_of fresh s v) (packet_sum s st fs) s (base-long fresh s v v-long) (sum-long s st fs sized run.sources)

  gathered_none : gathered fresh s st to fs 0 ≡ st
  gathered_none = set-get_or st to []

  gathered-all : gathered fresh s st to fs s ≡ set st to x
  gathered-all = ap (set st to) (up-all v x s v-long x-long)

  gathered-more : (i k : ℕ) → i + k ≤ s → let u = gathered fresh s st to fs i in
      set u to (written (get_or u to []) i (take k (drop i (run_sum fresh s u to fs)))) ≡ gathered fresh s st to fs (i + k)
  gathered-more i k h =
      let u = up_to v x i in
      let e : get_or (set st to u) to [] ≡ u = get_or-set_same st to u [] run.target in
      let same : packet_sum s (set st to u) fs ≡ packet_sum s st fs = elsewhere s st to u fs run.apart in
      let part : take k (drop i (run_sum fresh s (set st to u) to fs)) ≡ take k (drop i x) =
      ap₂ (λ y z. take k (drop i (add xor_group (base_of fresh s y) z))) e same ∙ base-part fresh s i k v u (packet_sum s st fs) (up-drop v x i (omega (arith, x-long))) in
      set-set st to u _ ∙ ap (set st to) (ap₂ (λ y z. written y i z) e part ∙ up_more v x i k (omega (arith, x-long)))

-- ---- the pieces
pub gathers-none : (n s : ℕ) (fresh : Bool) (to : ℕ) (fs : List ℕ) (i : ℕ) (b c : List ℕ) → Gathers n s fresh to fs i i b c b c
gathers-none n s fresh to fs i b c = record { slots = λ st z r h. h }

pub gathers-on : {n s : ℕ} {fresh : Bool} {to : ℕ} {fs : List ℕ} {i j k : ℕ} {b c b' c' b'' c'' : List ℕ} → Gathers n s fresh to fs i j b c b' c'
    → Gathers n s fresh to fs j k b' c' b'' c'' → Gathers n s fresh to fs i k b c b'' c''
gathers-on f g = record { slots = λ st z r h. g.slots st z r (f.slots st z r h) }

pub gathers-as : {n s : ℕ} {fresh : Bool} {to : ℕ} {fs : List ℕ} {i j k : ℕ} {b c b' c' : List ℕ} → j ≡ k → Gathers n s fresh to fs i j b c b' c'
    → Gathers n s fresh to fs i k b c b' c'
gathers-as e g = rw (← e) g

-- one of k bytes, from z of zeros: what it starts from is added, then its slots, and the sum is put back
pub gathers-part : {n s : ℕ} {fresh : Bool} {to : ℕ} {fs : List ℕ} (off : ℕ) {b c b' c' : List ℕ} (z a r : List ℕ) → z ≡ replicate (length z) 0
    → off + length z ≤ s → length a ≡ length z → BaseAdded n s fresh to off b c z a → PartsAdded n s fs off b c a r → PartPut n s to off r b c b' c'
    → Gathers n s fresh to fs off (off + length z) b c b' c'
gathers-part {n} {s} {fresh} {to} {fs} off {b} {c} {b'} {c'} z a r zero fits long base parts put = record {
  slots = λ st sized run h.
      let u = gathered fresh s st to fs off in
      let lu : length u ≡ length st = length-set st to _ in
      let there : to < length u = rw lu run.target in
      let all : Among (length u) fs = rw lu run.sources in
      let e : r ≡ take (length z) (drop off (run_sum fresh s u to fs)) =
      piece fresh s off (length z) (get_or u to []) (packet_sum s u fs) z a r (all_get_d h.sized to there) fits zero (base.sum u h there)
      (parts.sum u h all ∙ ap (λ (k : ℕ). add xor_group a (take k (drop off (packet_sum s u fs)))) long) in
      holds_as (ap (λ y. set u to (written (get_or u to []) off y)) e ∙ gathered-more fresh s st to fs sized run off (length z) fits) (put.slots u h there);
}

-- all of them
pub gathers-all : {n s : ℕ} {fresh : Bool} {to : ℕ} {fs : List ℕ} {b c b' c' : List ℕ} → Gathers n s fresh to fs 0 s b c b' c'
    → (st : List (List ℕ)) → RunAmong (length st) to fs → Holds n s st b c → Holds n s (set st to (run_sum fresh s st to fs)) b' c'
gathers-all {n} {s} {fresh} {to} {fs} g st run h =
    let sized = h.sized in
    holds_as (gathered-all fresh s st to fs sized run) (g.slots st sized run (holds_as (sym (gathered_none fresh s st to fs sized run)) h))

-- ---- the steps of a run
-- the rest of a run, after slot to was written
rest_of : {k to f : ℕ} {fs : List ℕ} → RunAmong k to (f ∷ fs) → RunAmong k to fs
rest_of r = record {
  target = r.target;
  sources = record { each = λ i h. r.sources.each (suc i) (omega arith) };
  apart = λ i h. r.apart (suc i) (omega arith);
}

run-written : (st : List (List ℕ)) {to : ℕ} {fs : List ℕ} (v : List ℕ) → RunAmong (length st) to fs → RunAmong (length (set st to v)) to fs
run-written st {to} v r = rw (length-set st to v) r

adding-gives : (s : ℕ) (st : List (List ℕ)) (to : ℕ) (fs : List ℕ) → Packets s st → RunAmong (length st) to fs
    → carry_out_all s st (adding to fs) ≡ set st to (run_sum false s st to fs)
adding-gives s st to [] sized r =
    let v = get_or st to [] in
    sym (ap (set st to) (add_comm xor_group v (replicate s 0) ∙ add-zl xor_group v s (all_get_d sized to r.target)) ∙ set-get_or st to [])
adding-gives s st to (f ∷ fs) sized r =
    let v = get_or st to [] in let y = get_or st f [] in let u = add xor_group v y in
    adding-gives s (set st to u) to fs (all_set sized to u (length-add xor_group v y s (all_get_d sized to r.target) (all_get_d sized f (r.sources.each 0 (omega arith)))))
    (run-written st u (rest_of r))
    ∙ set-set st to u _
    ∙ ap (set st to) (ap₂ (add xor_group) (get_or-set_same st to u [] r.target) (elsewhere s st to u fs (rest_of r).apart) ∙ add_assoc xor_group v y (packet_sum s st fs))

-- they give the run's sum
pub run-gives : (fresh : Bool) (s : ℕ) (st : List (List ℕ)) (to : ℕ) (fs : List ℕ) → Packets s st → RunAmong (length st) to fs
    → carry_out_all s st (run_steps fresh to fs) ≡ set st to (run_sum fresh s st to fs)
run-gives false s st to fs sized r = adding-gives s st to fs sized r
run-gives true s st to fs sized r =
    let o : List ℕ = replicate s 0 in
    adding-gives s (set st to o) to fs (all_set sized to o (length-replicate s 0)) (run-written st o r)
    ∙ set-set st to o _
    ∙ ap (set st to) (ap₂ (add xor_group) (get_or-set_same st to o [] r.target) (elsewhere s st to o fs r.apart))
