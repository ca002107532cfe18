-- Laws of one turn.
use mathlib.Core.Path.{◌≡◌, refl, sym, ap, ◌∙◌, subst, fun_ext}
use mathlib.Core.Bool.{Bool, true, false, cond, true≢false}
use mathlib.Core.List.{List, [], ◌∷◌, ◌++◌, map}
use mathlib.Core.Option.{Option, none, some}
use Prim.Native.Nat.{ℕ, zero, suc, ◌+◌, ◌<◌, ◌≤◌}
use native.Mathlib.Nat.{suc_inj}
use native.Mathlib.Omega.{arith}
use lib.ListN.{length, get_or, set, length-set}
use lib.Seq.{get_or-set_same, get_or-set_other}
use lib.Bits.{bit_xor, xor_zero_r, xor_zero_l}
use lib.Dec.{eqb, leb}
use borrow.Author.Tests.{leb-true, leb-false, eq-eqb, ne_eqb}
use Rattle.gf2.specs.Gf2.{xor_group, sum_over}
use Rattle.table.specs.Checks.{check}
use Rattle.lists.specs.Tests.{eqb-true, eqb-false, eqb-self, by_bool}
use Rattle.lists.specs.Lists.{highest, has, All, All.nil, All.cons, count}
use Rattle.lists.specs.ListLaws.{highest-is, all_map, all-self, map-all}
use Rattle.rule.specs.Choices.{FirstMost, most-passes, most-first, most-rest}
use Rattle.rule.specs.Rule.{first, without, freed, worth_most}
use Rattle.live.specs.Live.{Tally, Forgot, found}
use Rattle.freed.specs.Most.{lives, most_from, twos}
use Rattle.std.specs.declared.option.Option.TheVariants.{Some, None}
use Rattle.peel.specs.declared.Event.TheVariants.{Took, Aside}
use Rattle.live.specs.TallyLaws.{Out, Out.here as ohere, Out.there as othere, tally-less, single-is}
use Rattle.peel.specs.Turn.{less, In, In.here, In.there, Pick, Picked, Picked.by_place, Picked.by-choice, Ready, Removed}

-- ---- a place in one live check names it
abbrev name : (ℕ → List ℕ) → ℕ → ℕ → ℕ
name g p j = cond (has p (g j)) j 0

none-names : (g : ℕ → List ℕ) (p : ℕ) (JS : List ℕ) → count (has p) (map g JS) ≡ 0 → sum_over xor_group (name g p) JS ≡ 0
none-names g p [] h = refl
none-names g p (j ∷ JS) h = by_bool (has p (g j))
    (λ e. absurd (omega (arith, rw (e, count) at h)))
    (λ e. rw e (xor_zero_l _ ∙ none-names g p JS (rw (e, count) at h)))

pick-here : (g : ℕ → List ℕ) (f : List ℕ → Bool) (j : ℕ) (JS : List ℕ) → f (g j) ≡ true → Pick g f (j ∷ JS) j
unfolding less
pick-here g f j JS e = record { member = here; passes = e; is-first = rw (e, first); is-rest = rw (e, without, eqb-self j) }

pick-there : (g : ℕ → List ℕ) (f : List ℕ → Bool) (i j : ℕ) (JS : List ℕ) → f (g i) ≡ false → Pick g f JS j → Pick g f (i ∷ JS) j
unfolding less
pick-there g f i j JS e r =
    let n : eqb i j ≡ false = by_bool (eqb i j) (λ z. absurd (true≢false (sym r.passes ∙ ap (λ (x : ℕ). f (g x)) (sym (eqb-true i j z)) ∙ e))) (λ z. z) in
    record { member = there r.member; passes = r.passes; is-first = rw (e, first) r.is-first; is-rest = rw (e, without, n) (ap (λ l. g i ∷ l) r.is-rest) }

one-is : (g : ℕ → List ℕ) (p : ℕ) (JS : List ℕ) → count (has p) (map g JS) ≡ 1 → Pick g (has p) JS (sum_over xor_group (name g p) JS)
one-is g p [] h = absurd (omega arith)
one-is g p (j ∷ JS) h = by_bool (has p (g j))
    (λ e. let z : sum_over xor_group (name g p) (j ∷ JS) ≡ j = rw e (ap (bit_xor j) (none-names g p JS (suc_inj (rw (e, count) at h))) ∙ xor_zero_r j) in
    subst (Pick g (has p) (j ∷ JS)) (sym z) (pick-here g (has p) j JS e))
    (λ e. let z : sum_over xor_group (name g p) (j ∷ JS) ≡ sum_over xor_group (name g p) JS = rw e (xor_zero_l _) in
    subst (Pick g (has p) (j ∷ JS)) (sym z) (pick-there g (has p) j _ JS e (one-is g p JS (rw (e, count) at h))))

pub tally-pick : (g : ℕ → List ℕ) (p : ℕ) {JS c x : List ℕ} → Tally g JS c x → get_or c p 0 ≡ 1 → Pick g (has p) JS (get_or x p 0)
tally-pick g p {JS} s h = subst (Pick g (has p) JS) (sym (s.names p)) (one-is g p JS (sym (s.counts p) ∙ h))

-- ---- the first that is worth most, on numbers
-- what a scan from b and w comes to: nothing is worth w, or j is found, before which all are worth less and behind which none is worth more
data Scanned (f : ℕ → ℕ) (b w : ℕ) : List ℕ → ℕ → Type 0 where
  stay : {JS : List ℕ} → All (λ i. f i < w) JS → Scanned f b w JS b
  got : {before after : List ℕ} {j : ℕ} → w ≤ f j → All (λ i. f i < f j) before → All (λ i. f i ≤ f j) after → Scanned f b w (before ++ (j ∷ after)) j

scans : (f : ℕ → ℕ) (b w : ℕ) (JS : List ℕ) → Scanned f b w JS (most_from f b w JS)
unfolding most_from
scans f b w [] = stay nil
scans f b w (j ∷ JS) = by_bool (leb w (f j))
    (λ t. rw (t, most_from) (up (leb-true w (f j) t) (scans f j (f j + 1) JS)))
    (λ t. rw (t, most_from) (keep (leb-false w (f j) t) (scans f b w JS)))
  where
    up : {K : List ℕ} {r : ℕ} → w ≤ f j → Scanned f j (f j + 1) K r → Scanned f b w (j ∷ K) r
    up h (stay a) = got {before = []} h nil (all_map (λ i l. omega arith) a)
    up h (got {before = A} {j = k} l a c) = got {before = j ∷ A} {j = k} (omega arith) (cons {x = j} (omega arith) a) c

    keep : {K : List ℕ} {r : ℕ} → f j < w → Scanned f b w K r → Scanned f b w (j ∷ K) r
    keep h (stay a) = stay (cons h a)
    keep h (got {before = A} {j = k} l a c) = got {before = j ∷ A} {j = k} l (cons {x = j} (omega arith) a) c

in-there : (j : ℕ) (before after : List ℕ) → In j (before ++ (j ∷ after))
in-there j [] after = here
in-there j (i ∷ before) after = there (in-there j before after)

less-there : (j : ℕ) {before : List ℕ} (after : List ℕ) → All (λ i. eqb i j ≡ false) before → less j (before ++ (j ∷ after)) ≡ before ++ after
unfolding less
less-there j after nil = rw (eqb-self j)
less-there j after (cons {x = i} e a) = rw e (ap (λ l. i ∷ l) (less-there j after a))

pub map-append : (g : ℕ → List ℕ) (l m : List ℕ) → map g (l ++ m) ≡ map g l ++ map g m
map-append g [] m = refl
map-append g (x ∷ l) m = ap (λ r. g x ∷ r) (map-append g l m)

-- so it picks what the choice by worth takes
pub most-pick : (worth : List (List ℕ) → List ℕ → ℕ) (g : ℕ → List ℕ) (f : ℕ → ℕ) (b : ℕ) (JS : List ℕ) → ((j : ℕ) → f j ≡ worth (map g JS) (g j)) → 0 < length JS
    → Pick g (worth_most worth (map g JS)) JS (most_from f b 0 JS)
most-pick worth g f b JS e h = go e h (scans f b 0 JS)
  where
    go : {K : List ℕ} {r : ℕ} → ((j : ℕ) → f j ≡ worth (map g K) (g j)) → 0 < length K → Scanned f b 0 K r → Pick g (worth_most worth (map g K)) K r
    go v l (stay nil) = absurd (omega arith)
    go v l (stay (cons z zs)) = absurd (omega arith)
    go v l (got {before = A} {after = B} {j = j} k a c) =
        let m : FirstMost (worth (map g (A ++ (j ∷ B)))) (map g (A ++ (j ∷ B))) (g j) (map g (A ++ B)) = record {
          before = map g A;
          after = map g B;
          among = map-append g A (j ∷ B);
          others = map-append g A B;
          less = map-all g (all_map (λ i u. omega (arith, v i, v j)) a);
          no_more = map-all g (all_map (λ i u. omega (arith, v i, v j)) c);
        } in
        record {
          member = in-there j A B;
          passes = most-passes worth m;
          is-first = most-first worth m;
          is-rest = most-rest worth m ∙ ap (map g) (sym (less-there j B (all_map (λ i u. ne_eqb i j (λ q. let z = ap f q in omega arith)) a)));
        }

-- by the counts a check is worth what the rule says
pub twos-freed : (g : ℕ → List ℕ) {JS c x : List ℕ} → Tally g JS c x → (ps : List ℕ) → twos c ps ≡ freed (map g JS) ps
unfolding twos
twos-freed g s ps = ap (λ (f : ℕ → Bool). count f ps) (fun_ext (λ p. ap (λ (a : ℕ). eqb a 2) (s.counts p)))

-- ---- the picking
pub all-lives : {P : ℕ → Type 0} (live : List ℕ) (i c : ℕ) → ((j : ℕ) → i ≤ j → j < i + c → P j) → All P (lives live i c)
unfolding lives
all-lives live i zero h = nil
all-lives live i (suc c) h = by_bool (eqb (get_or live i 0) 1)
    (λ e. rw e (cons (h i (omega arith) (omega arith)) (all-lives live (suc i) c (λ j a b. h j (omega arith) (omega arith)))))
    (λ e. rw e (all-lives live (suc i) c (λ j a b. h j (omega arith) (omega arith))))

pub found_at : (o : Option ℕ) (p : ℕ) → found o ≡ Some p → o ≡ some p
unfolding found
found_at (some q) p e = ap some (one e) where
  one : Some q ≡ Some p → q ≡ p
  one z = cc
found_at none p e = no e where
  no : None ≡ Some p → none ≡ some p
  no z = let y : ◌≡◌ {A = ℕ} 0 1 = cc in absurd (omega arith)

pub found_none : (o : Option ℕ) → found o ≡ None → o ≡ none
unfolding found
found_none (some q) e = no e where
  no : Some q ≡ None → some q ≡ none
  no z = let y : ◌≡◌ {A = ℕ} 0 1 = cc in absurd (omega arith)
found_none none e = refl

pub picked-place : (g : ℕ → List ℕ) (n p : ℕ) {JS c x : List ℕ} → Tally g JS c x → highest n (λ q. eqb (get_or c q 0) 1) ≡ some p → Picked g JS n (Took p (get_or x p 0))
picked-place g n p {JS} {c} {x} s e =
    by_place (sym (single-is g JS c x n s) ∙ e) (tally-pick g p s (eqb-true (get_or c p 0) 1 (highest-is n (λ q. eqb (get_or c q 0) 1) p e)))

pub picked-choice : (t : List ℕ) (m n : ℕ) (live : List ℕ) {c x : List ℕ} → Tally (check t m) (lives live 0 m) c x → 0 < length (lives live 0 m)
    → highest n (λ q. eqb (get_or c q 0) 1) ≡ none → Picked (check t m) (lives live 0 m) n (Aside (most_from (λ j. twos c (check t m j)) m 0 (lives live 0 m)))
picked-choice t m n live {c} {x} s h e =
    by-choice (sym (single-is (check t m) (lives live 0 m) c x n s) ∙ e)
    (most-pick freed (check t m) (λ j. twos c (check t m j)) m (lives live 0 m) (λ j. twos-freed (check t m) s (check t m j)) h)

-- ---- the removal
pub in-out : (j : ℕ) {JS : List ℕ} → In j JS → Out j JS (less j JS)
unfolding less
in-out j here = rw (eqb-self j) ohere
in-out j (there {i = i} {JS = JS} h) = by_bool (eqb i j)
    (λ e. rw e (subst (λ (k : ℕ). Out j (k ∷ JS) JS) (sym (eqb-true i j e)) ohere))
    (λ e. rw e (othere (in-out j h)))

pub in-length : (j : ℕ) {JS : List ℕ} → In j JS → length JS ≡ suc (length (less j JS))
unfolding less
in-length j here = rw (eqb-self j)
in-length j (there {i = i} h) = by_bool (eqb i j) (λ e. rw e) (λ e. rw e (ap suc (in-length j h)))

pub in_all : {P : ℕ → Type 0} {j : ℕ} {JS : List ℕ} → In j JS → All P JS → P j
in_all here (cons p a) = p
in_all (there h) (cons p a) = in_all h a

all-flags : (live : List ℕ) (i c : ℕ) → All (λ j. get_or live j 0 ≡ 1) (lives live i c)
unfolding lives
all-flags live i zero = nil
all-flags live i (suc c) = by_bool (eqb (get_or live i 0) 1)
    (λ e. rw e (cons (eqb-true (get_or live i 0) 1 e) (all-flags live (suc i) c)))
    (λ e. rw e (all-flags live (suc i) c))

pub in-flag : (live : List ℕ) (m j : ℕ) → In j (lives live 0 m) → (j < m) × (get_or live j 0 ≡ 1)
in-flag live m j h = (in_all h (all-lives live 0 m (λ i a b. b' i b)), in_all h (all-flags live 0 m)) where
  b' : (i : ℕ) → i < 0 + m → i < m
  b' i b = omega arith

lives-same : (live e : List ℕ) (i c : ℕ) → ((j : ℕ) → i ≤ j → get_or e j 0 ≡ get_or live j 0) → lives e i c ≡ lives live i c
unfolding lives
lives-same live e i zero h = refl
lives-same live e i (suc c) h = rw (h i (omega arith), lives-same live e (suc i) c (λ j a. h j (omega arith)))

lives-less : (live : List ℕ) (j i c : ℕ) → j < length live → get_or live j 0 ≡ 1 → i ≤ j → j < i + c → lives (set live j 0) i c ≡ less j (lives live i c)
unfolding lives less
lives-less live j i zero l f a b = absurd (omega arith)
lives-less live j i (suc c) l f a b = by_bool (eqb i j)
    (λ e. let q : i ≡ j = eqb-true i j e in
    rw (q, get_or-set_same live j 0 0 l, eq-eqb (get_or live j 0) 1 f, eqb-self j) (lives-same live (set live j 0) (suc j) c (λ k z. get_or-set_other live j k 0 0 (λ (y : k ≡ j). omega arith))))
    (λ e. let n = eqb-false i j e in
    let ih = lives-less live j (suc i) c l f (omega arith) (omega arith) in
    rw (get_or-set_other live j i 0 0 n) (by_bool (eqb (get_or live i 0) 1) (λ k. rw (k, e) (ap (λ r. i ∷ r) ih)) (λ k. rw k ih)))

pub lives-set : (live : List ℕ) (m j : ℕ) → m ≤ length live → In j (lives live 0 m) → lives (set live j 0) 0 m ≡ less j (lives live 0 m)
lives-set live m j l h = let f = in-flag live m j h in let f0 = f.0 in lives-less live j 0 m (omega arith) f.1 (omega arith) (omega arith)

count-in : (g : ℕ → List ℕ) (p j : ℕ) {JS : List ℕ} → In j JS → has p (g j) ≡ true → 0 < count (has p) (map g JS)
count-in g p j here e = rw (e, count) (omega arith)
count-in g p j (there {i = i} h) e = by_bool (has p (g i)) (λ k. rw (k, count) (omega arith)) (λ k. rw (k, count) (count-in g p j h e))

pub counted : (g : ℕ → List ℕ) (j : ℕ) {JS c x : List ℕ} → Tally g JS c x → In j JS → All (λ p. 0 < get_or c p 0) (g j)
counted g j s h = all_map (λ p e. rw (s.counts p) (count-in g p j h e)) (all-self (g j))

pub removed : (t : List ℕ) (m j : ℕ) {n : ℕ} {live c x d y : List ℕ} → Ready t m n live c x → In j (lives live 0 m) → Forgot c x (check t m j) j d y
    → Removed t m n j live (set live j 0) d y
removed t m j {n} {live} {c} {x} {d} {y} r h u =
    let l = lives-set live m j r.flags h in
    let fl = r.flags in
    let cn = r.counts in
    let nm = r.named in
    let ul = u.counts.len in
    let un = u.names.len in
    record {
      ready = record {
        flags = simp length-set (omega arith);
        counts = omega arith;
        named = omega arith;
        tally = rw l (tally-less (check t m) j (in-out j h) r.tally u);
      };
      list = l;
    }
