-- The information places: how many there are, and what they hold after encoding.
use Rattle.std.specs.Prelude.{◌≡◌, refl, true, false, not, List, [], ◌∷◌, ◌++◌, map, ℕ, suc, ◌+◌, ◌-◌, ◌<◌, ◌≤◌, eqb, length, get_or, replicate}
use Rattle.std.proofs.Common.{sym, ap, ◌∙◌, true≢false, arith, length-append}
use Rattle.std.proofs.lemmas.Bool.{false≢true}
use Rattle.std.proofs.lemmas.List.{length-replicate, length-map}
use Rattle.lists.specs.Tests.{eqb-true, eqb_comm, or-false-l, or-false-r, by_bool}
use Rattle.lists.specs.Lists.{below, Distinct, Distinct.dnil, Distinct.dnew, rev, has, filter, minus, All, All.nil, All.cons}
use Rattle.lists.specs.ListLaws.{length-below, distinct_filter, distinct-below, distinct-rev, length-rev, has_kept, low-has, get_d-has, par-has, all_map}
use Rattle.plan.specs.AtStart.{put-at, runs-keep}
use Rattle.rule.specs.Choices.{Chooses}
use Rattle.rule.proofs.AllChecksZero.{ts, az, F, tri, low_t, free-good, peels, same, d_f, free_f}
use Rattle.rule.specs.Encoded.{encode}
use Rattle.rule.specs.Peel.{Peels, Peels.stop, Peels.took', Peels.aside', pulled-length}
use Rattle.rule.specs.Rule.{Solved, owns, plan_by, Plan}
use Rattle.rule.specs.Solved.{tri-own, Tri, Tri.done, Tri.also}
use Rattle.rule.proofs.WellFormed.{well-formed, info-low}

-- ---- taking places out of a list without repeats
none_out : (x : ℕ) (c : List ℕ) → has x c ≡ false → filter (λ p. not (eqb p x)) c ≡ c
none_out x [] h = refl
none_out x (q ∷ c) h = let e : eqb q x ≡ false = eqb_comm q x ∙ or-false-l (eqb x q) (has x c) h in
    rw e (ap (λ r. q ∷ r) (none_out x c (or-false-r (eqb x q) (has x c) h)))

-- one place taken out
one_out : (x : ℕ) {c : List ℕ} → Distinct c → has x c ≡ true → suc (length (filter (λ p. not (eqb p x)) c)) ≡ length c
one_out x dnil h = absurd (false≢true h)
one_out x (dnew {x = q} {l = c} k d) h = by_bool (eqb x q)
    (λ e. rw (eqb_comm q x, e) (ap (λ r. suc (length r)) (none_out x c (ap (λ y. has y c) (eqb-true x q e) ∙ k))))
    (λ e. rw (eqb_comm q x, e) (ap suc (one_out x d (rw e at h))))

-- taking out a list is taking out its first and then the others
minus-cons : (x : ℕ) (X c : List ℕ) → minus c (x ∷ X) ≡ filter (λ p. not (eqb p x)) (minus c X)
minus-cons x X [] = refl
minus-cons x X (q ∷ c) = by_bool (has q X)
    (λ e. by_bool (eqb q x) (λ f. rw (e, f) (minus-cons x X c)) (λ f. rw (e, f) (minus-cons x X c)))
    (λ e. by_bool (eqb q x) (λ f. rw (e, f) (minus-cons x X c)) (λ f. rw (e, f) (ap (λ r. q ∷ r) (minus-cons x X c))))

-- as many are left as there were, less those taken out
minus-count : {X c : List ℕ} → Distinct X → Distinct c → All (λ x. has x c ≡ true) X → length (minus c X) + length X ≡ length c
minus-count {c = c} dnil d nil = let e = ap length (filter-all c) in omega arith
  where
    filter-all : (c : List ℕ) → filter (λ p. true) c ≡ c
    filter-all [] = refl
    filter-all (q ∷ c) = ap (λ r. q ∷ r) (filter-all c)
minus-count {c = c} (dnew {x = x} {l = X} k e) d (cons h hs) =
    let ih = minus-count e d hs in
    let w = one_out x (distinct_filter (λ p. not (has p X)) d) (has_kept (λ p. not (has p X)) x c (ap not k) h) in
    rw (minus-cons x X c) (omega arith)

-- ---- nobody owns a place twice, and no fitted place is owned

-- each own place lies in its check
pub tri-has : {ts : List Solved} → Tri ts → All (λ t. has t.own t.check ≡ true) ts
tri-has done = nil
tri-has (also {t = t} p l r) = cons (par-has t.own t.check p) (tri-has r)

-- owned and fitted places together, without repeats
owns-append : {ts : List Solved} {F : List ℕ} → Tri ts → All (λ t. has t.own F ≡ false) ts → Distinct F → Distinct (owns ts ++ F)
owns-append done nil d = d
owns-append {F = F} (also {t = t} {ts = ts} p l r) (cons h hs) d = dnew (go l (tri-has r)) (owns-append r hs d)
  where
    go : {us : List Solved} → All (λ u. has t.own u.check ≡ false) us → All (λ u. has u.own u.check ≡ true) us → has t.own (owns us ++ F) ≡ false
    go nil nil = h
    go (cons {x = u} a a2) (cons b b2) = by_bool (eqb t.own u.own)
        (λ e. absurd (true≢false (sym b ∙ ap (λ x. has x u.check) (sym (eqb-true t.own u.own e)) ∙ a)))
        (λ e. rw e (go a2 b2))

-- a property of both parts
all_after : {X : Type 0} {P : ℕ → Type 0} (f : X → ℕ) {l : List X} {m : List ℕ} → All (λ x. P (f x)) l → All P m → All P (map f l ++ m)
all_after f nil b = b
all_after f (cons p a) b = cons p (all_after f a b)

-- each kept check is taken or set aside
pub peels-count : {L : List (List ℕ)} {ts : List Solved} {az : List (List ℕ)} → Peels L ts az → length L ≡ length ts + length az
peels-count stop = refl
peels-count (took' u h o r) = let a = pulled-length u in let b = peels-count r in omega arith
peels-count (aside' u r) = let a = pulled-length u in let b = peels-count r in omega arith

module _ (ch : Chooses) (n : ℕ) (cs : List (List ℕ)) (d : All Distinct cs) (low : All (λ c. All (λ p. p < n) c) cs) where
  -- short names
  abbrev P : Plan
  P = plan_by ch.choice n cs

  abbrev T : List Solved
  T = ts ch n cs d low

  abbrev FF : List ℕ
  FF = F ch n cs d low

  -- the places that are owned or fitted
  abbrev pub used : List ℕ
  used = owns T ++ FF

  -- owned and fitted places are below n
  used_low : All (λ p. p < n) used
  used_low = all_after (λ t. t.own) (all_map (λ t r. r.0) (tri-own (tri ch n cs d low) (low_t ch n cs d low))) (all_map (λ f r. r.0) (free-good ch n cs d low))

  used-distinct : Distinct used
  used-distinct = owns-append (tri ch n cs d low) (free_f ch n cs d low) (d_f ch n cs d low)

  -- information places are all different
  pub info-distinct : Distinct P.info
  info-distinct = distinct_filter _ (distinct-rev (distinct-below n))

  -- the information places and the kept checks together number n
  pub info-count : length P.info + P.M ≡ n
  info-count =
      let a = minus-count used-distinct (distinct-rev (distinct-below n)) (all_map (λ p l. low-has n p l) used_low) in
      let b : length used ≡ length T + length FF = length-append (owns T) FF ∙ ap (λ x. x + length FF) (length-map T (λ t. t.own)) in
      let c : length FF ≡ P.g = same ch n cs d low ∙ length-map (az ch n cs d low) _ in
      let e : P.M ≡ length T + P.g = peels-count (peels ch n cs d low) in
      let f : length (rev (below n)) ≡ n = length-rev (below n) ∙ length-below n in
      omega arith

  -- there are n - M information places
  pub info-number : length P.info ≡ n - P.M
  info-number = let h = info-count in omega arith

  -- no more checks are kept than there are places
  pub kept-few : P.M ≤ n
  kept-few = let h = info-count in omega arith

  -- in the encoded block the k-th information place holds the k-th information packet
  pub info-holds : (s : ℕ) (ps : List (List ℕ)) → length ps ≡ n - P.M → (k : ℕ) → k < n - P.M
      → get_or (encode n s P ps) (get_or P.info k 0) [] ≡ get_or ps k []
  info-holds s ps l k h = let m = info-number in
      runs-keep s (n + P.g) (get_or P.info k 0) (get_d-has P.info k (omega arith)) (well-formed ch n cs d low) _
      ∙ put-at (replicate (n + P.g) (replicate s 0)) ps info-distinct
      (all_map {P = λ i. i < n} (λ i q. simp length-replicate (omega arith)) (info-low ch n cs d low)) (l ∙ sym m) k (omega arith)
