-- Taking checks by a place that lies in one of them, and setting checks aside.
use Rattle.std.specs.Prelude.{◌≡◌, refl, Bool, true, false, List, [], ◌∷◌, ◌++◌, map, ℕ, zero, suc, eqb, length}
use Rattle.std.proofs.Common.{sym, ap, ap₂, ◌∙◌, subst, arith}
use Rattle.std.proofs.lemmas.Bool.{false≢true}
use Rattle.std.proofs.Math.Nat.{suc_inj}
use Rattle.std.specs.Int.Bits.{bit_xor}
use Rattle.lists.specs.Tests.{eqb-true, by_opt, by_bool}
use Rattle.gf2.specs.Gf2.{bit, Group2, xor_group, row_of}
use Rattle.lists.specs.Lists.{bxor, Distinct, Distinct.dnil, Distinct.dnew, highest, has, par, any_of, All, All.nil, All.cons, count}
use Rattle.gf2.specs.Group.{cancel, cancel-r, cancel-mid}
use Rattle.gf2.specs.Independent.{Indep, Indep.empty, Indep.free}
use Rattle.gf2.specs.IndependentOrder.{indep-swap, indep-head, indep-tail, within-insert, indep-push, span-after}
use Rattle.lists.specs.ListLaws.{highest-is, has-par}
use Rattle.gf2.specs.Span.{Span, span-zero, span-add, span_head, span_tail, span-within, Within, Within.none as wnil, Within.more, within-tail, within-self, within-trans}
use Rattle.rule.specs.Rule.{put_in_all, put_in, Solved, row, first, without, in_one_only, peel_by, solved_of, set_aside_of}
use Rattle.rule.specs.Choices.{Chooses}
use Rattle.rule.specs.Solved.{Tri, Tri.done, Tri.also}

-- ---- one member pulled out of a list
pub data Pulled (x : List ℕ) : List (List ℕ) → List (List ℕ) → Type 0 where
  here : {L : List (List ℕ)} → Pulled x (x ∷ L) L
  there : {y : List ℕ} {L L' : List (List ℕ)} → Pulled x L L' → Pulled x (y ∷ L) (y ∷ L')

pulled-all : {P : List ℕ → Type 0} {x : List ℕ} {L L' : List (List ℕ)} → Pulled x L L' → All P L → P x × All P L'
pulled-all here (cons p a) = (p, a)
pulled-all (there u) (cons p a) = let r = pulled-all u a in (r.0, cons p r.1)

pulled-back : {P : List ℕ → Type 0} {x : List ℕ} {L L' : List (List ℕ)} → Pulled x L L' → P x → All P L' → All P L
pulled-back here q a = cons q a
pulled-back (there u) q (cons p a) = cons p (pulled-back u q a)

pub pulled-length : {x : List ℕ} {L L' : List (List ℕ)} → Pulled x L L' → length L ≡ suc (length L')
pulled-length here = refl
pulled-length (there u) = ap suc (pulled-length u)

pull : (f : List ℕ → Bool) (L : List (List ℕ)) → any_of f L ≡ true → Pulled (first f L) L (without f L)
pull f [] h = absurd (false≢true h)
pull f (x ∷ L) h = by_bool (f x) (λ e. rw (e, first, without) here) (λ e. rw (e, first, without) (there (pull f L (rw e at h))))

first-is : (f : List ℕ → Bool) (L : List (List ℕ)) → any_of f L ≡ true → f (first f L) ≡ true
first-is f [] h = absurd (false≢true h)
first-is f (x ∷ L) h = by_bool (f x) (λ e. rw (e, first) e) (λ e. rw (e, first) (first-is f L (rw e at h)))

count_none : (f : List ℕ → Bool) (L : List (List ℕ)) → count f L ≡ 0 → All (λ c. f c ≡ false) L
count_none f [] h = nil
count_none f (x ∷ L) h = by_bool (f x) (λ e. absurd (omega (arith, rw (e, count) at h))) (λ e. cons e (count_none f L (rw (e, count) at h)))

count-any : (f : List ℕ → Bool) (L : List (List ℕ)) → count f L ≡ 1 → any_of f L ≡ true
count-any f [] h = absurd (omega arith)
count-any f (x ∷ L) h = by_bool (f x) (λ e. rw e) (λ e. rw e (count-any f L (rw (e, count) at h)))

count-rest : (f : List ℕ → Bool) (L : List (List ℕ)) → count f L ≡ 1 → All (λ c. f c ≡ false) (without f L)
count-rest f [] h = nil
count-rest f (x ∷ L) h = by_bool (f x)
    (λ e. rw (e, without) (count_none f L (suc_inj (rw (e, count) at h))))
    (λ e. rw (e, without) (cons e (count-rest f L (rw (e, count) at h))))

-- ---- what the peeling says, apart from how it chooses
pub data Peels : List (List ℕ) → List Solved → List (List ℕ) → Type 0 where
  stop : Peels [] [] []
  took' : {p : ℕ} {c : List ℕ} {L L' : List (List ℕ)} {ts : List Solved} {az : List (List ℕ)}
      → Pulled c L L' → has p c ≡ true → All (λ d. has p d ≡ false) L' → Peels L' ts az → Peels L (record { own = p; check = c } ∷ ts) az
  aside' : {c : List ℕ} {L L' : List (List ℕ)} {ts : List Solved} {az : List (List ℕ)}
      → Pulled c L L' → Peels L' ts az → Peels L ts (c ∷ az)

-- the only law that looks at the choice: some live check is chosen
pub peel-peels : (ch : Chooses) (k n : ℕ) (L : List (List ℕ)) → length L ≡ k → Peels L (solved_of (peel_by ch.choice k n L)) (set_aside_of (peel_by ch.choice k n L))
peel-peels ch zero n [] l = stop
peel-peels ch zero n (x ∷ L) l = absurd (omega arith)
peel-peels ch (suc k) n [] l = absurd (omega arith)
peel-peels ch (suc k) n (x ∷ L₀) l = by_opt (highest n (in_one_only (x ∷ L₀)))
    (λ p e. let L = x ∷ L₀ in
    let one : count (has p) L ≡ 1 = eqb-true (count (has p) L) 1 (highest-is n (in_one_only L) p e) in
    let u = pull (has p) L (count-any (has p) L one) in
    rw (e, peel_by) (took' u (first-is (has p) L (count-any (has p) L one)) (count-rest (has p) L one)
    (peel-peels ch k n (without (has p) L) (suc_inj (sym (pulled-length u) ∙ l)))))
    (λ e. let L = x ∷ L₀ in
    let u = pull (ch.choice L) L (ch.some-chosen x L₀) in
    rw (e, peel_by) (aside' u (peel-peels ch k n (without (ch.choice L) L) (suc_inj (sym (pulled-length u) ∙ l)))))

-- ---- consequences
pub peels_all : {P : List ℕ → Type 0} {L : List (List ℕ)} {ts : List Solved} {az : List (List ℕ)} → Peels L ts az → All P L → All (λ t. P t.check) ts × All P az
peels_all stop nil = (nil, nil)
peels_all (took' u h o r) a = let q = pulled-all u a in let w = peels_all r q.1 in (cons q.0 w.0, w.1)
peels_all (aside' u r) a = let q = pulled-all u a in let w = peels_all r q.1 in (w.0, cons q.0 w.1)

pub peels-back : {P : List ℕ → Type 0} {L : List (List ℕ)} {ts : List Solved} {az : List (List ℕ)} → Peels L ts az → All (λ t. P t.check) ts → All P az → All P L
peels-back stop a b = nil
peels-back (took' u h o r) (cons p a) b = pulled-back u p (peels-back r a b)
peels-back (aside' u r) a (cons p b) = pulled-back u p (peels-back r a b)

has-par-true : {c : List ℕ} → Distinct c → (p : ℕ) → has p c ≡ true → par p c ≡ true
has-par-true dnil p h = h
has-par-true (dnew {x = q} {l = c} k d) p h = by_bool (eqb p q)
    (λ e. ap₂ bxor e (has-par p c (ap (λ x. has x c) (eqb-true p q e) ∙ k)))
    (λ e. rw e (has-par-true d p (rw e at h)))

pub peels-tri : {L : List (List ℕ)} {ts : List Solved} {az : List (List ℕ)} → Peels L ts az → All Distinct L → Tri ts
peels-tri stop a = done
peels-tri (took' {p = p} u h o r) a = let q = pulled-all u a in also (has-par-true q.0 p h) (peels_all r o).0 (peels-tri r q.1)
peels-tri (aside' u r) a = peels-tri r (pulled-all u a).1

-- ---- the rows stay independent, whatever the order
module _ {A : Type 0} (G : Group2 A) where
  module _ (f : List ℕ → A) where
    pulled-in : {x : List ℕ} {L L' : List (List ℕ)} → Pulled x L L' → Within G (map f L) (f x ∷ map f L')
    pulled-in here = within-self G _
    pulled-in (there u) = go (pulled-in u)
      where
        go : {y a : A} {S R : List A} → Within G S (a ∷ R) → Within G (y ∷ S) (a ∷ y ∷ R)
        go (more p w) = more (span_tail G p) (more (span_head G) (within-tail G w))

    pulled-indep : {x : List ℕ} {L L' : List (List ℕ)} → Pulled x L L' → Indep G (map f L) → Indep G (f x ∷ map f L')
    pulled-indep here i = i
    pulled-indep (there u) i = indep-swap G (free (λ p. indep-head G i (span-within G (pulled-in u) p)) (pulled-indep u (indep-tail G i)))

    peels-in : {L : List (List ℕ)} {ts : List Solved} {az : List (List ℕ)} → Peels L ts az → Within G (map f L) (map f az ++ map (λ t. f t.check) ts)
    peels-in stop = wnil
    peels-in (took' {c = c} {ts = ts} {az = az} u h o r) = go (pulled-in u) (peels-in r)
      where
        go : {S R : List A} → Within G S (f c ∷ R) → Within G R (map f az ++ map (λ t. f t.check) ts) → Within G S (map f az ++ (f c ∷ map (λ t. f t.check) ts))
        go (more p w) v = within-insert G (map f az) _ (f c) (within-trans G w v) p
    peels-in (aside' {c = c} u r) = go (pulled-in u) (peels-in r)
      where
        go : {S R Q : List A} → Within G S (f c ∷ R) → Within G R Q → Within G S (f c ∷ Q)
        go (more p w) v = more p (within-trans G w v)

    pub peels-indep : {L : List (List ℕ)} {ts : List Solved} {az : List (List ℕ)} → Peels L ts az → Indep G (map f L) → Indep G (map f az ++ map (λ t. f t.check) ts)
    peels-indep stop i = empty
    peels-indep (took' {c = c} {ts = ts} {az = az} u h o r) i = let j = pulled-indep u i in
        indep-push G (map f az) (map (λ t. f t.check) ts) (f c) (free (λ p. indep-head G j (span-within G (peels-in r) p)) (peels-indep r (indep-tail G j)))
    peels-indep (aside' u r) i = let j = pulled-indep u i in
        free (λ p. indep-head G j (span-within G (peels-in r) p)) (peels-indep r (indep-tail G j))

-- ---- putting in the solved checks keeps the others independent
put_in-in : (t : Solved) (e : ℕ) {R : List ℕ} → Span xor_group (row t ∷ R) (bit_xor (put_in t e) e)
put_in-in t e {R} = by_bool (bit t.own e)
    (λ k. rw k (subst (Span xor_group (row t ∷ R)) (sym (cancel-r xor_group (row t) e)) (span_head xor_group)))
    (λ k. rw k (subst (Span xor_group (row t ∷ R)) (sym (xor_group.self e)) (span-zero xor_group)))

put_in_all-in : (ts : List Solved) (e : ℕ) → Span xor_group (map row ts) (bit_xor (put_in_all ts e) e)
put_in_all-in [] e = subst (Span xor_group []) (sym (xor_group.self e)) (span-zero xor_group)
put_in_all-in (t ∷ ts) e = subst (Span xor_group (map row (t ∷ ts))) (cancel-mid xor_group (put_in_all ts (put_in t e)) (put_in t e) e)
    (span-add xor_group (span_tail xor_group (put_in_all-in ts (put_in t e))) (put_in-in t e))

reduced-in : (ts : List Solved) (az : List (List ℕ)) → Within xor_group (map row_of az ++ map row ts) (map (λ c. put_in_all ts (row_of c)) az)
reduced-in ts [] = wnil
reduced-in ts (c ∷ az) = more
    (subst (Span xor_group (map row_of (c ∷ az) ++ map row ts)) (cancel-r xor_group (put_in_all ts (row_of c)) (row_of c))
    (span-add xor_group (span_tail xor_group (span-after (map row_of az) (put_in_all-in ts (row_of c)))) (span_head xor_group)))
    (within-tail xor_group (reduced-in ts az))

pub reduced-indep : (ts : List Solved) (az : List (List ℕ)) → Indep xor_group (map row_of az ++ map row ts) → Indep xor_group (map (λ c. put_in_all ts (row_of c)) az)
reduced-indep ts [] i = empty
reduced-indep ts (c ∷ az) (free n i) = free
    (λ p. n (subst (Span xor_group (map row_of az ++ map row ts)) (cancel xor_group (put_in_all ts (row_of c)) (row_of c))
    (span-add xor_group (span-within xor_group (reduced-in ts az) p) (span-after (map row_of az) (put_in_all-in ts (row_of c))))))
    (reduced-indep ts az i)
