-- Rows by their highest places, made by reducing one row after another: they have the same sums as the rows given.
use Rattle.std.specs.Prelude.{◌≡◌, Bool, true, false, cond, List, [], ◌∷◌, ℕ, zero, suc, ◌<◌, eqb}
use Rattle.std.proofs.Common.{sym, ap, ap₂, ◌∙◌, subst, true≢false, arith}
use Rattle.std.proofs.Math.Option.{some, none}
use Rattle.std.specs.Int.Bits.{bit_xor}
use Rattle.gf2.specs.Bit.{bit-adds, bit-zero}
use Rattle.gf2.specs.Columns.{is_zero-sound}
use Rattle.gf2.specs.EchelonLaws.{down-in}
use Rattle.gf2.specs.Gf2.{bit, xor_group, is_zero, Short, Lead, rows_of, down}
use Rattle.gf2.specs.Group.{cancel, cancel-r}
use Rattle.gf2.specs.OneRowMore.{Stopped, put_at, short-zero}
use Rattle.gf2.specs.PairElimination.{place_in, places-within}
use Rattle.gf2.specs.Span.{Span, span-zero, span-add, span-within, Within, Within.none as wnil, Within.more, within-trans, within-self}
use Rattle.lists.specs.Lists.{bxor, highest, All, All.nil, All.cons}
use Rattle.lists.specs.Tests.{by_bool, eqb-true, eqb-false, eqb-self}

short-pred : (p x : ℕ) → Short (suc p) x → bit p x ≡ false → Short p x
short-pred p x s e = record { above = λ q l. by_bool (eqb q p) (λ k. ap (λ i. bit i x) (eqb-true q p k) ∙ e) (λ k. let z = eqb-false q p k in s.above q (omega arith)) }

-- ---- where the reduction of a row stops
wider : {f : ℕ → ℕ} {n y : ℕ} → Stopped f n y → Stopped f (suc n) y
wider s = record { top = s.top; inside = let k = s.inside in omega arith; on = s.on; last = s.last; free = s.free }

pub down-stopped : {f : ℕ → ℕ} → Lead f → (n x : ℕ) → Short n x → is_zero (down f n x) ≡ false → Stopped f n (down f n x)
unfolding down
down-stopped l zero x s h = absurd (true≢false (ap is_zero (sym (short-zero x s)) ∙ h))
down-stopped {f} l (suc p) x s h = by_bool (bit p x)
    (λ b. by_bool (is_zero (f p))
    (λ z. rw (b, down, z) (record { top = p; inside = omega arith; on = b; last = s; free = z }))
    (λ z. rw (b, down, z) (wider (down-stopped l p (bit_xor (f p) x) (short-pred p (bit_xor (f p) x)
    (record { above = λ q k. bit-adds q (f p) x ∙ ap₂ bxor (l.low p q (omega arith)) (s.above q k) })
    (bit-adds p (f p) x ∙ ap₂ bxor (l.own p z) b)) (rw (b, down, z) at h)))))
    (λ b. rw (b, down) (wider (down-stopped l p x (short-pred p x s b) (rw (b, down) at h))))

-- ---- one row more
-- the highest place of y below n
abbrev pub top_of : ℕ → ℕ → ℕ
top_of n y = elim (highest n (λ p. bit p y)) [ some p ↦ p | none ↦ 0 ]

-- x is reduced, and if it isn't zero put where its highest place is
unfoldable pub insert : ℕ → (ℕ → ℕ) → ℕ → ℕ → ℕ
insert n f x = elim (is_zero (down f n x)) [ true ↦ f | false ↦ put_at f (top_of n (down f n x)) (down f n x) ]

-- all rows, the first one first
unfoldable pub leads_of : ℕ → (ℕ → ℕ) → List ℕ → ℕ → ℕ
leads_of n f [] = f
leads_of n f (r ∷ R) = leads_of n (insert n f r) R

-- ---- its laws
highest-top : (n : ℕ) (g : ℕ → Bool) (h : ℕ) → h < n → g h ≡ true → ((q : ℕ) → h < q → g q ≡ false) → highest n g ≡ some h
highest-top zero g h l e a = absurd (omega arith)
highest-top (suc n) g h l e a = by_bool (eqb h n)
    (λ k. let i = eqb-true h n k in let t : g n ≡ true = ap g (sym i) ∙ e in rw (t, highest) (ap some (sym i)))
    (λ k. let i = eqb-false h n k in rw (a n (omega arith), highest) (highest-top n g h (omega arith) e a))

pub top-is : {f : ℕ → ℕ} {n y : ℕ} (s : Stopped f n y) → top_of n y ≡ s.top
top-is {f} {n} {y} s = rw (highest-top n (λ p. bit p y) s.top s.inside s.on (λ q l. s.last.above q l), top_of)

module _ {f : ℕ → ℕ} (l : Lead f) (n x : ℕ) (sh : Short n x) where
  -- the new row
  abbrev red : ℕ
  red = down f n x

  -- the highest places stay apart
  put-lead : (s : Stopped f n red) → Lead (put_at f s.top red)
  put-lead s = record {
    low = λ p q k. by_bool (eqb p s.top) (λ e. let i = eqb-true p s.top e in rw e (s.last.above q (omega arith))) (λ e. rw e (l.low p q k));
    own = λ p z. by_bool (eqb p s.top) (λ e. rw e (ap (λ q. bit q red) (eqb-true p s.top e) ∙ s.on)) (λ e. rw e (l.own p (rw e at z)));
  }

  insert-lead : Lead (insert n f x)
  unfolding insert
  insert-lead = by_bool (is_zero red)
      (λ z. rw (z, insert) l)
      (λ z. let s = down-stopped l n x sh z in rw (z, insert, top-is s) (put-lead s))

  -- the old rows and x are sums of the new ones ..
  put-old : (s : Stopped f n red) (q : ℕ) → q < n → Span xor_group (rows_of (put_at f s.top red) n) (f q)
  put-old s q h = by_bool (eqb q s.top)
      (λ e. subst (Span xor_group (rows_of (put_at f s.top red) n)) (sym (ap f (eqb-true q s.top e) ∙ is_zero-sound (f s.top) s.free)) (span-zero xor_group))
      (λ e. subst (Span xor_group (rows_of (put_at f s.top red) n)) (ap (λ b. cond b red (f q)) e) (place_in xor_group (put_at f s.top red) n q h))

  put-new : (s : Stopped f n red) → Span xor_group (rows_of (put_at f s.top red) n) x
  put-new s = subst (Span xor_group (rows_of (put_at f s.top red) n)) (cancel xor_group red x) (span-add xor_group
      (subst (Span xor_group (rows_of (put_at f s.top red) n)) (ap (λ b. cond b red (f s.top)) (eqb-self s.top)) (place_in xor_group (put_at f s.top red) n s.top s.inside))
      (span-within xor_group (places-within xor_group _ f n (put-old s)) (down-in f n x)))

  insert-out : Within xor_group (rows_of (insert n f x) n) (x ∷ rows_of f n)
  unfolding insert
  insert-out = by_bool (is_zero red)
      (λ z. rw (z, insert) (more (subst (Span xor_group (rows_of f n)) (ap (λ y. bit_xor y x) (is_zero-sound red z) ∙ xor_group.zl x) (down-in f n x)) (within-self xor_group (rows_of f n))))
      (λ z. let s = down-stopped l n x sh z in rw (z, insert, top-is s) (more (put-new s) (places-within xor_group _ f n (put-old s))))

  -- .. and the other way
  insert-in : (S : List ℕ) → Span xor_group S x → Within xor_group S (rows_of f n) → Within xor_group S (rows_of (insert n f x) n)
  unfolding insert
  insert-in S p w = by_bool (is_zero red)
      (λ z. rw (z, insert) w)
      (λ z. let s = down-stopped l n x sh z in rw (z, insert, top-is s) (places-within xor_group S (put_at f s.top red) n (λ q h. by_bool (eqb q s.top)
      (λ e. rw e (subst (Span xor_group S) (cancel-r xor_group red x) (span-add xor_group (span-within xor_group w (down-in f n x)) p)))
      (λ e. rw e (span-within xor_group w (place_in xor_group f n q h))))))

-- all rows
leads-lead : (n : ℕ) {f : ℕ → ℕ} → Lead f → {R : List ℕ} → All (Short n) R → Lead (leads_of n f R)
unfolding leads_of
leads-lead n l nil = l
leads-lead n {f = f} l (cons {x = r} s a) = leads-lead n {f = insert n f r} (insert-lead l n r s) a

leads-out : (n : ℕ) {f : ℕ → ℕ} → Lead f → {R : List ℕ} → All (Short n) R → Within xor_group (rows_of (leads_of n f R) n) (rows_of f n) × Within xor_group (rows_of (leads_of n f R) n) R
unfolding leads_of
leads-out n {f} l nil = (within-self xor_group (rows_of f n), wnil)
leads-out n {f = f} l (cons {x = r} {l = R} s a) = let ih = leads-out n {f = insert n f r} (insert-lead l n r s) a in two (within-trans xor_group ih.0 (insert-out l n r s)) ih.1
  where
    two : {S : List ℕ} → Within xor_group S (r ∷ rows_of f n) → Within xor_group S R → Within xor_group S (rows_of f n) × Within xor_group S (r ∷ R)
    two (more p w) v = (w, more p v)

leads-in : (n : ℕ) {f : ℕ → ℕ} → Lead f → {R : List ℕ} → All (Short n) R → (S : List ℕ) → Within xor_group S (rows_of f n) → Within xor_group S R → Within xor_group S (rows_of (leads_of n f R) n)
unfolding leads_of
leads-in n l nil S w v = w
leads-in n {f = f} l (cons {x = r} s a) S w (more p v) = leads-in n {f = insert n f r} (insert-lead l n r s) a S (insert-in l n r s S p w) v

-- from no rows
none-lead : Lead (λ q. 0)
none-lead = record { low = λ p q h. bit-zero q; own = λ p z. absurd (true≢false z) }

module _ (n : ℕ) {R : List ℕ} (short : All (Short n) R) where
  abbrev pub echelon : ℕ → ℕ
  echelon = leads_of n (λ q. 0) R

  pub echelon-lead : Lead echelon
  echelon-lead = leads-lead n none-lead short

  pub echelon-out : Within xor_group (rows_of echelon n) R
  echelon-out = (leads-out n none-lead short).1

  pub echelon-in : Within xor_group R (rows_of echelon n)
  echelon-in = leads-in n none-lead short R (places-within xor_group R (λ q. 0) n (λ q h. span-zero xor_group)) (within-self xor_group R)
