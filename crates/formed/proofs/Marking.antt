-- The marking of information places, place by place.
use mathlib.Core.Path.{◌≡◌, refl, sym, ap, ◌∙◌}
use mathlib.Core.Bool.{Bool, true, false, cond, ◌||◌, or-false}
use mathlib.Core.List.{List, [], ◌∷◌, ◌++◌}
use Prim.Native.Nat.{ℕ, suc, ◌+◌, ◌<◌, ◌≤◌}
use native.Mathlib.Numerals.{add-one}
use native.Mathlib.Omega.{arith}
use borrow.Author.Tests.{eqb-true, eqb-false, le-leb, lt-leb, lt-ltb, le-ltb}
use lib.Dec.{eqb}
use lib.ListN.{length, get_or, set, take, drop, replicate, length-set}
use lib.Seq.{drop-cons, take-suc, get_or-set_same, get_or-set_other}
use Rattle.lists.specs.ListLaws.{get_d-zeros}
use Rattle.lists.specs.Lists.{has}
use Rattle.lists.specs.Tests.{by_bool}
use Rattle.table.specs.Table.{rising}
use Rattle.plan.specs.LookOver.{Marks}

-- ---- ascending
rising-below : (n b p : ℕ) (I : List ℕ) → p < b → rising n b (p ∷ I) ≡ false
rising-below n b p I h = rw (lt-leb b p h)

rising-above : (n b p : ℕ) (I : List ℕ) → b ≤ p → n ≤ p → rising n b (p ∷ I) ≡ false
rising-above n b p I h k = rw (le-leb b p h, le-ltb p n k)

rising-on : (n b p : ℕ) (I : List ℕ) → b ≤ p → p < n → rising n b (p ∷ I) ≡ rising n (suc p) I
rising-on n b p I h k = rw (le-leb b p h, lt-ltb p n k)

module _ (n b : ℕ) (I : List ℕ) (i : ℕ) (inside : i < length I) where
  pub place-below : get_or I i 0 < b → rising n b (drop i I) ≡ false
  place-below h = ap (rising n b) (drop-cons I i 0 inside) ∙ rising-below n b (get_or I i 0) (drop (suc i) I) h

  pub place-above : b ≤ get_or I i 0 → n ≤ get_or I i 0 → rising n b (drop i I) ≡ false
  place-above h k = ap (rising n b) (drop-cons I i 0 inside) ∙ rising-above n b (get_or I i 0) (drop (suc i) I) h k

  pub place-on : b ≤ get_or I i 0 → get_or I i 0 < n → rising n b (drop i I) ≡ rising n (get_or I i 0 + 1) (drop (i + 1) I)
  place-on h k = rw (add-one (get_or I i 0), add-one i) (ap (rising n b) (drop-cons I i 0 inside) ∙ rising-on n b (get_or I i 0) (drop (suc i) I) h k)

-- ---- marks
pub marks-none : (n : ℕ) → Marks [] (replicate n 0)
marks-none n = record { each = λ p h. get_d-zeros n p }

has-snoc : (p q : ℕ) (I : List ℕ) → has p (I ++ (q ∷ [])) ≡ (has p I || eqb p q)
has-snoc p q [] = or-false (eqb p q)
has-snoc p q (x ∷ I) = by_bool (eqb p x) (λ e. rw e) (λ e. rw e (has-snoc p q I))

mark-here : (p q : ℕ) (I m : List ℕ) → p < length m → Marks I m → get_or (set m q 1) p 0 ≡ cond (has p I || eqb p q) 1 0
mark-here p q I m h k = by_bool (eqb p q)
    (λ e. let s : p ≡ q = eqb-true p q e in rw e (ap (λ (j : ℕ). get_or (set m q 1) j 0) s ∙ get_or-set_same m q 1 0 (omega arith) ∙ sym (last (has p I))))
    (λ e. rw e (get_or-set_other m q p 1 0 (eqb-false p q e) ∙ k.each p h ∙ ap (λ b. cond b 1 0) (sym (or-false (has p I)))))
  where
    last : (b : Bool) → ◌≡◌ {A = ℕ} (cond (b || true) 1 0) 1
    last true = refl
    last false = refl

pub mark-more : (I m : List ℕ) (i : ℕ) → i < length I → Marks (take i I) m → Marks (take (i + 1) I) (set m (get_or I i 0) 1)
mark-more I m i h k = record {
  each = λ p l.
      let inside : p < length m = (let e = length-set m (get_or I i 0) 1 in omega arith) in
      mark-here p (get_or I i 0) (take i I) m inside k
      ∙ ap (λ (b : Bool). cond b 1 0) (sym (has-snoc p (get_or I i 0) (take i I)))
      ∙ ap (λ (l : List ℕ). cond (has p l) 1 0) (sym (take-suc I i 0 h) ∙ ap (λ (j : ℕ). take j I) (sym (add-one i)));
}
