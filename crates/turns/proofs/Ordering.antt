-- The lowest ready check, from counts and chains.
use mathlib.Core.Path.{◌≡◌, sym, ap, ◌∙◌, subst}
use mathlib.Core.Bool.{true, cond}
use mathlib.Core.List.{List, [], ◌∷◌}
use mathlib.Core.Logic.{⊎_elim}
use Prim.Native.Nat.{ℕ, zero, suc, ◌-◌, ◌<◌, ◌≤◌}
use native.Mathlib.Omega.{arith}
use borrow.Author.Tests.{ne_eqb, eq-eqb}
use lib.ListN.{length, get_or, set}
use Rattle.lists.specs.Lists.{Distinct, has}
use Rattle.lists.specs.ListLaws.{all_get_d}
use Rattle.lists.specs.Tests.{by_bool, side}
use Rattle.table.specs.Checks.{check}
use Rattle.table.specs.Table.{checks}
use Rattle.table.specs.TableLaws.{accepted}
use Rattle.chains.specs.Linked.{Chain, Linked, Counted, Walk, Walked, LowestOne, holders}
use Rattle.erasure.specs.Restoring.{lost_places, is_lost}
use Rattle.table.specs.Accepted.{Accepted, check-count}
use Rattle.chains.specs.LinkedLaws.{chain-unique, holders-has, holders-inside, holders-distinct}
use Rattle.erasure.specs.LostLaws.{lost-less}
use Rattle.turns.specs.TurnLaws.{at-check}
use Rattle.turns.proofs.Turning.{ready_number}

-- the counts of a map, and a bound below which no check has exactly one lost place
pub record Tracked (t : List ℕ) (m : ℕ) (l count : List ℕ) (low : ℕ) : Type 0 where
  pub counted : Counted t m l count
  pub low-in : low ≤ m
  pub none : (j : ℕ) → j < low → get_or count j 0 ≡ 1 → ⊥

pub tracked-start : (t : List ℕ) (m : ℕ) (l count : List ℕ) → Counted t m l count → Tracked t m l count 0
tracked-start t m l count c = record { counted = c; low-in = omega arith; none = λ j h. absurd (omega arith) }

-- the number of the lowest ready check by what it is
number_is : (lost : List ℕ) (cs : List (List ℕ)) (r : ℕ) → r ≤ length cs → ((j : ℕ) → j < r → length (lost_places lost (get_or cs j [])) ≡ 1 → ⊥)
    → (r < length cs → length (lost_places lost (get_or cs r [])) ≡ 1) → r ≡ ready_number lost cs
unfolding ready_number
number_is lost [] r a b c = omega arith
number_is lost (x ∷ cs) zero a b c = rw (eq-eqb _ _ (c (omega arith)), ready_number)
number_is lost (x ∷ cs) (suc r) a b c = rw (ne_eqb _ _ (b 0 (omega arith)), ready_number)
    (ap suc (number_is lost cs r (omega arith) (λ j h. b (suc j) (omega arith)) (λ h. c (omega arith))))

module _ (t : List ℕ) (m n s : ℕ) (k : Accepted t m n s) where
  pub distinct-check : (j : ℕ) → j < m → Distinct (check t m j)
  distinct-check j h = subst Distinct (at-check t m n s k j h) (all_get_d (accepted t k.accepted).distinct j (subst (λ x. j < x) (sym (check-count t m n s k)) h))

  module _ (l count : List ℕ) (low : ℕ) (tr : Tracked t m l count low) (r : ℕ) (found : LowestOne count low m r) where
    not-before : (j : ℕ) → j < r → get_or count j 0 ≡ 1 → ⊥
    not-before j h e = ⊎_elim (λ a. tr.none j a e) (λ a. found.passed j a h e) (side j low)

    pub lowest-ready : r ≡ ready_number l (checks t)
    lowest-ready =
        let w = found.within in
        number_is l (checks t) r (subst (λ x. r ≤ x) (sym (check-count t m n s k)) w)
        (λ j h e. not-before j h (tr.counted.each j (omega arith) ∙ ap (λ c. length (lost_places l c)) (sym (at-check t m n s k j (omega arith))) ∙ e))
        (λ h. let i : r < m = subst (λ x. r < x) (check-count t m n s k) h in
        ap (λ c. length (lost_places l c)) (at-check t m n s k r i) ∙ sym (tr.counted.each r i) ∙ found.found i)

    module _ (head next owner : List ℕ) (links : Linked t m n head next owner) (p : ℕ) (inside : p < n) (lost : is_lost l p ≡ true) where
      less : (j : ℕ) → j < m → length (lost_places l (check t m j)) ≡ cond (has p (check t m j)) (suc (length (lost_places (set l p 2) (check t m j)))) (length (lost_places (set l p 2) (check t m j)))
      less j h = lost-less l p lost (distinct-check j h)

      pub walk-ready : (i : ℕ) → i ≡ get_or head p 0 → Walk next owner count i
      walk-ready i e = rw e (record {
        checks = holders (check t m) p m;
        chain = links.each p inside;
        room = links.same;
        distinct = holders-distinct (check t m) p m;
        inside = λ j h. let q = holders-inside (check t m) p m j h in
            let a : j < m = q.0 in
            let b = tr.counted.room in
            let c = tr.counted.each j a in
            let d : length (lost_places l (check t m j)) ≡ suc (length (lost_places (set l p 2) (check t m j))) = less j a ∙ rw q.1 in
            (omega arith, omega arith);
      })

      pub tracked-turn : (i : ℕ) → i ≡ get_or head p 0 → (count' l' : List ℕ) (low' : ℕ) → Walked next owner i count count' r low' → l' ≡ set l p 2 → Tracked t m l' count' low'
      tracked-turn i e count' l' low' w el =
          let same : w.checks ≡ holders (check t m) p m = chain-unique w.chain (subst (λ x. Chain next owner (length next) x (holders (check t m) p m)) (sym e) (links.each p inside)) in
          let each : (j : ℕ) → j < m → get_or count' j 0 ≡ length (lost_places (set l p 2) (check t m j)) = λ j h.
          let a = w.each j in
          let b : has j w.checks ≡ has p (check t m j) = ap (has j) same ∙ holders-has (check t m) p m j h in
          let c = tr.counted.each j h in
          by_bool (has p (check t m j))
          (λ z. let x : get_or count' j 0 ≡ get_or count j 0 - 1 = a ∙ rw (b ∙ z) in
          let y : length (lost_places l (check t m j)) ≡ suc (length (lost_places (set l p 2) (check t m j))) = less j h ∙ rw z in
          omega arith)
          (λ z. let x : get_or count' j 0 ≡ get_or count j 0 = a ∙ rw (b ∙ z) in x ∙ c ∙ less j h ∙ rw z) in
          let down = w.lower in
          let top = found.within in
          record {
            counted = record { room = let a = w.len in let b = tr.counted.room in omega arith; each = rw el each };
            low-in = omega arith;
            none = λ j h o. by_bool (has j w.checks)
                (λ z. w.none_below j z h o)
                (λ z. not-before j (omega arith) (sym (w.each j ∙ rw z) ∙ o));
          }
