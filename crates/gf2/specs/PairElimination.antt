-- Elimination that carries sums: what one turn leaves has the same pairs as sums.
use Rattle.std.specs.Prelude.{◌≡◌, refl, true, false, cond, List, [], ◌∷◌, map, ℕ, zero, suc, ◌<◌, eqb}
use Rattle.std.proofs.Common.{sym, ap, ap₂, ◌∙◌, subst, arith}
use Rattle.gf2.specs.Columns.{is_zero-sound}
use Rattle.gf2.specs.EchelonLaws.{down-path, path-low}
use Rattle.gf2.specs.Gf2.{is_zero, Group2, xor_group, sum_over, down, path}
use Rattle.gf2.specs.Group.{cancel-r}
use Rattle.gf2.specs.OneRowMore.{Stopped, put_at, put_same, put_other}
use Rattle.gf2.specs.Pairs.{pair_group, pairs_of}
use Rattle.gf2.specs.Span.{Span, span-zero, span-add, span_head, span_tail, span-within, Within, Within.none as wnil, Within.more}
use Rattle.lists.specs.ListLaws.{all_map}
use Rattle.lists.specs.Lists.{below, All, All.nil, All.cons}
use Rattle.lists.specs.Tests.{eqb-true, eqb-false, eqb-self, by_bool}

-- ---- rows of any group by their places
module _ {A : Type 0} (G : Group2 A) where
  -- each is a sum of all
  pub place_in : (g : ℕ → A) (n q : ℕ) → q < n → Span G (map g (below n)) (g q)
  place_in g zero q h = absurd (omega arith)
  place_in g (suc n) q h = by_bool (eqb q n)
      (λ e. subst (λ x. Span G (map g (below (suc n))) (g x)) (sym (eqb-true q n e)) (span_head G))
      (λ e. let i = eqb-false q n e in span_tail G (place_in g n q (omega arith)))

  -- all are sums of S where each is
  pub places-within : (S : List A) (g : ℕ → A) (n : ℕ) → ((q : ℕ) → q < n → Span G S (g q)) → Within G S (map g (below n))
  places-within S g zero h = wnil
  places-within S g (suc n) h = more (h n (omega arith)) (places-within S g n (λ q l. h q (omega arith)))

  sum-in : {S : List A} (g : ℕ → A) {l : List ℕ} → All (λ q. Span G S (g q)) l → Span G S (sum_over G g l)
  sum-in g nil = span-zero G
  sum-in g (cons p a) = span-add G p (sum-in g a)

module _ {B : Type 0} (K : Group2 B) where
  sum-pair : (f : ℕ → ℕ) (v : ℕ → B) (l : List ℕ) → sum_over (pair_group xor_group K) (λ q. (f q, v q)) l ≡ (sum_over xor_group f l, sum_over K v l)
  sum-pair f v [] = refl
  sum-pair f v (q ∷ l) = ap ((pair_group xor_group K).◌⊕◌ (f q, v q)) (sum-pair f v l)

  module _ (f : ℕ → ℕ) (v : ℕ → B) (n x : ℕ) (acc : B) where
    -- x reduced, and its sum with those on the path
    abbrev pub reduced_pair : ℕ × B
    reduced_pair = (down f n x, K.◌⊕◌ acc (sum_over K v (path f n x)))

    -- what the path adds
    abbrev pub added : ℕ × B
    added = (sum_over xor_group f (path f n x), sum_over K v (path f n x))

    -- a sum of the pairs
    pub added-in : Span (pair_group xor_group K) (pairs_of K f v n) added
    added-in = subst (Span (pair_group xor_group K) (pairs_of K f v n)) (sum-pair f v (path f n x))
        (sum-in (pair_group xor_group K) (λ q. (f q, v q)) (all_map (λ q h. place_in (pair_group xor_group K) (λ q. (f q, v q)) n q h) (path-low f n x)))

    reduced-is : reduced_pair ≡ (pair_group xor_group K).◌⊕◌ (x, acc) added
    reduced-is = ap (λ y. (y, K.◌⊕◌ acc (sum_over K v (path f n x)))) (down-path f n x)

    -- the reduced pair from the pair ..
    pub reduced-in : {S : List (ℕ × B)} → Within (pair_group xor_group K) S (pairs_of K f v n) → Span (pair_group xor_group K) S (x, acc) → Span (pair_group xor_group K) S reduced_pair
    reduced-in {S} w p = subst (Span (pair_group xor_group K) S) (sym reduced-is) (span-add (pair_group xor_group K) p (span-within (pair_group xor_group K) w added-in))

    -- .. and back
    pub reduced-out : {S : List (ℕ × B)} → Within (pair_group xor_group K) S (pairs_of K f v n) → Span (pair_group xor_group K) S reduced_pair → Span (pair_group xor_group K) S (x, acc)
    reduced-out {S} w p = subst (Span (pair_group xor_group K) S) (ap (λ r. (pair_group xor_group K).◌⊕◌ r added) reduced-is ∙ cancel-r (pair_group xor_group K) (x, acc) added)
        (span-add (pair_group xor_group K) p (span-within (pair_group xor_group K) w added-in))

    -- a row that vanishes with its sum adds nothing
    pub vanished : is_zero (down f n x) ≡ true → K.◌⊕◌ acc (sum_over K v (path f n x)) ≡ K.o → {S : List (ℕ × B)} → Within (pair_group xor_group K) S (pairs_of K f v n) → Span (pair_group xor_group K) S (x, acc)
    vanished z e {S} w = reduced-out w (subst (Span (pair_group xor_group K) S) (sym (ap₂ (λ a b. (a, b)) (is_zero-sound (down f n x) z) e)) (span-zero (pair_group xor_group K)))

    -- ---- one row more, at its highest place
    module _ (none : (p : ℕ) → is_zero (f p) ≡ true → v p ≡ K.o) (s : Stopped f n (down f n x)) where
      -- the sums with the new one
      abbrev pub sums' : ℕ → B
      sums' q = cond (eqb q s.top) reduced_pair.1 (v q)

      -- the rows with the new one
      abbrev pub rows' : ℕ → ℕ
      rows' = put_at f s.top (down f n x)

      at_top : ◌≡◌ {A = ℕ × B} (rows' s.top, sums' s.top) reduced_pair
      at_top = ap₂ (λ a b. (a, b)) (put_same f s.top (down f n x)) (ap (λ b. cond b reduced_pair.1 (v s.top)) (eqb-self s.top))

      elsewhere : (q : ℕ) → eqb q s.top ≡ false → ◌≡◌ {A = ℕ × B} (rows' q, sums' q) (f q, v q)
      elsewhere q e = ap₂ (λ a b. (a, b)) (put_other f s.top (down f n x) q e) (ap (λ b. cond b reduced_pair.1 (v q)) e)

      old-in : (q : ℕ) → q < n → Span (pair_group xor_group K) (pairs_of K rows' sums' n) (f q, v q)
      old-in q h = by_bool (eqb q s.top)
          (λ e. let i = eqb-true q s.top e in subst (Span (pair_group xor_group K) (pairs_of K rows' sums' n))
          (sym (ap₂ (λ a b. (a, b)) (ap f i ∙ is_zero-sound (f s.top) s.free) (ap v i ∙ none s.top s.free))) (span-zero (pair_group xor_group K)))
          (λ e. subst (Span (pair_group xor_group K) (pairs_of K rows' sums' n)) (elsewhere q e) (place_in (pair_group xor_group K) (λ q. (rows' q, sums' q)) n q h))

      -- the old pairs and the new one are sums of what is there now ..
      pub turn-out : Within (pair_group xor_group K) (pairs_of K rows' sums' n) ((x, acc) ∷ pairs_of K f v n)
      turn-out = let w = places-within (pair_group xor_group K) (pairs_of K rows' sums' n) (λ q. (f q, v q)) n old-in in
          more (reduced-out w (subst (Span (pair_group xor_group K) (pairs_of K rows' sums' n)) at_top (place_in (pair_group xor_group K) (λ q. (rows' q, sums' q)) n s.top s.inside))) w

      -- .. and the other way
      pub turn_in : {S : List (ℕ × B)} → Within (pair_group xor_group K) S (pairs_of K f v n) → Span (pair_group xor_group K) S (x, acc) → Within (pair_group xor_group K) S (pairs_of K rows' sums' n)
      turn_in {S} w p = places-within (pair_group xor_group K) S (λ q. (rows' q, sums' q)) n (λ q h. by_bool (eqb q s.top)
          (λ e. subst (Span (pair_group xor_group K) S) (sym (ap (λ i. (rows' i, sums' i)) (eqb-true q s.top e) ∙ at_top)) (reduced-in w p))
          (λ e. subst (Span (pair_group xor_group K) S) (sym (elsewhere q e)) (span-within (pair_group xor_group K) w (place_in (pair_group xor_group K) (λ q. (f q, v q)) n q h))))
