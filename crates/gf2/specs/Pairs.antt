-- Rows with their sums, added together: where the checks' pairs are sums of the leads' pairs, what solves the leads solves the checks.
use Rattle.std.specs.Prelude.{◌≡◌, refl, true, List, [], ◌∷◌, map, ℕ}
use Rattle.std.proofs.Common.{ap, ap₂, ◌∙◌}
use Rattle.gf2.specs.Columns.{is_zero-sound}
use Rattle.gf2.specs.Gf2.{is_zero, Group2, xor_group, Lead}
use Rattle.gf2.specs.Group.{swap4, eq-zero}
use Rattle.gf2.specs.Linear.{Lin, lin-o, lin-span, within-image}
use Rattle.gf2.specs.RowValue.{val, val-lin}
use Rattle.gf2.specs.Solving.{solve, solve-row}
use Rattle.gf2.specs.Span.{Span, Within, Within.more}
use Rattle.gf2.specs.Systems.{Meets}
use Rattle.lists.specs.ListLaws.{below_of, map-all}
use Rattle.lists.specs.Lists.{below, All, All.nil, All.cons}
use Rattle.lists.specs.Tests.{by_bool}

-- pairs, added part by part
abbrev pub pair_group : {A B : Type 0} → Group2 A → Group2 B → Group2 (A × B)
pair_group G K = record {
  ◌⊕◌ = λ x y. (G.◌⊕◌ x.0 y.0, K.◌⊕◌ x.1 y.1);
  o = (G.o, K.o);
  assoc = λ x y z. ap₂ (λ a b. (a, b)) (G.assoc x.0 y.0 z.0) (K.assoc x.1 y.1 z.1);
  comm = λ x y. ap₂ (λ a b. (a, b)) (G.comm x.0 y.0) (K.comm x.1 y.1);
  self = λ x. ap₂ (λ a b. (a, b)) (G.self x.0) (K.self x.1);
  zl = λ x. ap₂ (λ a b. (a, b)) (G.zl x.0) (K.zl x.1);
}

module _ {B : Type 0} (K : Group2 B) where
  -- the pairs of the leads below n: row and sum
  abbrev pub pairs_of : (ℕ → ℕ) → (ℕ → B) → ℕ → List (ℕ × B)
  pairs_of f v n = map (λ p. (f p, v p)) (below n)

  -- where pairs are sums of pairs, rows are sums of rows
  pub rows-within : {X Y : Type 0} (g : X → ℕ × B) (k : Y → ℕ × B) (l : List X) (r : List Y)
      → Within (pair_group xor_group K) (map g l) (map k r) → Within xor_group (map (λ x. (g x).0) l) (map (λ y. (k y).0) r)
  rows-within g k l r w = within-image (pair_group xor_group K) xor_group {f = λ x. x.0} (record { adds = λ a b. refl }) g k l r w

  -- a row's value in a state, and its sum: nothing if they are the same
  abbrev pub off : (ℕ → B) → ℕ → ℕ × B → B
  off st n x = K.◌⊕◌ (val K st n x.0) x.1

  -- linear in the pair
  pub off-lin : (st : ℕ → B) (n : ℕ) → Lin (pair_group xor_group K) K (off st n)
  off-lin st n = record { adds = λ x y. ap (λ v. K.◌⊕◌ v (K.◌⊕◌ x.1 y.1)) ((val-lin K st n).adds x.0 y.0) ∙ swap4 K (val K st n x.0) (val K st n y.0) x.1 y.1 }

  module _ {f : ℕ → ℕ} (l : Lead f) (v : ℕ → B) (none : (p : ℕ) → is_zero (f p) ≡ true → v p ≡ K.o) (n : ℕ) where
    -- the free places at nothing
    abbrev pub solved : ℕ → B
    solved = solve K f v (λ q. K.o) n

    leads-met : All (λ x. off solved n x ≡ K.o) (pairs_of f v n)
    leads-met = map-all (λ p. (f p, v p)) (below_of n (λ p h. by_bool (is_zero (f p))
        (λ z. ap₂ K.◌⊕◌ (ap (val K solved n) (is_zero-sound (f p) z) ∙ lin-o xor_group K (val-lin K solved n)) (none p z) ∙ K.zl K.o)
        (λ z. ap (λ x. K.◌⊕◌ x (v p)) (solve-row K f v (λ q. K.o) l n p h z) ∙ K.self (v p))))

    -- every pair that is a sum of theirs is met
    pub pair-met : (x : ℕ × B) → Span (pair_group xor_group K) (pairs_of f v n) x → val K solved n x.0 ≡ x.1
    pair-met x q = eq-zero K _ _ (lin-span (pair_group xor_group K) K (off-lin solved n) leads-met q)

    -- so all checks are
    pub pairs-met : {X : Type 0} (r : X → ℕ) (g : X → B) (cs : List X) → Within (pair_group xor_group K) (pairs_of f v n) (map (λ c. (r c, g c)) cs) → Meets K r g solved n cs
    pairs-met r g [] w = nil
    pairs-met r g (c ∷ cs) (more p w) = cons (pair-met (r c, g c) p) (pairs-met r g cs w)
