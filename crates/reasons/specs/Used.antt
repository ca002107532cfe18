-- The used checks: their lost rows are independent, and every check's lost row is a sum of some.
use Rattle.std.specs.Prelude.{◌≡◌, refl, List, [], ◌∷◌, map, ℕ, zero, suc, ◌^◌, length, get_or}
use Rattle.std.proofs.Common.{sym, ap, ◌∙◌, subst, append-nil}
use Rattle.decided.specs.Decided.{lost_row, decided}
use Rattle.gf2.specs.Columns.{is_zero-sound}
use Rattle.gf2.specs.EchelonLaws.{sums-sound, sums-complete}
use Rattle.gf2.specs.Gf2.{xor_group, is_sum, is_zero, choose, onto, sums}
use Rattle.gf2.specs.GreedyLaws.{choose-indep, choose-spans, all-choose, onto-indep}
use Rattle.gf2.specs.Independent.{Indep, Indep.empty}
use Rattle.gf2.specs.Span.{Span, span_head, span_tail, span-within, Within, Within.none as wnil, Within.more}
use Rattle.lists.specs.ListLaws.{all_map}
use Rattle.lists.specs.Lists.{All, All.nil, All.cons, from}
use Rattle.lists.specs.Tests.{by_bool}
use Rattle.reasons.specs.Reasons.{row_at, used}

-- rows that are sums of each other have the same sums
sums_same : {R S : List ℕ} → Within xor_group R S → Within xor_group S R → (x : ℕ) → sums R x ≡ sums S x
sums_same {R} {S} rs sr x = by_bool (sums R x)
    (λ e. e ∙ sym (sums-complete S x (span-within xor_group sr (sums-sound R x e))))
    (λ e. by_bool (sums S x) (λ k. sums-complete R x (span-within xor_group rs (sums-sound S x k)) ∙ sym k) (λ k. e ∙ sym k))

-- what onto gathers is a sum of the rows
onto-within : {X : Type 0} (f : X → ℕ) (S R : List ℕ) (xs : List X) → Within xor_group S R → All (λ x. Span xor_group S (f x)) xs → Within xor_group S (onto xor_group is_zero f R xs)
onto-within f S R [] w a = w
onto-within f S R (x ∷ xs) w (cons p a) = onto-within f S (f x ∷ R) xs (more p w) a

rows-have : {X : Type 0} (f : X → ℕ) (xs : List X) → All (λ x. Span xor_group (map f xs) (f x)) xs
rows-have f [] = nil
rows-have f (x ∷ xs) = cons (span_head xor_group) (all_map (λ y p. span_tail xor_group p) (rows-have f xs))

pub within-of-all : {X : Type 0} (f : X → ℕ) {S : List ℕ} {xs : List X} → All (λ x. Span xor_group S (f x)) xs → Within xor_group S (map f xs)
within-of-all f nil = wnil
within-of-all f (cons p a) = more p (within-of-all f a)

-- what onto gathers from nothing, in its own order: the same sums
pub onto-in-order : {X : Type 0} (f : X → ℕ) (xs : List X) → Within xor_group (map f xs) (onto xor_group is_zero f [] xs)
onto-in-order f xs = onto-within f (map f xs) [] xs wnil (rows-have f xs)

-- ---- the checks by their numbers
pub from-map : {A : Type 0} (g : ℕ → A) (i c : ℕ) → map g (from (suc i) c) ≡ map (λ j. g (suc j)) (from i c)
unfolding from
from-map g i zero = refl
from-map g i (suc c) = ap (λ l. g (suc i) ∷ l) (from-map g (suc i) c)

pub rows-listed : (g : List ℕ → ℕ) (cs : List (List ℕ)) → map (λ j. g (get_or cs j [])) (from 0 (length cs)) ≡ map g cs
unfolding from
rows-listed g [] = refl
rows-listed g (c ∷ cs) = ap (λ l. g c ∷ l) (from-map (λ j. g (get_or (c ∷ cs) j [])) 0 (length cs) ∙ rows-listed g cs)

-- the checks chosen by rows g: every row is a sum of theirs, and theirs are rows
module _ (g : List ℕ → ℕ) (cs : List (List ℕ)) where
  abbrev pub at : ℕ → ℕ
  at j = g (get_or cs j [])

  abbrev pub chosen : List ℕ
  chosen = choose xor_group is_zero at [] (from 0 (length cs))

  chosen-out : Within xor_group (map at chosen) (map g cs)
  chosen-out = subst (Within xor_group (map at chosen)) (rows-listed g cs) (within-of-all at
      (all_map (λ j p. span-within xor_group (onto-in-order at chosen) p) (choose-spans xor_group is_zero at is_zero-sound refl [] (from 0 (length cs)))))

  pub chosen-in : Within xor_group (map g cs) (map at chosen)
  chosen-in = subst (λ R. Within xor_group R (map at chosen)) (rows-listed g cs) (within-of-all at (all-choose at [] (rows-have at (from 0 (length cs)))))

module _ (lost : List ℕ) (cs : List (List ℕ)) where
  -- the rows of the used checks
  abbrev pub used_rows : List ℕ
  used_rows = map (row_at lost cs) (used lost cs)

  pub used-indep : Indep xor_group used_rows
  used-indep = subst (Indep xor_group) (append-nil used_rows) (onto-indep (row_at lost cs) [] (used lost cs) (choose-indep xor_group is_zero (row_at lost cs) is_zero-sound refl [] (from 0 (length cs)) empty))

  -- so a place is decided by the used checks alone
  pub used-decided : (p : ℕ) → is_sum xor_group is_zero used_rows (2 ^ p) ≡ decided lost cs p
  used-decided p = sums_same (chosen-out (lost_row lost) cs) (chosen-in (lost_row lost) cs) (2 ^ p)
