-- The places that a check gives to a slot, one after the other.
use mathlib.Core.Path.{◌≡◌, sym, ap, ap₂, ◌∙◌}
use mathlib.Core.List.{List, ◌∷◌, map}
use Prim.Native.Nat.{ℕ, ◌+◌, ◌<◌}
use native.Mathlib.Numerals.{add-one}
use borrow.Author.Tests.{eq-eqb, ne_eqb}
use lib.ListN.{length, get_or, drop, length-map}
use lib.Seq.{drop-cons}
use Rattle.lists.specs.Lists.{minus}
use Rattle.plan.specs.declared.Step.TheVariants.{Add}
use Rattle.plan.specs.Step.{pack}
use Rattle.emit.specs.Emit.{marked}
use Rattle.emit.specs.MarkLaws.{has-marked, minus-in, minus-out}

-- the add steps of the places c
abbrev pub adds : ℕ → List ℕ → List ℕ → List ℕ
adds to skip c = map pack (map (Add to) (minus c (to ∷ marked skip)))

pub adds-length : (to : ℕ) (skip c : List ℕ) → length (adds to skip c) ≡ length (map (Add to) (minus c (to ∷ marked skip)))
adds-length to skip c = length-map (map (Add to) (minus c (to ∷ marked skip))) pack

module _ (to : ℕ) (skip c : List ℕ) (i p : ℕ) (h : i < length c) (q : p ≡ get_or c i 0) where
  next : drop i c ≡ p ∷ drop (i + 1) c
  next = drop-cons c i 0 h ∙ ap₂ (λ x k. x ∷ drop k c) (sym q) (sym (add-one i))

  -- the slot itself
  pub adds-own : p ≡ to → adds to skip (drop i c) ≡ adds to skip (drop (i + 1) c)
  adds-own e = ap (adds to skip) next ∙ ap (λ l. map pack (map (Add to) l)) (minus-out p (drop (i + 1) c) (to ∷ marked skip) (rw (eq-eqb p to e)))

  -- a marked place
  pub adds-marked : (p ≡ to → ⊥) → get_or skip p 0 ≡ 1 → adds to skip (drop i c) ≡ adds to skip (drop (i + 1) c)
  adds-marked n e = ap (adds to skip) next ∙ ap (λ l. map pack (map (Add to) l))
      (minus-out p (drop (i + 1) c) (to ∷ marked skip) (rw (ne_eqb p to n) (has-marked skip p ∙ eq-eqb (get_or skip p 0) 1 e)))

  -- any other
  pub adds-next : (p ≡ to → ⊥) → (get_or skip p 0 ≡ 1 → ⊥) → adds to skip (drop i c) ≡ pack (Add to p) ∷ adds to skip (drop (i + 1) c)
  adds-next n e = ap (adds to skip) next ∙ ap (λ l. map pack (map (Add to) l))
      (minus-in p (drop (i + 1) c) (to ∷ marked skip) (rw (ne_eqb p to n) (has-marked skip p ∙ ne_eqb (get_or skip p 0) 1 e)))
