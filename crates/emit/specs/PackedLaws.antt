-- Packed steps, written one list after the other.
use Rattle.std.specs.Prelude.{◌≡◌, refl, List, [], ◌∷◌, ◌++◌, map, ℕ, ◌+◌, ◌≤◌, length}
use Rattle.std.proofs.Common.{ap, arith, length-append}
use Rattle.std.proofs.lemmas.List.{length-map}
use Rattle.lists.specs.WroteLaws.{Left, left-room, left-length}
use Rattle.plan.specs.declared.Step.{Step}
use Rattle.plan.specs.Step.{pack}

pub packed-append : (a b : List Step) → map pack (a ++ b) ≡ map pack a ++ map pack b
packed-append [] b = refl
packed-append (x ∷ a) b = ap (λ r. pack x ∷ r) (packed-append a b)

pub packed-length : (a : List Step) → length (map pack a) ≡ length a
packed-length a = length-map a pack

-- the next steps have room
pub left-steps : {l : List ℕ} {at : ℕ} {ws e : List ℕ} {k : ℕ} (room : at + length ws ≤ length l) (a : List Step) (rest : List ℕ) → Left l at ws (map pack a ++ rest) e k → k + length a ≤ length e
left-steps room a rest w = let r = left-room room w in let n = left-length room w in let p = packed-length a in let s = length-append (map pack a) rest in omega arith
