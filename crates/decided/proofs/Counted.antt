-- "It reports restored and still lost": together they are the places that were lost.
use Rattle.std.specs.Prelude.{◌≡◌, refl, List, [], ◌∷◌, map, ℕ, ◌+◌, ◌≤◌, length, get_or}
use Rattle.std.proofs.Common.{sym, ap, ◌∙◌, subst, arith, ext_get_or}
use Rattle.std.proofs.lemmas.List.{length-map}
use Rattle.decided.specs.AfterLaws.{mark-decided, mark-lost, mark-received}
use Rattle.decided.specs.Decided.{decided, mark_after, solved_map}
use Rattle.erasure.specs.Restoring.{is_lost, tally}
use Rattle.lists.specs.Lists.{from}
use Rattle.lists.specs.Numbers.{from-length, map-from-at}
use Rattle.lists.specs.Tests.{by_bool, eqb-true, eqb-false}

-- a mark before and after
data Marked : ℕ → ℕ → Type 0 where
  known : Marked 0 0
  found : Marked 1 2
  missing : Marked 1 1

-- all of them
data Marks : List ℕ → List ℕ → Type 0 where
  none : Marks [] []
  more : {x y : ℕ} {l m : List ℕ} → Marked x y → Marks l m → Marks (x ∷ l) (y ∷ m)

counts : {l m : List ℕ} → Marks l m → tally 2 m + tally 1 m ≡ tally 1 l
counts none = refl
counts (more known r) = counts r
counts (more found r) = let e = counts r in omega arith
counts (more missing r) = let e = counts r in omega arith

module _ (n : ℕ) (cs : List (List ℕ)) (lost : List ℕ) (long : length lost ≡ n) (bytes : (p : ℕ) → get_or lost p 0 ≤ 1) where
  mark_of : (p : ℕ) → Marked (get_or lost p 0) (mark_after cs lost p)
  mark_of p = by_bool (is_lost lost p)
      (λ e. subst (λ x. Marked x (mark_after cs lost p)) (sym (eqb-true (get_or lost p 0) 1 e)) (by_bool (decided lost cs p)
      (λ d. subst (Marked 1) (sym (mark-decided cs lost p e d)) found)
      (λ d. subst (Marked 1) (sym (mark-lost cs lost p e d)) missing)))
      (λ e. let k = bytes p in let i = eqb-false (get_or lost p 0) 1 e in let z : get_or lost p 0 ≡ 0 = omega arith in
      subst (λ x. Marked x (mark_after cs lost p)) (sym z) (subst (Marked 0) (sym (mark-received cs lost p e ∙ z)) known))

  marks-of : (ps : List ℕ) → Marks (map (λ p. get_or lost p 0) ps) (map (mark_after cs lost) ps)
  marks-of [] = none
  marks-of (p ∷ ps) = more (mark_of p) (marks-of ps)

  in_order : map (λ p. get_or lost p 0) (from 0 n) ≡ lost
  in_order =
      let l : length (map (λ p. get_or lost p 0) (from 0 n)) ≡ n = length-map (from 0 n) (λ p. get_or lost p 0) ∙ from-length 0 n in
      ext_get_or 0 _ _ (l ∙ sym long) (λ p h. map-from-at (λ p. get_or lost p 0) 0 n p (omega arith))

  -- restored, marked 2, and still lost, marked 1
  pub counted : tally 2 (solved_map n cs lost) + tally 1 (solved_map n cs lost) ≡ tally 1 lost
  counted = counts (marks-of (from 0 n)) ∙ ap (tally 1) in_order
