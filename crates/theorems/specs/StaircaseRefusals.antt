-- The refusals of the maker of staircase tables (document 02, C-11): "Order: 11 but for the draws, 2, 5, the draws, 3." 11 has two
-- causes, one before 2 and one behind 5, so that it is said by itself.
use Rattle.std.specs.Prelude.{◌≡◌, refl, Bool, true, false, List, [], ◌∷◌, ◌↔◌, ◌⊎◌, ℕ, ◌-◌, length}
use Rattle.std.proofs.Common.{sym, subst, true≢false, inl, inr, ⊎_elim, arith}
use Rattle.std.proofs.lemmas.Bool.{false≢true}
use Rattle.lists.specs.Lists.{has, All.nil, All.cons}
use Rattle.table.specs.FirstCause.{first_cause, wrong_length, NoneHolds}
use Rattle.table.specs.Table.{beyond}
use Rattle.making.specs.Making.{table_words, too_heavy}
use Rattle.making.specs.MakingLaws.{make-told}
use Rattle.staircase.specs.Staircase.{left_side, staircase_checks, bad_parameters, draws_spent, staircase_refusal_at, staircase_refusal, staircase_table, staircase_answer}

-- r is the answer by five causes in their order: 0 exactly if none holds, each number exactly if a cause of it holds and none before
-- that, and no other
pub record StaircaseRefused (bad limits length draws heavy : Bool) (r : ℕ) : Type 0 where
  pub none : (r ≡ 0) ↔ NoneHolds ((bad, 11) ∷ (limits, 2) ∷ (length, 5) ∷ (draws, 11) ∷ (heavy, 3) ∷ [])
  pub eleven : (r ≡ 11) ↔ ((bad ≡ true) ⊎ (NoneHolds ((bad, 11) ∷ (limits, 2) ∷ (length, 5) ∷ []) × (draws ≡ true)))
  pub two : (r ≡ 2) ↔ (NoneHolds ((bad, 11) ∷ []) × (limits ≡ true))
  pub five : (r ≡ 5) ↔ (NoneHolds ((bad, 11) ∷ (limits, 2) ∷ []) × (length ≡ true))
  pub three : (r ≡ 3) ↔ (NoneHolds ((bad, 11) ∷ (limits, 2) ∷ (length, 5) ∷ (draws, 11) ∷ []) × (heavy ≡ true))
  pub only : has r (0 ∷ 11 ∷ 2 ∷ 5 ∷ 3 ∷ []) ≡ true

-- a cause that holds, at the first, second, third, fourth or fifth place
held-0 : {cs : List (Bool × ℕ)} {k : ℕ} → NoneHolds ((true, k) ∷ cs) → ⊥
held-0 (cons f n) = true≢false f

held-1 : {cs : List (Bool × ℕ)} {c : Bool × ℕ} {k : ℕ} → NoneHolds (c ∷ (true, k) ∷ cs) → ⊥
held-1 (cons f n) = held-0 n

held-2 : {cs : List (Bool × ℕ)} {b c : Bool × ℕ} {k : ℕ} → NoneHolds (b ∷ c ∷ (true, k) ∷ cs) → ⊥
held-2 (cons f n) = held-1 n

held-3 : {cs : List (Bool × ℕ)} {a b c : Bool × ℕ} {k : ℕ} → NoneHolds (a ∷ b ∷ c ∷ (true, k) ∷ cs) → ⊥
held-3 (cons f n) = held-2 n

held-4 : {cs : List (Bool × ℕ)} {a b c d : Bool × ℕ} {k : ℕ} → NoneHolds (a ∷ b ∷ c ∷ d ∷ (true, k) ∷ cs) → ⊥
held-4 (cons f n) = held-3 n

by_cases : (a b c d e : Bool) → StaircaseRefused a b c d e (first_cause ((a, 11) ∷ (b, 2) ∷ (c, 5) ∷ (d, 11) ∷ (e, 3) ∷ []))
by_cases true b c d e = record {
  none = ((λ h. absurd (omega arith)), (λ n. absurd (held-0 n)));
  eleven = ((λ h. inl refl), (λ n. refl));
  two = ((λ h. absurd (omega arith)), (λ n. absurd (held-0 n.0)));
  five = ((λ h. absurd (omega arith)), (λ n. absurd (held-0 n.0)));
  three = ((λ h. absurd (omega arith)), (λ n. absurd (held-0 n.0)));
  only = refl;
}
by_cases false true c d e = record {
  none = ((λ h. absurd (omega arith)), (λ n. absurd (held-1 n)));
  eleven = ((λ h. absurd (omega arith)), (λ n. ⊎_elim (λ z. absurd (false≢true z)) (λ z. absurd (held-1 z.0)) n));
  two = ((λ h. (cons refl nil, refl)), (λ n. refl));
  five = ((λ h. absurd (omega arith)), (λ n. absurd (held-1 n.0)));
  three = ((λ h. absurd (omega arith)), (λ n. absurd (held-1 n.0)));
  only = refl;
}
by_cases false false true d e = record {
  none = ((λ h. absurd (omega arith)), (λ n. absurd (held-2 n)));
  eleven = ((λ h. absurd (omega arith)), (λ n. ⊎_elim (λ z. absurd (false≢true z)) (λ z. absurd (held-2 z.0)) n));
  two = ((λ h. absurd (omega arith)), (λ n. absurd (false≢true n.1)));
  five = ((λ h. (cons refl (cons refl nil), refl)), (λ n. refl));
  three = ((λ h. absurd (omega arith)), (λ n. absurd (held-2 n.0)));
  only = refl;
}
by_cases false false false true e = record {
  none = ((λ h. absurd (omega arith)), (λ n. absurd (held-3 n)));
  eleven = ((λ h. inr (cons refl (cons refl (cons refl nil)), refl)), (λ n. refl));
  two = ((λ h. absurd (omega arith)), (λ n. absurd (false≢true n.1)));
  five = ((λ h. absurd (omega arith)), (λ n. absurd (false≢true n.1)));
  three = ((λ h. absurd (omega arith)), (λ n. absurd (held-3 n.0)));
  only = refl;
}
by_cases false false false false true = record {
  none = ((λ h. absurd (omega arith)), (λ n. absurd (held-4 n)));
  eleven = ((λ h. absurd (omega arith)), (λ n. ⊎_elim (λ z. absurd (false≢true z)) (λ z. absurd (false≢true z.1)) n));
  two = ((λ h. absurd (omega arith)), (λ n. absurd (false≢true n.1)));
  five = ((λ h. absurd (omega arith)), (λ n. absurd (false≢true n.1)));
  three = ((λ h. (cons refl (cons refl (cons refl (cons refl nil))), refl)), (λ n. refl));
  only = refl;
}
by_cases false false false false false = record {
  none = ((λ h. cons refl (cons refl (cons refl (cons refl (cons refl nil))))), (λ n. refl));
  eleven = ((λ h. absurd (omega arith)), (λ n. ⊎_elim (λ z. absurd (false≢true z)) (λ z. absurd (false≢true z.1)) n));
  two = ((λ h. absurd (omega arith)), (λ n. absurd (false≢true n.1)));
  five = ((λ h. absurd (omega arith)), (λ n. absurd (false≢true n.1)));
  three = ((λ h. absurd (omega arith)), (λ n. absurd (false≢true n.1)));
  only = refl;
}

pub staircase-refusals : (k n ones seed s : ℕ) (buffer : List ℕ)
    → StaircaseRefused (bad_parameters k n ones seed) (beyond n s (n - k)) (wrong_length (length buffer) table_words) (draws_spent (left_side k n ones seed))
    (too_heavy (staircase_checks k n ones seed)) (staircase_answer k n ones seed s buffer).refusal
unfolding staircase_refusal_at
staircase-refusals k n ones seed s buffer =
    subst
    (StaircaseRefused (bad_parameters k n ones seed) (beyond n s (n - k)) (wrong_length (length buffer) table_words) (draws_spent (left_side k n ones seed))
    (too_heavy (staircase_checks k n ones seed)))
    (sym (make-told (staircase_refusal k n ones seed s buffer) (staircase_table k n ones seed s)))
    (by_cases _ _ _ _ _)
