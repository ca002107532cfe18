-- The list for a place: there is one, there is only one, and the kind agrees with full repair's map.
use Rattle.std.specs.Prelude.{◌≡◌, refl, true, false, List, [], ℕ, ◌<◌, eqb, get_or}
use Rattle.std.proofs.Common.{sym, ◌∙◌, true≢false}
use Rattle.decided.specs.Decided.{decided, mark_after}
use Rattle.erasure.specs.Restoring.{is_lost}
use Rattle.lists.specs.Lists.{All}
use Rattle.lists.specs.Tests.{by_bool}
use Rattle.reasons.proofs.LeastList.{least_list, list-least, list_up, least-only}
use Rattle.reasons.specs.Reasons.{restored_by, kind_of, Listed}

module _ (n : ℕ) (cs : List (List ℕ)) (lost : List ℕ) (p : ℕ) where
  -- at most one
  pub listed-one : (L M : List ℕ) → Listed n cs lost p L → Listed n cs lost p M → L ≡ M
  listed-one L M a b = by_bool (is_lost lost p)
      (λ t. by_bool (decided lost cs p)
      (λ d. a.restored t d ∙ sym (b.restored t d))
      (λ d. least-only n cs lost p L M (a.lost-up t d) (a.lost-least t d) (b.lost-up t d) (b.lost-least t d)))
      (λ t. a.received t ∙ sym (b.received t))

  -- by the kind
  pub listed-received : is_lost lost p ≡ false → Listed n cs lost p []
  listed-received t = record {
    received = λ e. refl;
    restored = λ e d. absurd (true≢false (sym e ∙ t));
    lost-up = λ e d. absurd (true≢false (sym e ∙ t));
    lost-least = λ e d. absurd (true≢false (sym e ∙ t));
  }

  pub listed-restored : is_lost lost p ≡ true → decided lost cs p ≡ true → (L : List ℕ) → L ≡ restored_by lost cs p → Listed n cs lost p L
  listed-restored t d L e = record {
    received = λ u. absurd (true≢false (sym t ∙ u));
    restored = λ u v. e;
    lost-up = λ u v. absurd (true≢false (sym d ∙ v));
    lost-least = λ u v. absurd (true≢false (sym d ∙ v));
  }

  -- one that computes
  abbrev pub list_for : List ℕ
  list_for =
      elim (is_lost lost p) [
        | true ↦
            elim (decided lost cs p) [ true ↦ restored_by lost cs p | false ↦ least_list n cs lost p ]
        | false ↦ []
      ]

  pub listed-some : All (λ c. All (λ q. q < n) c) cs → p < n → Listed n cs lost p list_for
  listed-some low h = record {
    received = λ t. rw (t, list_for);
    restored = λ t d. rw (t, list_for, d);
    lost-up = λ t d. rw (t, list_for, d) (list_up n cs low lost p h t d);
    lost-least = λ t d. rw (t, list_for, d) (list-least n cs low lost p h t d);
  }

-- the kind by full repair's mark: 0 received, 2 restored, 1 lost
abbrev pub kind_by : ℕ → ℕ
kind_by mark =
    elim (eqb mark 0) [
      | true ↦ 1
      | false ↦
          elim (eqb mark 2) [ true ↦ 2 | false ↦ 3 ]
    ]

pub kind-mark : (cs : List (List ℕ)) (lost : List ℕ) (p : ℕ) → (is_lost lost p ≡ false → get_or lost p 0 ≡ 0) → kind_of lost cs p ≡ kind_by (mark_after cs lost p)
kind-mark cs lost p zero = by_bool (is_lost lost p)
    (λ t. by_bool (decided lost cs p) (λ d. rw (t, mark_after, kind_of, d)) (λ d. rw (t, mark_after, kind_of, d)))
    (λ t. rw (t, mark_after, kind_of, zero t))
