-- The least even set as an ascending list that computes: it is least, and the only list that is.
use Rattle.std.specs.Prelude.{◌≡◌, Bool, true, false, cond, List, map, ℕ, ◌^◌, ◌<◌, ltb}
use Rattle.std.proofs.Common.{sym, ◌∙◌, subst}
use Rattle.std.proofs.Math.Path.{fun_ext}
use Rattle.decided.specs.Decided.{decided}
use Rattle.erasure.specs.Restoring.{is_lost}
use Rattle.gf2.specs.Gf2.{is_zero, Short, down}
use Rattle.gf2.specs.OneRowMore.{Stopped, down-zero}
use Rattle.lists.specs.ListLaws.{all_map, map-all}
use Rattle.lists.specs.Lists.{has, All, Up}
use Rattle.reasons.specs.AscendingLaws.{up_run, up_same, has-run}
use Rattle.reasons.specs.Echelon.{down-stopped, top_of, top-is, leads_of, echelon, echelon-lead, echelon-in, echelon-out}
use Rattle.reasons.specs.Least.{least-one, found-least, unit-short}
use Rattle.reasons.specs.LeastBits.{even_bits}
use Rattle.reasons.specs.Mirror.{mirror, mirror_row, mirror-short, mirror-decided}
use Rattle.reasons.specs.Noting.{places_of}
use Rattle.reasons.specs.Reasons.{LeastEven}

-- a set found by solving, as a list
pub listed-least : (n : ℕ) (cs : List (List ℕ)) (lost : List ℕ) (p : ℕ) (d : ℕ → Bool) → LeastEven n cs lost p (λ q. cond (ltb q n) (d (mirror n q)) false) → LeastEven n cs lost p (λ q. has q (places_of n d))
listed-least n cs lost p d e = subst (LeastEven n cs lost p) (fun_ext (λ q. sym (has-run (λ r. d (mirror n r)) n q))) e

pub listed-up : (n : ℕ) (d : ℕ → Bool) → Up 0 (places_of n d)
listed-up n d = up_run (λ q. d (mirror n q)) n

-- ascending lists that are least are the same
pub least-only : (n : ℕ) (cs : List (List ℕ)) (lost : List ℕ) (p : ℕ) (L M : List ℕ) → Up 0 L → LeastEven n cs lost p (λ q. has q L) → Up 0 M → LeastEven n cs lost p (λ q. has q M) → L ≡ M
least-only n cs lost p L M u e v f = up_same u v (least-one n cs lost p (λ q. has q L) (λ q. has q M) e f)

-- ---- by elimination of all checks
-- with the highest bit that is left of the place at 1
abbrev pub least_list : ℕ → List (List ℕ) → List ℕ → ℕ → List ℕ
least_list n cs lost p = let f = leads_of n (λ q. 0) (map (mirror_row n lost) cs) in places_of n (even_bits n f (top_of n (down f n (2 ^ mirror n p))))

module _ (n : ℕ) (cs : List (List ℕ)) (low : All (λ c. All (λ p. p < n) c) cs) (lost : List ℕ) (p : ℕ) (h : p < n) (t : is_lost lost p ≡ true) (e : decided lost cs p ≡ false) where
  short : All (Short n) (map (mirror_row n lost) cs)
  short = map-all (mirror_row n lost) (all_map (λ c a. mirror-short n lost a) low)

  -- the leads
  abbrev f : ℕ → ℕ
  f = echelon n short

  -- a place that is not decided leaves something
  left_over : is_zero (down f n (2 ^ mirror n p)) ≡ false
  left_over = down-zero n (echelon-lead n short) (map (mirror_row n lost) cs) (echelon-in n short) (echelon-out n short) (2 ^ mirror n p) ∙ mirror-decided n low lost p h ∙ e

  stopped : Stopped f n (down f n (2 ^ mirror n p))
  stopped = down-stopped (echelon-lead n short) n (2 ^ mirror n p) (unit-short n cs low lost p h t) left_over

  pub list-least : LeastEven n cs lost p (λ q. has q (least_list n cs lost p))
  list-least = listed-least n cs lost p (even_bits n f (top_of n (down f n (2 ^ mirror n p))))
      (subst (λ k. LeastEven n cs lost p (λ q. cond (ltb q n) (even_bits n f k (mirror n q)) false)) (sym (top-is stopped))
      (found-least n cs low lost p h t (echelon-lead n short) (echelon-in n short) (echelon-out n short) stopped))

  pub list_up : Up 0 (least_list n cs lost p)
  list_up = listed-up n (even_bits n f (top_of n (down f n (2 ^ mirror n p))))
