-- The rows that a mask names sum to the number that it is made for.
use Rattle.std.specs.Prelude.{◌≡◌, refl, true, List, [], ◌∷◌, ℕ, suc, length}
use Rattle.std.proofs.Common.{sym, ap, ◌∙◌}
use Rattle.std.specs.Int.Bits.{bit_xor}
use Rattle.gf2.specs.Columns.{is_zero-sound}
use Rattle.gf2.specs.Gf2.{is_zero, xor_group, comb, is_sum, mask_for}
use Rattle.gf2.specs.Group.{cancel}
use Rattle.lists.specs.Tests.{by_bool}

-- where x is a sum of some rows, the mask's rows sum to it
pub mask-sums : (R : List ℕ) (x : ℕ) → is_sum xor_group is_zero R x ≡ true → comb xor_group (mask_for R x) R ≡ x
mask-sums [] x h = sym (is_zero-sound x h)
mask-sums (r ∷ R) x h = by_bool (is_sum xor_group is_zero R x)
    (λ e. rw (e, mask_for) (mask-sums R x e))
    (λ e. rw (e, mask_for) (ap (bit_xor r) (mask-sums R (bit_xor r x) (rw e at h)) ∙ cancel xor_group r x))

-- a bit for each row
pub mask-length : (R : List ℕ) (x : ℕ) → length (mask_for R x) ≡ length R
mask-length [] x = refl
mask-length (r ∷ R) x = by_bool (is_sum xor_group is_zero R x)
    (λ e. rw (e, mask_for) (ap suc (mask-length R x)))
    (λ e. rw (e, mask_for) (ap suc (mask-length R (bit_xor r x))))
