-- Solved checks in the order in which they were taken, and putting them in.
use Rattle.std.specs.Prelude.{◌≡◌, refl, true, false, List, [], ◌∷◌, ℕ, ◌^◌, ◌<◌}
use Rattle.std.proofs.Common.{sym, ap, ap₂, ◌∙◌, true≢false}
use Rattle.std.proofs.lemmas.Nat.{xor_lt}
use Rattle.gf2.specs.Gf2.{bit, Group2}
use Rattle.gf2.specs.Bit.{bit-adds}
use Rattle.lists.specs.Lists.{bxor, has, par, All, All.nil, All.cons}
use Rattle.lists.specs.ListLaws.{all_in, has-par}
use Rattle.gf2.specs.Places.{bit-row}
use Rattle.gf2.specs.RowValue.{val, val-lin, row_lt}
use Rattle.lists.specs.Tests.{by_bool}
use Rattle.rule.specs.Rule.{Solved, row, put_in, put_in_all}

-- each own place lies in its check, an odd number of times, and in no check that was taken later
pub data Tri : List Solved → Type 0 where
  done : Tri []
  also : {t : Solved} {ts : List Solved} → par t.own t.check ≡ true → All (λ u. has t.own u.check ≡ false) ts → Tri ts → Tri (t ∷ ts)

-- a place that is not in the check stays as it is
put_in-keeps : (p : ℕ) (t : Solved) (e : ℕ) → has p t.check ≡ false → bit p (put_in t e) ≡ bit p e
put_in-keeps p t e h = by_bool (bit t.own e)
    (λ k. rw k (bit-adds p (row t) e ∙ ap (λ b. bxor b (bit p e)) (bit-row p t.check ∙ has-par p t.check h)))
    (λ k. rw k)

-- the own place is cleared
put_in-clears : (t : Solved) (e : ℕ) → par t.own t.check ≡ true → bit t.own (put_in t e) ≡ false
put_in-clears t e h = by_bool (bit t.own e)
    (λ k. rw k (bit-adds t.own (row t) e ∙ ap₂ bxor (bit-row t.own t.check ∙ h) k))
    (λ k. rw k k)

put_in_all-keeps : (p : ℕ) {ts : List Solved} → All (λ u. has p u.check ≡ false) ts → (e : ℕ) → bit p (put_in_all ts e) ≡ bit p e
put_in_all-keeps p nil e = refl
put_in_all-keeps p (cons {x = t} h hs) e = put_in_all-keeps p hs (put_in t e) ∙ put_in-keeps p t e h

-- no own place is left
pub put_in_all-clears : {ts : List Solved} → Tri ts → (e : ℕ) → All (λ t. bit t.own (put_in_all ts e) ≡ false) ts
put_in_all-clears done e = nil
put_in_all-clears (also {t = t} h l r) e = cons (put_in_all-keeps t.own l (put_in t e) ∙ put_in-clears t e h) (put_in_all-clears r (put_in t e))

-- own places are below n where the checks' places are
pub tri-own : {ts : List Solved} {n : ℕ} → Tri ts → All (λ t. All (λ p. p < n) t.check) ts → All (λ t. (t.own < n) × All (λ p. p < n) t.check) ts
tri-own done nil = nil
tri-own {n = n} (also {t = t} p l r) (cons a b) = cons (
  by_bool (has t.own t.check)
      (λ h. all_in (λ q. q < n) t.own h a) (λ h. absurd (true≢false (sym p ∙ has-par t.own t.check h))),
  a,
) (tri-own r b)

-- ---- rows with the solved checks put in
-- are still below 2 ^ n
pub put_in_all-lt : (n : ℕ) {ts : List Solved} → All (λ t. All (λ p. p < n) t.check) ts → (e : ℕ) → e < 2 ^ n → put_in_all ts e < 2 ^ n
put_in_all-lt n nil e h = h
put_in_all-lt n (cons {x = t} a az) e h = put_in_all-lt n az (put_in t e) (by_bool (bit t.own e) (λ k. rw k (xor_lt n (row t) e (row_lt n a) h)) (λ k. rw k h))

-- and come to the same where the solved checks sum to zero
pub val-put_in : {A : Type 0} (G : Group2 A) (st : ℕ → A) (n : ℕ) {ts : List Solved} → All (λ t. val G st n (row t) ≡ G.o) ts → (e : ℕ) → val G st n (put_in_all ts e) ≡ val G st n e
val-put_in G st n nil e = refl
val-put_in G st n (cons {x = t} h hs) e = val-put_in G st n hs (put_in t e) ∙ by_bool (bit t.own e)
    (λ k. rw k ((val-lin G st n).adds (row t) e ∙ ap (λ x. G.◌⊕◌ x (val G st n e)) h ∙ G.zl _))
    (λ k. rw k)
