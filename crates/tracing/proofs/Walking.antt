-- One call of the walk, from that for the used checks before the last.
use mathlib.Core.Path.{◌≡◌, sym, ap, ◌∙◌}
use mathlib.Core.Bool.{true, false, cond}
use mathlib.Core.List.{List}
use Prim.Native.Nat.{ℕ, suc, ◌-◌, ◌<◌, ◌≤◌}
use native.Mathlib.Omega.{arith}
use lib.Bits.{bit_xor}
use Rattle.bits.specs.Row.{row, RowPut}
use Rattle.bits.specs.RowLaws.{put-put, put_is, put_self}
use Rattle.gf2.specs.Gf2.{bit}
use Rattle.reasons.specs.Trace.{trace}

-- the last one first
trace-last : (feed : ℕ → ℕ) (k x : ℕ) → 0 < k → trace feed k x ≡ trace feed (k - 1) (cond (bit (k - 1) x) (bit_xor (feed (k - 1)) x) x)
unfolding trace
trace-last feed k x h = let e : suc (k - 1) ≡ k = omega arith in sym (ap (λ j. trace feed j x) e)

module _ (need feed : List ℕ) (k : ℕ) where
  -- it is needed: its feeders are flipped
  pub walked-flip : {e f : List ℕ} → 0 < k → bit (k - 1) (row need 0) ≡ true → RowPut need 0 (bit_xor (row feed (k - 1)) (row need 0)) e → RowPut e 0 (trace (row feed) (k - 1) (row e 0)) f
      → RowPut need 0 (trace (row feed) k (row need 0)) f
  walked-flip h b p q = put_is (put-put p q) (ap (trace (row feed) (k - 1)) p.here ∙ sym (trace-last (row feed) k (row need 0) h
      ∙ ap (λ v. trace (row feed) (k - 1) (cond v (bit_xor (row feed (k - 1)) (row need 0)) (row need 0))) b))

  -- it isn't
  pub walked-pass : {f : List ℕ} → 0 < k → bit (k - 1) (row need 0) ≡ false → RowPut need 0 (trace (row feed) (k - 1) (row need 0)) f → RowPut need 0 (trace (row feed) k (row need 0)) f
  walked-pass h b q = put_is q (sym (trace-last (row feed) k (row need 0) h ∙ ap (λ v. trace (row feed) (k - 1) (cond v (bit_xor (row feed (k - 1)) (row need 0)) (row need 0))) b))

  -- there is none
  pub walked_none : k ≤ 0 → RowPut need 0 (trace (row feed) k (row need 0)) need
  unfolding trace
  walked_none h = let e : k ≡ 0 = omega arith in put_is (put_self need 0) (sym (ap (λ j. trace (row feed) j (row need 0)) e))
