-- The test of a check's sum, both ways, and the sum as the code has it.
use Rattle.std.specs.Prelude.{◌≡◌, true, false, List, ℕ, length, take, drop, replicate}
use Rattle.std.proofs.Common.{sym, ap, ◌∙◌, subst}
use Rattle.lists.specs.ListLaws.{same_self, same-sound}
use Rattle.lists.specs.Lists.{same_list}
use Rattle.lists.specs.Tests.{by_bool}
use Rattle.table.specs.Checks.{CheckIn}
use Rattle.table.specs.Codewords.{zero_sum}
use Rattle.table.specs.Packets.{packets, packet_sum, lowest_nonzero}
use Rattle.table.specs.SumLaws.{sum-length, lowest-same, same-lowest}

-- the test, one way
pub zero-sound : (s : ℕ) (b : List (List ℕ)) (c : List ℕ) → zero_sum s b c ≡ true → packet_sum s b c ≡ replicate s 0
zero-sound s b c h = same-sound (packet_sum s b c) (replicate s 0) h

-- and the other
pub zero-complete : (s : ℕ) (b : List (List ℕ)) (c : List ℕ) → packet_sum s b c ≡ replicate s 0 → zero_sum s b c ≡ true
zero-complete s b c h = ap (λ v. same_list v (replicate s 0)) h ∙ same_self (replicate s 0)

module _ (t b : List ℕ) (n s a w : ℕ) (c : CheckIn t a w b n s) (x : List ℕ) (is : take w (drop a t) ≡ x) (r : ℕ)
    -- the sum as the code has it
    (sum : r ≡ lowest_nonzero (packet_sum s (packets s n b) (take w (drop a t)))) where
  long : length (packet_sum s (packets s n b) (take w (drop a t))) ≡ s
  long = sum-length t a w b n s c

  -- as a byte of the check
  pub sum-byte : r ≡ lowest_nonzero (packet_sum s (packets s n b) x)
  sum-byte = sum ∙ ap (λ y. lowest_nonzero (packet_sum s (packets s n b) y)) is

  pub sum-zero : r ≡ s → zero_sum s (packets s n b) x ≡ true
  sum-zero e = subst (λ y. zero_sum s (packets s n b) y ≡ true) is
      (subst (λ k. same_list (packet_sum s (packets s n b) (take w (drop a t))) (replicate k 0) ≡ true) long
      (lowest-same (packet_sum s (packets s n b) (take w (drop a t))) (sym sum ∙ e ∙ sym long)))

  pub sum-nonzero : (r ≡ s → ⊥) → zero_sum s (packets s n b) x ≡ false
  sum-nonzero e = by_bool (zero_sum s (packets s n b) x)
      (λ z. absurd (e (sum ∙ same-lowest (packet_sum s (packets s n b) (take w (drop a t)))
      (subst (λ k. same_list (packet_sum s (packets s n b) (take w (drop a t))) (replicate k 0) ≡ true) (sym long)
      (subst (λ y. zero_sum s (packets s n b) y ≡ true) (sym is) z)) ∙ long)))
      (λ z. z)
