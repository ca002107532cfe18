-- Planning and then encoding: byte j of every check's packets sums to zero.
use Rattle.std.specs.Prelude.{◌≡◌, refl, true, not, List, ◌++◌, ℕ, zero, suc, ◌+◌, ◌<◌, length, get_or, replicate}
use Rattle.std.proofs.Common.{sym, ap, ◌∙◌, subst}
use Rattle.std.proofs.lemmas.List.{length-replicate}
use Rattle.lists.specs.Lists.{below, Distinct, rev, has, All}
use Rattle.gf2.specs.Gf2.{xor_group, sum_over}
use Rattle.lists.specs.ListLaws.{has-append-r, all_replicate, get_d-zeros, has-filter, all_map}
use Rattle.table.specs.PacketLaws.{view}
use Rattle.table.specs.Packets.{Packets}
use Rattle.plan.specs.AtStart.{put_other, put-length, put-packets}
use Rattle.plan.specs.ByteByByte.{runs-view}
use Rattle.plan.specs.Steps.{with_packets}
use Rattle.rule.specs.Choices.{Chooses}
use Rattle.rule.proofs.AllChecksZero.{ts, az, F, codeword}
use Rattle.rule.specs.Encoded.{encode}
use Rattle.rule.specs.Rule.{Solved, owns, plan_steps, plan_by, Plan}
use Rattle.rule.proofs.WellFormed.{well-formed}

-- at the start every byte is zero ..
view-start : (k s j i : ℕ) → view (replicate k (replicate s 0)) j i ≡ 0
view-start zero s j i = refl
view-start (suc k) s j zero = get_d-zeros s j
view-start (suc k) s j (suc i) = view-start k s j i

module _ (ch : Chooses) (n s : ℕ) (cs : List (List ℕ)) (d : All Distinct cs) (low : All (λ c. All (λ p. p < n) c) cs) (ps : List (List ℕ)) (w : Packets s ps) where
  -- short names
  abbrev P : Plan
  P = plan_by ch.choice n cs

  abbrev T : List Solved
  T = ts ch n cs d low

  abbrev Z : List (List ℕ)
  Z = az ch n cs d low

  abbrev FF : List ℕ
  FF = F ch n cs d low

  abbrev k : ℕ
  k = n + length Z

  -- the slots at the start
  abbrev pub start : List (List ℕ)
  start = with_packets (replicate k (replicate s 0)) P.info ps

  -- .. but at the information places, so that the fitted places are zero
  fitted-zero : (j f : ℕ) → has f FF ≡ true → view start j f ≡ 0
  fitted-zero j f h = ap (λ p. get_or p j 0) (put_other (replicate k (replicate s 0)) P.info ps f
      (has-filter (λ p. not (has p (owns T ++ FF))) f (rev (below n)) (ap not (has-append-r f (owns T) FF h)))) ∙ view-start k s j f

  -- byte j of every check's packets sums to zero
  pub encoded : (j : ℕ) → All (λ c. sum_over xor_group (view (encode n s P ps) j) c ≡ 0) cs
  encoded j = subst (λ v. All (λ c. sum_over xor_group v c ≡ 0) cs)
      (sym (runs-view s k (plan_steps n T Z) start (put-length _ P.info ps ∙ length-replicate k (replicate s 0))
      (put-packets s P.info (all_replicate k (replicate s 0) (length-replicate s 0)) w) (all_map (λ x r. r.below) (well-formed ch n cs d low)) j))
      (codeword ch n cs d low xor_group (view start j) (fitted-zero j))
