-- The case of document 02, C-20: "20 copies of B taken, 21 refused, in place of 01's case of 32 and 33". Of k copies of B side by side every
-- check is kept and k are set aside, for every k that the limit on checks allows.
use Rattle.std.specs.Prelude.{◌≡◌, refl, true, cond, List, [], ◌∷◌, ℕ, zero, suc, ◌+◌, ◌*◌, ◌<◌, ◌≤◌, ltb}
use Rattle.std.proofs.Math.Path.{ap}
use Rattle.std.proofs.Common.{◌∙◌, arith}
use Rattle.std.proofs.Math.ListN.{length}
use Rattle.lists.specs.Lists.{All, All.nil, All.cons, Up.unone, Up.uthen}
use Rattle.table.specs.Table.{most_checks, checks, ones, refusal, rising}
use Rattle.making.specs.ReadBack.{checks-back}
use Rattle.making.specs.WrittenAccepted.{Fits, written-accepted}
use Rattle.plan.specs.Layout.{most_aside}
use Rattle.rule.specs.Rule.{kept, peel, set_aside_of}
use Rattle.planning.specs.Planning.{least_plan, work_words, plan_of, plan_of_by, refused_by, planning_refusal, planning_answer}
use Rattle.planning.specs.PlanningLaws.{gap-decides}
use Rattle.theorems.specs.CopiesKept.{one, two, three, all-kept}
use Rattle.theorems.specs.CopiesPeeled.{asides}
use Rattle.theorems.specs.OwnPlan.{up-rising}
use Rattle.theorems.specs.SideBySide.{shifted, copies_from, copies_of_b}

-- ---- the table is accepted
checks-number : (q k : ℕ) → length (copies_from q k) ≡ 3 * k
checks-number q zero = refl
checks-number q (suc k) = let r = checks-number (q + 4) k in omega arith

ones-number : (q k : ℕ) → ones (copies_from q k) ≡ 9 * k
ones-number q zero = refl
ones-number q (suc k) = let r = ones-number (q + 4) k in omega arith

light : (q k : ℕ) → All (λ c. length c ≤ 64) (copies_from q k)
light q zero = nil
light q (suc k) = cons {x = shifted q one} (omega arith) (cons {x = shifted q two} (omega arith) (cons {x = shifted q three} (omega arith) (light (q + 4) k)))

rises : (q k n : ℕ) → q + 4 * k ≤ n → All (λ c. rising n 0 c ≡ true) (copies_from q k)
rises q zero n h = nil
rises q (suc k) n h = cons (up 0 1 2 (omega arith) (omega arith) (omega arith)) (cons (up 0 1 3 (omega arith) (omega arith) (omega arith))
    (cons (up 0 2 3 (omega arith) (omega arith) (omega arith)) (rises (q + 4) k n (omega arith))))
  where
    up : (a b c : ℕ) → a < b → b < c → c < 4 → rising n 0 (shifted q (a ∷ b ∷ c ∷ [])) ≡ true
    up a b c x y z = up-rising n
        (uthen {b = 0} {x = q + a} (omega arith) (uthen {b = suc (q + a)} {x = q + b} (omega arith) (uthen {b = suc (q + b)} {x = q + c} (omega arith) unone)))
        (cons {x = q + a} (omega arith) (cons {x = q + b} (omega arith) (cons {x = q + c} (omega arith) nil)))

-- ---- the plan
-- what k copies come to
pub record CopiesPlanned (k : ℕ) : Type 0 where
  pub accepted : refusal (copies_of_b k) ≡ 0
  pub kept : (plan_of (copies_of_b k)).M ≡ 3 * k
  pub ones : (plan_of (copies_of_b k)).W ≡ 9 * k
  pub gap : (plan_of (copies_of_b k)).g ≡ k
  pub answered : (plan_buffer work : List ℕ) → least_plan ≤ length plan_buffer → length work ≡ work_words → planning_refusal (copies_of_b k) plan_buffer work ≡ cond (ltb most_aside k) 6 0

module _ (k : ℕ) (some : 1 ≤ k) (few : 3 * k ≤ most_checks) where
  abbrev cs : List (List ℕ)
  cs = copies_from 0 k

  fits : Fits (4 * k) 1 cs
  fits = let c = checks-number 0 k in let w = ones-number 0 k in record {
    some-places = omega arith;
    few-places = omega arith;
    some_bytes = omega arith;
    few_bytes = omega arith;
    few-checks = omega arith;
    few_ones = omega arith;
    light = light 0 k;
    rises = rises 0 k (4 * k) (omega arith);
  }

  -- its checks come back, and all of them are kept
  kept-are : kept (checks (copies_of_b k)) ≡ cs
  kept-are = ap kept (checks-back (4 * k) 1 cs) ∙ all-kept k

  gap_is : (plan_of (copies_of_b k)).g ≡ k
  unfolding plan_of_by
  gap_is = ap (λ K. length (set_aside_of (peel (length K) (4 * k) K))) kept-are ∙ asides 0 k (4 * k) (omega arith)

  kept-is : (plan_of (copies_of_b k)).M ≡ 3 * k
  unfolding plan_of_by
  kept-is = ap length kept-are ∙ checks-number 0 k

  ones_is : (plan_of (copies_of_b k)).W ≡ 9 * k
  unfolding plan_of_by
  ones_is = ap ones kept-are ∙ ones-number 0 k

  pub copies-planned : CopiesPlanned k
  copies-planned =
      let ok = written-accepted (4 * k) 1 cs fits in
      record {
        accepted = ok;
        kept = kept-is;
        ones = ones_is;
        gap = gap_is;
        answered = λ p w a b. gap-decides (copies_of_b k) (length p) (length w) (ltb most_aside k) ok a b (ap (ltb most_aside) gap_is);
      }

-- ---- the case
module _ (plan_buffer work : List ℕ) (long : least_plan ≤ length plan_buffer) (exact : length work ≡ work_words) where
  pub twenty-taken : (planning_refusal (copies_of_b 20) plan_buffer work ≡ 0) × ((planning_answer (copies_of_b 20) plan_buffer work).gap ≡ 20)
  twenty-taken =
      let c = copies-planned 20 (omega arith) (omega arith) in
      let e : planning_refusal (copies_of_b 20) plan_buffer work ≡ 0 = c.answered plan_buffer work long exact in
      (e, rw e c.gap)

  pub twenty-one-refused : planning_answer (copies_of_b 21) plan_buffer work ≡ refused_by 6
  twenty-one-refused =
      let e : planning_refusal (copies_of_b 21) plan_buffer work ≡ 6 = (copies-planned 21 (omega arith) (omega arith)).answered plan_buffer work long exact in
      rw e
