-- The look at the checks: those that have restored a place, none at the start, needn't be summed.
use mathlib.Core.Path.{◌≡◌, sym, ap, ◌∙◌}
use mathlib.Core.Bool.{Bool, true, false}
use mathlib.Core.List.{List, []}
use Prim.Native.Nat.{ℕ, ◌<◌, ◌≤◌}
use native.Mathlib.Omega.{arith}
use lib.Dec.{eqb}
use lib.ListN.{get_or, replicate, length-replicate}
use Rattle.lists.specs.Tests.{eqb-true, by_bool}
use Rattle.lists.specs.ListLaws.{get_d-zeros}
use Rattle.table.specs.Accepted.{Accepted}
use Rattle.table.specs.Checks.{check}
use Rattle.table.specs.Codewords.{zero_sum}
use Rattle.table.specs.Packets.{packets}
use Rattle.table.specs.CodewordLaws.{zero-complete}
use Rattle.chains.specs.Linked.{Counted}
use Rattle.erasure.specs.Restoring.{none_lost}
use Rattle.std.proofs.Common.{inl, inr}
use Rattle.table.specs.Table.{checks}
use Rattle.turns.specs.Spent.{Spent}
use Rattle.turns.specs.TurnLaws.{at-check}
use Rattle.verify.specs.Verify.{Judges}

pub spent-start : (t : List ℕ) (m n s : ℕ) (b l : List ℕ) → m ≤ 512 → Spent t m n s b l (replicate 512 0)
spent-start t m n s b l few = record {
  room = omega (arith, length-replicate {A = ℕ} 512 0);
  each = λ j h e. let z = get_d-zeros 512 j in absurd (omega (arith, z, e));
}

-- ---- the look at the checks
-- what the counts and the marks of used checks say of check j
pub judges : (t : List ℕ) (m n s : ℕ) → Accepted t m n s → (b l count used : List ℕ) → Counted t m l count → Spent t m n s b l used → (j : ℕ) → j < m
    → (r : Bool) → (r ≡ true → get_or count j 0 ≡ 0) × (r ≡ false → get_or count j 0 ≡ 0 → get_or used j 0 ≡ 1) → Judges s (packets s n b) (none_lost l) (get_or (checks t) j []) r
judges t m n s k b l count used co sp j h r q =
    let is : get_or (checks t) j [] ≡ check t m j = at-check t m n s k j h in
    record {
      judged = λ e. ap (none_lost l) is ∙ ap (λ x. eqb x 0) (sym (co.each j h) ∙ q.0 e);
      spared = λ e. by_bool (eqb (get_or count j 0) 0)
          (λ z. inr (ap (zero_sum s (packets s n b)) is ∙ zero-complete s (packets s n b) (check t m j) (sp.each j h (q.1 e (eqb-true (get_or count j 0) 0 z))).1))
          (λ z. inl (ap (none_lost l) is ∙ ap (λ x. eqb x 0) (sym (co.each j h)) ∙ z));
    }
