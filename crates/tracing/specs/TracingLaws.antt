-- Rows by their numbers: those that an owner list names, and the places of a path.
use Rattle.std.specs.Prelude.{◌≡◌, false, List, ℕ, ◌≤◌, length, get_or}
use Rattle.std.proofs.Common.{sym, ap, ◌∙◌, true≢false, arith}
use Rattle.bits.specs.Row.{row}
use Rattle.gf2.specs.EchelonLaws.{path-leads, path-low}
use Rattle.gf2.specs.Gf2.{is_zero, path}
use Rattle.lists.specs.ListLaws.{all_map, all-zip}
use Rattle.reasons.specs.Noting.{Numbered}
use Rattle.rows.specs.Leads.{leads}
use Rattle.rows.specs.LeadsLaws.{leads-none, leads-at, named}
use Rattle.tracing.specs.Tracing.{number_in, Led}

module _ (w owner : List ℕ) {k : ℕ} (owned : (p : ℕ) → get_or owner p 0 ≤ k) where
  pub numbered : Numbered (leads w owner) (row w) (number_in owner) k
  numbered = record {
    is = λ q z. named (get_or owner q 0) (λ e. absurd (lead-none q e z)) (λ e. leads-at w owner q e);
    few = λ q z. named (get_or owner q 0) (λ e. absurd (lead-none q e z)) (λ e. let h = owned q in omega arith);
  }
    where
      lead-none : (q : ℕ) → get_or owner q 0 ≡ 0 → is_zero (leads w owner q) ≡ false → ⊥
      lead-none q e z = true≢false (sym (ap is_zero (leads-none w owner q e)) ∙ z)

  -- the places of a path lead rows
  pub path-led : (n x : ℕ) → n ≤ length owner → k ≤ 1024 → Led owner (path (leads w owner) n x)
  path-led n x long few = record {
    each = all_map (λ q h. let j = h.0 in let a = owned q in (
      omega arith,
      named (get_or owner q 0) (λ e. absurd (true≢false (sym (ap is_zero (leads-none w owner q e)) ∙ h.1))) (λ e. e),
      omega arith,
    )) (all-zip (path-low (leads w owner) n x) (path-leads (leads w owner) n x));
  }
