-- `formed::good_steps` meets its contract: what is left of the numbers decides.
use Rattle.std.proofs.Common.{◌≡◌, drop}
use Rattle.lists.specs.Lists.{all_pass}
use Rattle.plan.specs.LookOver.{is_marked, good_step_by}
use Rattle.plan.specs.Step.{unpack}
use Rattle.formed.proofs.good_steps.Given as goal

abbrev pub invariant-loop-word : goal.invariant-loop-word
invariant-loop-word l =
    all_pass (λ x. good_step_by l.k (is_marked l.marks) (unpack x)) l.words ≡ all_pass (λ x. good_step_by l.k (is_marked l.marks) (unpack x)) (drop l.word-index l.words)
