-- Restoring leaves the codewords that agree as they were.
use Rattle.std.specs.Prelude.{◌≡◌, false, List, ℕ}
use Rattle.std.proofs.Common.{sym, ◌∙◌, true≢false}
use Rattle.decided.specs.Words.{Block, Same}
use Rattle.erasure.proofs.OutcomeLaws.{zero_lost-sized}
use Rattle.erasure.specs.Restoring.{is_lost, repaired}
use Rattle.erasure.proofs.RestoringLaws.{restoring-length, restoring-sized, restoring-within}
use Rattle.erasure.proofs.Values.{zero_lost-length, received-kept, restored}
use Rattle.lists.specs.Tests.{by_bool}

module _ (n s : ℕ) (cs b : List (List ℕ)) (lost : List ℕ) where
  -- a received place is received afterwards
  pub stays-received : (p : ℕ) → is_lost lost p ≡ false → is_lost (repaired n s cs b lost).map p ≡ false
  stays-received p e = by_bool (is_lost (repaired n s cs b lost).map p)
      (λ t. absurd (true≢false (sym (restoring-within n s cs _ p t) ∙ e)))
      (λ t. t)

  module _ (ok : Block n s cs b) where
    -- it leaves n packets of s bytes
    pub peeling-block : Block n s cs (repaired n s cs b lost).block
    peeling-block = record {
      low = ok.low;
      long = restoring-length n s cs _ ∙ zero_lost-length s lost b ∙ ok.long;
      sized = restoring-sized n n s cs ok.low _ (zero_lost-length s lost b ∙ ok.long) (zero_lost-sized s lost ok.sized);
    }

    -- a codeword that agrees before agrees after, and the other way
    pub peeling-same : Same n s cs b lost (repaired n s cs b lost).block (repaired n s cs b lost).map
    peeling-same = record {
      forth = λ w d. record {
        long = d.long;
        sized = d.sized;
        zeros = d.zeros;
        agree = λ p h e. sym (restored n s cs ok.low w d.long d.sized b lost ok.long (λ p h e. sym (d.agree p h e)) d.zeros p h e);
      };
      back = λ w d. record {
        long = d.long;
        sized = d.sized;
        zeros = d.zeros;
        agree = λ p h e. d.agree p h (stays-received p e) ∙ received-kept n s cs b lost p e;
      };
    }
