-- Peeling first or not gives the same: clashes, decided places and their packets are those of the codewords that agree.
use Rattle.std.specs.Prelude.{◌≡◌, true, false, List, [], ℕ, ◌<◌, ◌≤◌, get_or}
use Rattle.std.proofs.Common.{sym, ◌∙◌}
use Rattle.std.proofs.lemmas.Bool.{false≢true}
use Rattle.decided.specs.Decided.{decided, value, clashes}
use Rattle.decided.proofs.DecidedLaws.{clash-no-word, word-no-clash, decided-value, agreed_word, agreed-word, one-decided}
use Rattle.decided.specs.Words.{Word, Block, Same}
use Rattle.erasure.specs.Restoring.{is_lost}
use Rattle.lists.specs.Tests.{by_bool}

module _ (n s : ℕ) (cs b : List (List ℕ)) (ok : Block n s cs b) (lost : List ℕ) where
  -- nothing clashes: a codeword agrees
  pub word-exists : clashes s cs b lost ≡ false → (w : List (List ℕ)) × Word n s cs b lost w
  word-exists h = (agreed_word n s cs b ok lost (λ x. Unit {0}) tt (λ x y p q. tt) (λ p j. tt) h, agreed-word n s cs b ok lost (λ x. Unit {0}) tt (λ x y p q. tt) (λ p j. tt) h)

  -- a place is decided if all codewords that agree have one packet there
  pub exact : clashes s cs b lost ≡ false → 1 ≤ s → (p : ℕ) → p < n → is_lost lost p ≡ true
      → ((u w : List (List ℕ)) → Word n s cs b lost u → Word n s cs b lost w → get_or u p [] ≡ get_or w p []) → decided lost cs p ≡ true
  exact h l p k t one = one-decided n s cs b ok lost (λ x. Unit {0}) tt (λ x y p q. tt) (λ p j. tt) h tt l p k t (λ u w d i e j. one u w d e)

module _ (n s : ℕ) (cs b b' : List (List ℕ)) (lost lost' : List ℕ) (ok : Block n s cs b) (ok' : Block n s cs b') (same : Same n s cs b lost b' lost') where
  -- something clashes before just if after
  pub same-clashes : clashes s cs b lost ≡ clashes s cs b' lost'
  same-clashes = by_bool (clashes s cs b lost)
      (λ h. by_bool (clashes s cs b' lost') (λ k. h ∙ sym k) (λ k. let e = word-exists n s cs b' ok' lost' k in absurd (clash-no-word n s cs b ok lost h e.0 (same.back e.0 e.1))))
      (λ h. let e = word-exists n s cs b ok lost h in h ∙ sym (word-no-clash n s cs b' ok' lost' e.0 (same.forth e.0 e.1)))

  module _ (calm : clashes s cs b lost ≡ false) (some_bytes : 1 ≤ s) (p : ℕ) (h : p < n) where
    -- the place is still lost: decided before just if after ..
    decided-forth : is_lost lost' p ≡ true → decided lost cs p ≡ true → decided lost' cs p ≡ true
    decided-forth t d = exact n s cs b' ok' lost' (sym same-clashes ∙ calm) some_bytes p h t (λ u w x y.
        decided-value n s cs b ok lost p h d u (same.back u x) ∙ sym (decided-value n s cs b ok lost p h d w (same.back w y)))

    decided-back : is_lost lost p ≡ true → decided lost' cs p ≡ true → decided lost cs p ≡ true
    decided-back t d = exact n s cs b ok lost calm some_bytes p h t (λ u w x y.
        decided-value n s cs b' ok' lost' p h d u (same.forth u x) ∙ sym (decided-value n s cs b' ok' lost' p h d w (same.forth w y)))

    pub same-decided : is_lost lost p ≡ true → is_lost lost' p ≡ true → decided lost cs p ≡ decided lost' cs p
    same-decided t t' = by_bool (decided lost cs p) (λ d. d ∙ sym (decided-forth t' d))
        (λ d. by_bool (decided lost' cs p) (λ e. absurd (false≢true (sym d ∙ decided-back t e))) (λ e. d ∙ sym e))

    -- .. with the same packet
    pub same-value : is_lost lost' p ≡ true → decided lost cs p ≡ true → value s cs b lost p ≡ value s cs b' lost' p
    same-value t d = let e = word-exists n s cs b ok lost calm in
        sym (decided-value n s cs b ok lost p h d e.0 e.1) ∙ decided-value n s cs b' ok' lost' p h (decided-forth t d) e.0 (same.forth e.0 e.1)

    -- the place is restored: it was decided, with that packet
    pub restored-decided : is_lost lost p ≡ true → is_lost lost' p ≡ false → decided lost cs p ≡ true
    restored-decided t r = exact n s cs b ok lost calm some_bytes p h t (λ u w x y. (same.forth u x).agree p h r ∙ sym ((same.forth w y).agree p h r))

    pub restored-value : is_lost lost p ≡ true → is_lost lost' p ≡ false → value s cs b lost p ≡ get_or b' p []
    restored-value t r = let e = word-exists n s cs b ok lost calm in
        sym (decided-value n s cs b ok lost p h (restored-decided t r) e.0 e.1) ∙ (same.forth e.0 e.1).agree p h r
