-- Repair restores the packets of the codeword, and then nothing contradicts.
use Rattle.std.specs.Prelude.{◌≡◌, refl, Bool, true, false, cond, List, [], ◌∷◌, ℕ, zero, suc, ◌<◌, length, get_or, replicate}
use Rattle.std.proofs.Common.{ap, ◌∙◌, arith}
use Rattle.std.proofs.lemmas.Bool.{false≢true}
use Rattle.erasure.specs.ContradictionLaws.{Zeros, of-sums}
use Rattle.erasure.proofs.OrderLaws.{restoring-turns, turns-never}
use Rattle.erasure.specs.Passing.{filter-mono}
use Rattle.erasure.specs.Restoring.{is_lost, zero_lost, start, repaired, consistent, Stopping}
use Rattle.erasure.proofs.RestoringLaws.{restoring-within, restoring-kept, restoring-left}
use Rattle.erasure.proofs.TurnValues.{Agrees, agrees-sums, turns-agrees}
use Rattle.lists.specs.ListLaws.{all_map}
use Rattle.lists.specs.Lists.{filter, All}
use Rattle.table.specs.Packets.{packet_sum, Packets}

-- ---- the start
pub zero_lost-length : (s : ℕ) (lost : List ℕ) (b : List (List ℕ)) → length (zero_lost s lost b) ≡ length b
zero_lost-length s [] b = refl
zero_lost-length s (l ∷ ls) [] = refl
zero_lost-length s (l ∷ ls) (p ∷ b) = ap suc (zero_lost-length s ls b)

-- lost packets are zero
pub zero_lost-zero : (s : ℕ) (lost : List ℕ) (b : List (List ℕ)) (p : ℕ) → p < length b → is_lost lost p ≡ true → get_or (zero_lost s lost b) p [] ≡ replicate s 0
zero_lost-zero s [] b p l h = absurd (false≢true h)
zero_lost-zero s (l ∷ ls) [] p k h = absurd (omega arith)
zero_lost-zero s (l ∷ ls) (x ∷ b) zero k h = ap (λ v. cond v (replicate s 0) x) h
zero_lost-zero s (l ∷ ls) (x ∷ b) (suc p) k h = zero_lost-zero s ls b p (omega arith) h

-- received ones stand
pub zero_lost-kept : (s : ℕ) (lost : List ℕ) (b : List (List ℕ)) (p : ℕ) → is_lost lost p ≡ false → get_or (zero_lost s lost b) p [] ≡ get_or b p []
zero_lost-kept s [] b p h = refl
zero_lost-kept s (l ∷ ls) [] p h = refl
zero_lost-kept s (l ∷ ls) (x ∷ b) zero h = rw h
zero_lost-kept s (l ∷ ls) (x ∷ b) (suc p) h = zero_lost-kept s ls b p h

-- ---- what repair leaves alone: places that were received, and places that stay lost
module _ (n s : ℕ) (cs b : List (List ℕ)) (lost : List ℕ) where
  -- places that stay lost hold zero bytes
  pub left-zero : (p : ℕ) → p < length b → is_lost (repaired n s cs b lost).map p ≡ true → get_or (repaired n s cs b lost).block p [] ≡ replicate s 0
  left-zero p l h = restoring-left n s cs _ p h ∙ zero_lost-zero s lost b p l (restoring-within n s cs _ p h)

  -- received packets are untouched
  pub received-kept : (p : ℕ) → is_lost lost p ≡ false → get_or (repaired n s cs b lost).block p [] ≡ get_or b p []
  received-kept p h = restoring-kept n s cs _ p h ∙ zero_lost-kept s lost b p h

-- ---- with a word behind what was received
module _ (n s : ℕ) (cs : List (List ℕ)) (low : All (λ c. All (λ p. p < n) c) cs) (word : List (List ℕ)) (long : length word ≡ n) (sized : Packets s word)
    (b : List (List ℕ)) (lost : List ℕ) (size : length b ≡ n) (agree : (p : ℕ) → p < n → is_lost lost p ≡ false → get_or b p [] ≡ get_or word p []) where
  -- before the first turn
  pub start-agrees : Agrees n s word (start s b lost)
  start-agrees = record { size = zero_lost-length s lost b ∙ size; same = λ p l h. zero_lost-kept s lost b p h ∙ agree p l h }

  -- after the last, if the word sums to zero over the checks without a lost place
  module _ (zeros : Zeros s word cs (repaired n s cs b lost)) where
    end : Agrees n s word (repaired n s cs b lost)
    end = turns-agrees n s word long sized low zeros (restoring-turns n s cs (start s b lost)) start-agrees

    calm : consistent s cs (repaired n s cs b lost) ≡ true
    calm = of-sums s (repaired n s cs b lost) (agrees-sums n s word low (repaired n s cs b lost) zeros end)

  -- a codeword: over every check
  module _ (zeros : All (λ c. packet_sum s word c ≡ replicate s 0) cs) where
    -- every restored packet is the codeword's (and every received one)
    pub restored : (p : ℕ) → p < n → is_lost (repaired n s cs b lost).map p ≡ false → get_or (repaired n s cs b lost).block p [] ≡ get_or word p []
    restored = (end (all_map (λ c z e. z) zeros)).same

    -- nothing contradicts
    pub no-contradiction : consistent s cs (repaired n s cs b lost) ≡ true
    no-contradiction = calm (all_map (λ c z e. z) zeros)

  -- over every check without a place of S, a stopping set among the lost places: nothing contradicts either
  pub near-agrees : (S : ℕ → Bool) → Stopping cs S → ((p : ℕ) → S p ≡ true → is_lost lost p ≡ true)
      → All (λ c. length (filter S c) ≡ 0 → packet_sum s word c ≡ replicate s 0) cs → consistent s cs (repaired n s cs b lost) ≡ true
  near-agrees S stopping among zeros = calm (all_map (λ c z e. z (let k = filter-mono S (is_lost (repaired n s cs b lost).map) stays c in omega arith)) zeros)
    where
      stays : (p : ℕ) → S p ≡ true → is_lost (repaired n s cs b lost).map p ≡ true
      stays = turns-never (restoring-turns n s cs (start s b lost)) S stopping among
