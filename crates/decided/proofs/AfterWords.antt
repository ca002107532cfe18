-- Afterwards: packets of s bytes, the codeword's wherever no place is lost, and checks without a lost place sum to zero.
use Rattle.std.specs.Prelude.{◌≡◌, true, false, List, [], map, ℕ, ◌^◌, ◌<◌, eqb, length, get_or, replicate}
use Rattle.std.proofs.Common.{sym, ap, ◌∙◌, subst, true≢false, arith}
use Rattle.std.proofs.lemmas.List.{length-replicate}
use Rattle.decided.specs.AfterLaws.{after-decided, after-lost, after-received, mark-lost, solved-at, marks-at}
use Rattle.decided.specs.Decided.{lost_row, received_sum, decided, value, clashes, packet_after, solved_block, solved_map}
use Rattle.decided.proofs.DecidedLaws.{sums-sized, decided-value}
use Rattle.decided.specs.Packed.{some-view}
use Rattle.decided.proofs.PeelingFirst.{word-exists}
use Rattle.decided.specs.Words.{Word, Block}
use Rattle.erasure.specs.Restoring.{is_lost, lost_places}
use Rattle.erasure.specs.Passing.{none_passes}
use Rattle.erasure.proofs.TurnValues.{sum-agree}
use Rattle.gf2.specs.Gf2.{mask_for}
use Rattle.lists.specs.ListLaws.{all_map, all-zip, all_get_d, map-all}
use Rattle.lists.specs.Lists.{All}
use Rattle.lists.specs.Numbers.{from_all}
use Rattle.lists.specs.Tests.{by_bool}
use Rattle.table.specs.Packets.{Packets, packet_sum}

-- ---- which places are lost afterwards
module _ (n : ℕ) (cs : List (List ℕ)) (lost : List ℕ) (p : ℕ) (h : p < n) where
  pub undecided-lost : is_lost lost p ≡ true → decided lost cs p ≡ false → is_lost (solved_map n cs lost) p ≡ true
  undecided-lost e d = ap (λ v. eqb v 1) (marks-at n cs lost p h ∙ mark-lost cs lost p e d)

module _ (n s : ℕ) (cs b : List (List ℕ)) (ok : Block n s cs b) (lost : List ℕ) where
  -- ---- packets of s bytes
  pub value-length : (p : ℕ) → length (value s cs b lost p) ≡ s
  value-length p = (some-view s (received_sum s b lost) (sums-sized n s cs b ok lost) (mask_for (map (lost_row lost) cs) (2 ^ p))).0

  after-length : (p : ℕ) → p < n → length (packet_after s cs b lost p) ≡ s
  after-length p h = by_bool (is_lost lost p)
      (λ e. by_bool (decided lost cs p)
      (λ d. ap length (after-decided s cs b lost p e d) ∙ value-length p)
      (λ d. ap length (after-lost s cs b lost p e d) ∙ length-replicate s 0))
      (λ e. ap length (after-received s cs b lost p e) ∙ all_get_d ok.sized p (subst (λ k. p < k) (sym ok.long) h))

  pub solved-sized : Packets s (solved_block n s cs b lost)
  solved-sized = map-all (packet_after s cs b lost) (all_map (λ p k. after-length p (omega (arith, k.1))) (from_all 0 n))

  -- ---- every place that isn't lost afterwards has the packet of each codeword that agrees
  pub word_after : (w : List (List ℕ)) → Word n s cs b lost w → (p : ℕ) → p < n → is_lost (solved_map n cs lost) p ≡ false → get_or (solved_block n s cs b lost) p [] ≡ get_or w p []
  word_after w d p h k = solved-at n s cs b lost p h ∙ by_bool (is_lost lost p)
      (λ e. by_bool (decided lost cs p)
      (λ t. after-decided s cs b lost p e t ∙ sym (decided-value n s cs b ok lost p h t w d))
      (λ t. absurd (true≢false (sym (undecided-lost n cs lost p h e t) ∙ k))))
      (λ e. after-received s cs b lost p e ∙ sym (d.agree p h e))

  -- every check without a lost place afterwards sums to zero
  pub sums-after : clashes s cs b lost ≡ false → All (λ c. length (lost_places (solved_map n cs lost) c) ≡ 0 → packet_sum s (solved_block n s cs b lost) c ≡ replicate s 0) cs
  sums-after calm = let e = word-exists n s cs b ok lost calm in
      all_map (λ c r z. sum-agree s (solved_block n s cs b lost) e.0
      (all_map (λ p k. word_after e.0 e.1 p k.0 k.1) (all-zip r.0 (none_passes (is_lost (solved_map n cs lost)) c z))) ∙ r.1) (all-zip ok.low e.1.zeros)
