-- The end is the same in every order of turns (document 02, C-23): the map and whether packets contradict, always; the block, where they
-- don't.
use Rattle.std.specs.Prelude.{◌≡◌, refl, true, List, [], ℕ, ◌<◌, length, get_or}
use Rattle.std.proofs.Common.{sym, ap, ◌∙◌, subst, ext_get_or}
use Rattle.erasure.specs.ContradictionLaws.{Zeros, sums-of, of-sums}
use Rattle.erasure.proofs.OrderLaws.{turns-length, turns-map, turns-sized, turns-within, turns_same, turns-kept, turns-left, turns-mark, turns-never}
use Rattle.erasure.specs.Orders.{Turns, Ended}
use Rattle.erasure.specs.Restoring.{State, is_lost, lost_places, consistent}
use Rattle.erasure.proofs.TurnValues.{Agrees, agrees-sums, turns-agrees}
use Rattle.lists.specs.ListLaws.{all_map}
use Rattle.lists.specs.Lists.{All}
use Rattle.lists.specs.Tests.{eqb-true, by_bool, both_ways}
use Rattle.table.specs.Packets.{Packets}

-- ---- the map: turns t from m to their end e, and turns u from h to f, with packets of any content and size
module _ {s r : ℕ} {cs : List (List ℕ)} {m e h f : State} (t : Turns s cs m e) (end : Ended cs e) (u : Turns r cs h f) where
  -- with fewer places lost no other place is lost in the end
  pub end-within : ((p : ℕ) → is_lost m.map p ≡ true → is_lost h.map p ≡ true) → (p : ℕ) → is_lost e.map p ≡ true → is_lost f.map p ≡ true
  end-within within = turns-never u (is_lost e.map) end (λ p z. within p (turns-within t p z))

-- from the same map both come to the same
module _ {s r : ℕ} {cs : List (List ℕ)} {m e h f : State} (t : Turns s cs m e) (end : Ended cs e) (u : Turns r cs h f) (stop : Ended cs f) (alike : m.map ≡ h.map) where
  lost-alike : (p : ℕ) → is_lost e.map p ≡ is_lost f.map p
  lost-alike p = both_ways (is_lost e.map p) (is_lost f.map p)
      (end-within t end u (λ q z. ap (λ l. is_lost l q) (sym alike) ∙ z) p)
      (end-within u stop t (λ q z. ap (λ l. is_lost l q) alike ∙ z) p)

  mark-alike : (p : ℕ) → get_or e.map p 0 ≡ get_or f.map p 0
  mark-alike p = by_bool (is_lost e.map p)
      (λ y. eqb-true _ 1 y ∙ sym (eqb-true _ 1 (sym (lost-alike p) ∙ y)))
      (λ y. by_bool (is_lost m.map p)
      (λ z. turns-mark t p z y ∙ sym (turns-mark u p (ap (λ l. is_lost l p) (sym alike) ∙ z) (sym (lost-alike p) ∙ y)))
      (λ z. turns_same t p z ∙ ap (λ l. get_or l p 0) alike ∙ sym (turns_same u p (ap (λ l. is_lost l p) (sym alike) ∙ z))))

  pub end-map : e.map ≡ f.map
  end-map = ext_get_or 0 e.map f.map (turns-map t ∙ ap length alike ∙ sym (turns-map u)) (λ p h. mark-alike p)

-- ---- the packets: two orders from one state to their ends e and f
module _ (n s : ℕ) (cs : List (List ℕ)) (low : All (λ c. All (λ p. p < n) c) cs) (m : State) (long : length m.block ≡ n) (sized : Packets s m.block) where
  module _ {e f : State} (t : Turns s cs m e) (end : Ended cs e) (u : Turns s cs m f) (stop : Ended cs f) (calm : consistent s cs e ≡ true) where
    same_map : e.map ≡ f.map
    same_map = end-map t end u stop refl

    -- what the one restored sums to zero over every check that the other took
    zeros : Zeros s e.block cs f
    zeros = all_map (λ c z none. z (ap (λ l. length (lost_places l c)) same_map ∙ none)) (sums-of s e cs calm)

    -- so the other restored the same
    agrees : Agrees n s e.block f
    agrees = turns-agrees n s e.block (turns-length t ∙ long) (turns-sized n low t long sized) low zeros u
        (record { size = long; same = λ p h known. sym (turns-kept t p known) })

    also-calm : consistent s cs f ≡ true
    also-calm = of-sums s f (agrees-sums n s e.block low f zeros agrees)

    same_at : (p : ℕ) → p < length e.block → get_or e.block p [] ≡ get_or f.block p []
    same_at p h = by_bool (is_lost f.map p)
        (λ z. turns-left t p (ap (λ l. is_lost l p) same_map ∙ z) ∙ sym (turns-left u p z))
        (λ z. sym (agrees.same p (subst (λ k. p < k) (turns-length t ∙ long) h) z))

    -- the same block, if the packets of one order don't contradict
    pub end-block : e.block ≡ f.block
    end-block = ext_get_or [] e.block f.block (turns-length t ∙ sym (turns-length u)) same_at

  -- and then those of no other do
  pub end-judged : {e f : State} → Turns s cs m e → Ended cs e → Turns s cs m f → Ended cs f → consistent s cs e ≡ consistent s cs f
  end-judged {e} {f} t end u stop = both_ways (consistent s cs e) (consistent s cs f) (also-calm t end u stop) (also-calm u stop t end)
