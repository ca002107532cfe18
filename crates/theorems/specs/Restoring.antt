-- Demand 2 on repair, as one statement: "From what arrives of such a block, repair restores every lost packet outside the largest
-- stopping set among the lost places, each as it was sent, and none inside it."
use Rattle.std.specs.Prelude.{◌≡◌, Bool, true, false, List, ℕ, ◌<◌, eqb, get_or}
use Rattle.std.proofs.Common.{sym, ap, ◌∙◌, true≢false, ⊎_elim}
use Rattle.lists.specs.Tests.{eqb-true}
use Rattle.table.specs.Codewords.{IsCodeword}
use Rattle.table.specs.PacketCall.{part_at}
use Rattle.table.specs.PacketLaws.{same-packets}
use Rattle.table.specs.Table.{places, size}
use Rattle.erasure.specs.Offered.{Fitting, Agree}
use Rattle.erasure.specs.Restoring.{Largest, is_lost}
use Rattle.erasure.proofs.Largest.{largest-only}
use Rattle.erasure.specs.LostLaws.{not-lost, is_lost_lem, no-lost}
use Rattle.erasure.proofs.OutcomeLaws.{tally-lost}
use Rattle.repair.specs.Repair.{repair_refusal, repair_answer, repair_block_after, repair_map_after}
use Rattle.repair.proofs.RepairTheorems.{AcceptedRepair, Repairing, accepted-plainly, repairing}

-- repair of what arrived of the block w, L being the largest stopping set among the lost places
pub record Restores (t b map w : List ℕ) (L : ℕ → Bool) : Type 0 where
  pub not-refused : repair_refusal t b map ≡ 0
  -- lost and not in L: restored, as it was sent
  pub outside : (p : ℕ) → p < places t → get_or map p 0 ≡ 1 → L p ≡ false
      → (get_or (repair_map_after t b map) p 0 ≡ 2) × (part_at (size t) p (repair_block_after t b map) ≡ part_at (size t) p w)
  -- in L: stays lost
  pub inside : (p : ℕ) → L p ≡ true → get_or (repair_map_after t b map) p 0 ≡ 1
  -- received: untouched
  pub received : (p : ℕ) → p < places t → get_or map p 0 ≡ 0
      → (get_or (repair_map_after t b map) p 0 ≡ 0) × (part_at (size t) p (repair_block_after t b map) ≡ part_at (size t) p b)
  -- nothing stays lost: the block that was sent
  pub whole : (repair_answer t b map).lost ≡ 0 → repair_block_after t b map ≡ w

module _ (t b map w : List ℕ) (fits : Fitting t b map) (word : IsCodeword t w) (agree : Agree t b map w) where
  r : Repairing t b map w
  r = repairing t b map w fits word agree

  a : AcceptedRepair t b map
  a = accepted-plainly t b map fits r.agrees

  -- a place that is not lost afterwards
  found : (p : ℕ) → is_lost (repair_map_after t b map) p ≡ false → get_or (repair_map_after t b map) p 0 ≡ 1 → ⊥
  found p z k = true≢false (sym (ap (λ x. eqb x 1) k) ∙ z)

  -- where nothing stays lost
  all_found : (repair_answer t b map).lost ≡ 0 → (p : ℕ) → is_lost (repair_map_after t b map) p ≡ false
  all_found h = no-lost (repair_map_after t b map) (sym (tally-lost (repair_map_after t b map)) ∙ sym a.lost ∙ h)

  stays : Largest t map (is_lost (repair_map_after t b map))
  stays = a.restored_by.stays

  pub restores : (L : ℕ → Bool) → Largest t map L → Restores t b map w L
  restores L l = record {
    not-refused = r.not-refused;
    outside = λ p k e out. let z : is_lost (repair_map_after t b map) p ≡ false = largest-only t map (is_lost (repair_map_after t b map)) L stays l p ∙ out in
        (⊎_elim (λ y. absurd (found p z y)) (λ y. y) (a.restored_by.lost p (is_lost_lem map p e)), r.values p k (found p z));
    inside = λ p e. eqb-true (get_or (repair_map_after t b map) p 0) 1 (largest-only t map (is_lost (repair_map_after t b map)) L stays l p ∙ e);
    received = λ p k e. let same = a.restored_by.known p k (not-lost map p e) in (same.1 ∙ e, same.0);
    whole = λ h. same-packets (size t) (places t) (repair_block_after t b map) w (a.whole h).size_fits word.size_fits (λ p k. r.values p k (found p (all_found h p)));
  }
