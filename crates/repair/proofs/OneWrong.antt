-- One packet wrong and the others from one codeword: where the wrong one's place, marked lost too, is restored, nobody else is blamed, and
-- with the blame every packet that isn't still lost is as it was sent. Otherwise a right packet can be blamed.
use Rattle.std.specs.Prelude.{◌≡◌, false, List, ◌≢◌, ℕ, ◌<◌, eqb, get_or, set}
use Rattle.std.proofs.Common.{sym, ap, ◌∙◌, true≢false, get_or-set_same, get_or-set_other}
use Rattle.std.proofs.Math.Option.{some}
use Rattle.suspects.specs.Blame.{lost_too, blamed, Suspect}
use Rattle.suspects.proofs.BlameLaws.{mark-three, blamed-is}
use Rattle.erasure.proofs.OfferedLaws.{bytes-all, lost-byte}
use Rattle.erasure.specs.Offered.{Fitting}
use Rattle.erasure.proofs.OldRepair.{word-agrees, word-values}
use Rattle.erasure.specs.Restoring.{is_lost, outcome, AgreeThere}
use Rattle.lists.specs.Tests.{eqb-true, by_bool}
use Rattle.repair.specs.Repair.{repair_block_after, repair_map_after}
use Rattle.repair.proofs.RepairTheorems.{accepted-by-blame}
use Rattle.table.specs.Codewords.{IsCodeword}
use Rattle.table.specs.PacketCall.{part_at}
use Rattle.table.specs.Packets.{joined}
use Rattle.table.specs.Table.{places, size}

-- every received packet but that of place q is the codeword's, and the old repair restores q if it is marked lost too
pub record OneWrong (t b map w : List ℕ) (q : ℕ) : Type 0 where
  pub word : IsCodeword t w
  pub inside : q < places t
  pub received : get_or map q 0 ≡ 0
  pub others : (p : ℕ) → p < places t → p ≢ q → get_or map p 0 ≡ 0 → part_at (size t) p b ≡ part_at (size t) p w
  pub restored : is_lost (outcome t b (lost_too map q)).map q ≡ false

-- q is to blame, and every packet that isn't lost afterwards is the codeword's
pub record RightlyBlamed (t b map w : List ℕ) (p q : ℕ) : Type 0 where
  pub it-is : p ≡ q
  pub values : (r : ℕ) → r < places t → get_or (repair_map_after t b map) r 0 ≢ 1 → part_at (size t) r (repair_block_after t b map) ≡ part_at (size t) r w

module _ (t b map w : List ℕ) (q : ℕ) (f : Fitting t b map) (one : OneWrong t b map w q) where
  there : AgreeThere t b (lost_too map q) w
  there p h e =
      let ne : p ≢ q = λ z. true≢false (sym (ap (λ x. eqb x 1) (ap (λ k. get_or (lost_too map q) k 0) z ∙ get_or-set_same map q 1 0 (rw f.map-length one.inside))) ∙ e) in
      one.others p h ne (lost-byte (bytes-all map f.map-bytes) p (ap (λ x. eqb x 1) (sym (get_or-set_other map q p 1 0 ne)) ∙ e))

  suspected : Suspect t b map q
  suspected = record { inside = one.inside; received = one.received; restored = one.restored; agrees = word-agrees t b (lost_too map q) f.table f.block w one.word there }

  pub rightly-blamed : (p : ℕ) → blamed t b map ≡ some p → RightlyBlamed t b map w p q
  rightly-blamed p is =
      let by = accepted-by-blame t b map f p is in
      let same : p ≡ q = sym ((blamed-is t b map p is).no_other q suspected) in
      let after : repair_block_after t b map ≡ joined (outcome t b (lost_too map q)).block = by.block ∙ ap (λ k. joined (outcome t b (lost_too map k)).block) same in
      record {
        it-is = same;
        values = λ r h e. ap (part_at (size t) r) after ∙ word-values t b (lost_too map q) f.table f.block w one.word there r h (known r e);
      }
    where
      -- a place that isn't lost afterwards isn't lost after that repair
      known : (r : ℕ) → get_or (repair_map_after t b map) r 0 ≢ 1 → is_lost (outcome t b (lost_too map q)).map r ≡ false
      known r e =
          let by = accepted-by-blame t b map f p is in
          let same : p ≡ q = sym ((blamed-is t b map p is).no_other q suspected) in
          let marks : is_lost (repair_map_after t b map) r ≡ is_lost (outcome t b (lost_too map q)).map r =
          ap (λ l. is_lost l r) (by.marks ∙ ap (λ k. set (outcome t b (lost_too map k)).map k 3) same) ∙ mark-three (outcome t b (lost_too map q)).map q r one.restored in
          by_bool (is_lost (outcome t b (lost_too map q)).map r)
          (λ z. absurd (e (eqb-true _ 1 (marks ∙ z))))
          (λ z. z)
