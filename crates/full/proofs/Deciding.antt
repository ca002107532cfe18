-- What repair's turns and elimination after them decide together.
use mathlib.Core.Path.{◌≡◌, refl, sym, ap, ap₂, ◌∙◌}
use mathlib.Core.Bool.{Bool, true, false, not, true≢false}
use mathlib.Core.List.{List, []}
use Prim.Native.Nat.{ℕ, ◌*◌}
use native.Mathlib.Omega.{arith}
use lib.ListN.{length, get_or, replicate}
use Rattle.decided.specs.Decided.{clashes, solved_block, solved_map}
use Rattle.decided.specs.Peeling.{stays-received}
use Rattle.decided.proofs.PeeledLaws.{peeled-clashes, peeled-block, peeled-map, still-zero, contradicted-clashes}
use Rattle.eliminate.specs.Eliminating.{NoneLost, ZeroLost, Solves}
use Rattle.erasure.specs.ContradictionLaws.{sums-of}
use Rattle.erasure.proofs.OutcomeLaws.{start-length, start-sized, outcome-length, outcome-sized}
use Rattle.erasure.specs.Restoring.{zero_lost, is_lost, outcome, agreeing, block_if, map_if}
use Rattle.erasure.proofs.Values.{received-kept, zero_lost-kept}
use Rattle.full.specs.Deciding.{Decides}
use Rattle.full.specs.Full.{clashing}
use Rattle.lists.specs.ListLaws.{all_map}
use Rattle.lists.specs.Tests.{not_same}
use Rattle.std.specs.declared.result.Result.{Result}
use Rattle.std.specs.declared.result.Result.TheVariants.{Ok, Err}
use Rattle.std.specs.Result.{is_ok}
use Rattle.refusals.specs.declared.Fault.{Fault as FaultFound}
use Rattle.report.specs.declared.Repaired.{Repaired}
use Rattle.restore.specs.Mending.{counts_of, Mends}
use Rattle.restore.specs.MendsLaws.{agrees-told}
use Rattle.table.specs.Accepted.{Accepted}
use Rattle.table.specs.PacketLaws.{packets-of}
use Rattle.table.specs.Packets.{packets, joined}
use Rattle.table.specs.Table.{places, size, checks}

module _ (t : List ℕ) (m n s : ℕ) (k : Accepted t m n s) (b l : List ℕ) (lb : length b ≡ n * s) (d : Result Repaired FaultFound) (b₂ l₂ : List ℕ) (done : Mends t b l d b₂ l₂) where
  -- the core agrees where it answers
  ok-agrees : (r : Result Repaired FaultFound) → is_ok r ≡ (counts_of r).agrees
  ok-agrees (Ok r) = refl
  ok-agrees (Err f) = refl

  told_agrees : is_ok d ≡ agreeing t b l
  told_agrees = ok-agrees d ∙ agrees-told t b l d b₂ l₂ done

  fits : length b ≡ places t * size t
  fits = lb ∙ ap₂ ◌*◌ k.places-are k.size_is

  -- the turns find nothing that contradicts: they leave their outcome
  module _ (holds : is_ok d ≡ true) where
    agree : agreeing t b l ≡ true
    agree = sym told_agrees ∙ holds

    map-then : l₂ ≡ (outcome t b l).map
    map-then = done.map_is ∙ ap (λ v. map_if v t b l) agree

    packets-then : packets (size t) (places t) b₂ ≡ (outcome t b l).block
    packets-then = ap (packets (size t) (places t)) (done.block-is ∙ ap (λ v. block_if v t b l) agree)
        ∙ packets-of (size t) (places t) (outcome-length t b l k.accepted fits) (outcome-sized t b l k.accepted fits)

    packets-there : packets s n b₂ ≡ (outcome t b l).block
    packets-there = ap₂ (λ x y. packets x y b₂) k.size_is k.places-are ∙ packets-then

    -- every check without a lost place sums to zero then
    pub none-lost : NoneLost t n s b₂ l₂
    none-lost = record {
      zero = rw (packets-there, map-then, k.size_is) (all_map (λ c z e. z (ap length e)) (sums-of (size t) (outcome t b l) (checks t) agree));
    }

    -- and lost places are zero
    pub zero-lost : ZeroLost n s b₂ l₂
    zero-lost = record {
      zero = λ p h e. ap (λ x. get_or x p []) packets-there ∙ still-zero t b l k.accepted fits p (omega (arith, k.places-are)) (ap (λ x. is_lost x p) (sym map-then) ∙ e) ∙ ap (λ x. replicate x 0) (sym k.size_is);
    }

    module _ (r : Bool) (b₃ l₃ : List ℕ) (after : Solves t n s b₂ l₂ r b₃ l₃) where
      told-right : r ≡ not (clashing t b l)
      told-right = after.agrees ∙ ap₂ (λ x y. not (clashes s (checks t) x y)) packets-there map-then
          ∙ ap (λ x. not (clashes x (checks t) (outcome t b l).block (outcome t b l).map)) k.size_is ∙ ap not (sym (peeled-clashes t b l k.accepted fits))

      calm : r ≡ true → clashing t b l ≡ false
      calm e = not_same (clashing t b l) false (sym told-right ∙ e)

      block-then : r ≡ true → b₃ ≡ joined (solved_block (places t) (size t) (checks t) (packets (size t) (places t) b) l)
      block-then e = after.block-is e ∙ ap₂ (λ x y. joined (solved_block n s (checks t) x y)) packets-there map-then
          ∙ ap₂ (λ x y. joined (solved_block x y (checks t) (outcome t b l).block (outcome t b l).map)) k.places-are k.size_is
          ∙ ap joined (peeled-block t b l k.accepted fits (calm e))

      marks_then : r ≡ true → l₃ ≡ solved_map (places t) (checks t) l
      marks_then e = after.map_is e ∙ ap₂ (λ x y. solved_map x (checks t) y) k.places-are map-then ∙ peeled-map t b l k.accepted fits (calm e)

      pub solved : Decides t b l r b₃ l₃
      solved = record {
        agrees = told-right;
        block-is = block-then;
        map_is = marks_then;
        received = λ p h e. ap₂ (λ x y. get_or (packets x y b₃) p []) (sym k.size_is) (sym k.places-are)
            ∙ after.received p (omega (arith, k.places-are)) (ap (λ x. is_lost x p) map-then ∙ stays-received (places t) (size t) (checks t) (packets (size t) (places t) b) l p e)
            ∙ ap (λ x. get_or x p []) packets-there ∙ received-kept (places t) (size t) (checks t) (packets (size t) (places t) b) l p e;
      }

  -- the turns find that something contradicts
  pub contradicted : is_ok d ≡ false → (r : Bool) → r ≡ false → Decides t b l r b₂ l₂
  contradicted fails r e =
      let fail : agreeing t b l ≡ false = sym told_agrees ∙ fails in
      let left : packets (size t) (places t) b₂ ≡ zero_lost (size t) l (packets (size t) (places t) b) = ap (packets (size t) (places t)) (done.block-is ∙ ap (λ v. block_if v t b l) fail)
      ∙ packets-of (size t) (places t) (start-length t b l k.accepted fits) (start-sized t b l k.accepted fits) in
      record {
        agrees = e ∙ ap not (sym (contradicted-clashes t b l k.accepted fits fail));
        block-is = λ y. absurd (true≢false (sym y ∙ e));
        map_is = λ y. absurd (true≢false (sym y ∙ e));
        received = λ p h f. ap (λ x. get_or x p []) left ∙ zero_lost-kept (size t) l (packets (size t) (places t) b) p f;
      }
