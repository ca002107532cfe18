-- The packets at the start: the k-th at the k-th place, the others as they were; and a place that no step writes keeps its packet.
use Rattle.std.specs.Prelude.{◌≡◌, refl, true, false, List, [], ◌∷◌, ℕ, zero, suc, ◌<◌, eqb, length, get_or, set}
use Rattle.std.proofs.Common.{sym, ap, ◌∙◌, subst, true≢false, arith, length-set, get_or-set_same, get_or-set_other}
use Rattle.lists.specs.Tests.{eqb-false, or-false-l, or-false-r}
use Rattle.lists.specs.Lists.{Distinct, Distinct.dnil, Distinct.dnew, has, All, All.nil, All.cons}
use Rattle.lists.specs.ListLaws.{all_set, all_map}
use Rattle.table.specs.Packets.{Packets}
use Rattle.plan.specs.declared.Step.{Step}
use Rattle.plan.specs.declared.Step.TheVariants.{Clear, Add}
use Rattle.plan.specs.LayoutLaws.{Sound, Leaves}
use Rattle.plan.specs.Steps.{carry_out, carry_out_all, with_packets}

-- a place that gets no packet
pub put_other : (st : List (List ℕ)) (is : List ℕ) (ps : List (List ℕ)) (f : ℕ) → has f is ≡ false → get_or (with_packets st is ps) f [] ≡ get_or st f []
put_other st [] ps f h = refl
put_other st (i ∷ is) [] f h = refl
put_other st (i ∷ is) (p ∷ ps) f h = put_other (set st i p) is ps f (or-false-r (eqb f i) (has f is) h) ∙ get_or-set_other st i f p [] (eqb-false f i (or-false-l (eqb f i) (has f is) h))

-- as many slots, of the same size
pub put-length : (st : List (List ℕ)) (is : List ℕ) (ps : List (List ℕ)) → length (with_packets st is ps) ≡ length st
put-length st [] ps = refl
put-length st (i ∷ is) [] = refl
put-length st (i ∷ is) (p ∷ ps) = put-length (set st i p) is ps ∙ length-set st i p

pub put-packets : (s : ℕ) {st : List (List ℕ)} (is : List ℕ) {ps : List (List ℕ)} → Packets s st → Packets s ps → Packets s (with_packets st is ps)
put-packets s [] w v = w
put-packets s (i ∷ is) w nil = w
put-packets s (i ∷ is) w (cons {x = p} e v) = put-packets s is (all_set w i p e) v

-- the k-th packet is put at the k-th place
pub put-at : (st : List (List ℕ)) {is : List ℕ} (ps : List (List ℕ)) → Distinct is → All (λ i. i < length st) is → length ps ≡ length is
    → (k : ℕ) → k < length is → get_or (with_packets st is ps) (get_or is k 0) [] ≡ get_or ps k []
put-at st ps dnil a l k h = absurd (omega arith)
put-at st [] (dnew n d) (cons b a) l k h = absurd (omega arith)
put-at st (p ∷ ps) (dnew {x = i} {l = is} n d) (cons b a) l zero h = put_other (set st i p) is ps i n ∙ get_or-set_same st i p [] b
put-at st (p ∷ ps) (dnew {x = i} {l = is} n d) (cons b a) l (suc k) h = put-at (set st i p) ps d (all_map (λ j q. subst (λ m. j < m) (sym (length-set st i p)) q) a) (omega arith) k (omega arith)

-- a place that no step writes keeps its packet
pub runs-keep : (s k p : ℕ) {I : List ℕ} {xs : List Step} → has p I ≡ true → All (Sound k I) xs → (st : List (List ℕ)) → get_or (carry_out_all s st xs) p [] ≡ get_or st p []
runs-keep s k p h nil st = refl
runs-keep s k p {I} h (cons {x = x} r a) st = runs-keep s k p h a _ ∙ kept_by x r.leaves
  where
    kept_by : (x : Step) → Leaves I x → get_or (carry_out s st x) p [] ≡ get_or st p []
    kept_by (Clear to) e = get_or-set_other st to p _ [] (λ q. true≢false (sym h ∙ ap (λ x. has x I) q ∙ e))
    kept_by (Add to from) e = get_or-set_other st to p _ [] (λ q. true≢false (sym h ∙ ap (λ x. has x I) q ∙ e))
