-- The steps on packets are, byte by byte, the steps on single bytes.
use Rattle.std.specs.Prelude.{◌≡◌, refl, List, [], ◌∷◌, ℕ, ◌<◌, eqb, length, get_or, set, replicate}
use Rattle.std.proofs.Common.{sym, ap, ◌∙◌, subst, length-set, get_or-set_same, get_or-set_other}
use Rattle.std.proofs.Math.Path.{fun_ext}
use Rattle.std.proofs.lemmas.List.{length-replicate}
use Rattle.lists.specs.Tests.{eqb-true, eqb-false, by_bool}
use Rattle.gf2.specs.Gf2.{xor_group}
use Rattle.lists.specs.ListLaws.{all_get_d, get_d-zeros, all_set}
use Rattle.gf2.specs.Vectors.{get_d-add, length-add}
use Rattle.lists.specs.Lists.{All, All.nil, All.cons}
use Rattle.table.specs.PacketLaws.{view}
use Rattle.table.specs.Packets.{Packets}
use Rattle.plan.specs.declared.Step.{Step}
use Rattle.plan.specs.declared.Step.TheVariants.{Clear, Add}
use Rattle.plan.specs.Run.{upd, step, run}
use Rattle.plan.specs.Step.{SlotsBelow}
use Rattle.plan.specs.Steps.{carry_out, carry_out_all}

-- a packet set, byte by byte
view-set : (st : List (List ℕ)) (to : ℕ) (v : List ℕ) (j a : ℕ) → to < length st → get_or v j 0 ≡ a → view (set st to v) j ≡ upd xor_group (view st j) to a
view-set st to v j a h e = fun_ext (λ i. by_bool (eqb i to)
    (λ k. let q = eqb-true i to k in rw (k, q, get_or-set_same st to v [] h) e)
    (λ k. rw (k, get_or-set_other st to i v [] (eqb-false i to k))))

-- one step
does-view : (s : ℕ) (st : List (List ℕ)) (x : Step) → Packets s st → SlotsBelow (length st) x → (j : ℕ) → view (carry_out s st x) j ≡ step xor_group (view st j) x
does-view s st (Clear to) w h j = view-set st to (replicate s 0) j 0 h (get_d-zeros s j)
does-view s st (Add to from) w (h, k) j = view-set st to _ j _ h (get_d-add xor_group (get_or st to []) (get_or st from []) s (all_get_d w to h) (all_get_d w from k) j)

-- packets keep their size, and slots their number
pub does-packets : (s : ℕ) (st : List (List ℕ)) (x : Step) → Packets s st → SlotsBelow (length st) x → Packets s (carry_out s st x)
does-packets s st (Clear to) w h = all_set w to (replicate s 0) (length-replicate s 0)
does-packets s st (Add to from) w (h, k) = all_set w to _ (length-add xor_group (get_or st to []) (get_or st from []) s (all_get_d w to h) (all_get_d w from k))

pub does-length : (s : ℕ) (st : List (List ℕ)) (x : Step) → length (carry_out s st x) ≡ length st
does-length s st (Clear to) = length-set st to _
does-length s st (Add to from) = length-set st to _

-- all steps, at byte j
pub runs-view : (s k : ℕ) (xs : List Step) (st : List (List ℕ)) → length st ≡ k → Packets s st → All (SlotsBelow k) xs → (j : ℕ) → view (carry_out_all s st xs) j ≡ run xor_group (view st j) xs
runs-view s k [] st l w nil j = refl
runs-view s k (x ∷ xs) st l w (cons f fs) j =
    let g = subst (λ k. SlotsBelow k x) (sym l) f in
    runs-view s k xs (carry_out s st x) (does-length s st x ∙ l) (does-packets s st x w g) fs j
    ∙ ap (λ v. run xor_group v xs) (does-view s st x w g j)

-- the run keeps the number of slots
pub runs-length : (s : ℕ) (xs : List Step) (st : List (List ℕ)) → length (carry_out_all s st xs) ≡ length st
runs-length s [] st = refl
runs-length s (x ∷ xs) st = runs-length s xs (carry_out s st x) ∙ does-length s st x

-- the run keeps the size of packets
pub runs-packets : (s k : ℕ) {xs : List Step} → All (SlotsBelow k) xs → (st : List (List ℕ)) → length st ≡ k → Packets s st → Packets s (carry_out_all s st xs)
runs-packets s k nil st l w = w
runs-packets s k (cons {x = x} f fs) st l w = runs-packets s k fs (carry_out s st x) (does-length s st x ∙ l) (does-packets s st x w (subst (λ k. SlotsBelow k x) (sym l) f))
