-- The slots before the first step: the steps give from them what they give from the start.
use Rattle.std.specs.Prelude.{◌≡◌, refl, true, false, ◌||◌, List, [], ◌∷◌, ℕ, ◌+◌, ◌*◌, eqb, length, get_or, set, replicate}
use Rattle.std.proofs.Common.{sym, ap, ap₂, ◌∙◌, ⊎_elim, arith, eqb-true, eq-eqb, ne_eqb, length-set, length-append, ext_get_or, get_or-set_same, get_or-set_other, take_at, drop_at}
use Rattle.std.proofs.lemmas.Bool.{eqb-false}
use Rattle.std.proofs.lemmas.List.{length-replicate}
use Rattle.std.proofs.Math.ListN.{get_or-eq_default}
use Rattle.gf2.specs.Gf2.{xor_group, add}
use Rattle.lists.specs.ListLaws.{all_append}
use Rattle.lists.specs.Tests.{by_bool, side}
use Rattle.table.specs.PacketLaws.{packets-length, packets-sized, packets-joined}
use Rattle.table.specs.Packets.{packets, joined}
use Rattle.plan.specs.declared.Step.{Step}
use Rattle.plan.specs.declared.Step.TheVariants.{Clear, Add}
use Rattle.plan.specs.AtStart.{put-length}
use Rattle.plan.specs.Layout.{plan_places, plan_gap, info_count, info_in, slots}
use Rattle.plan.specs.Steps.{carry_out_all}
use Rattle.slots.specs.Slots.{Holds}
use Rattle.start.specs.Start.{start_of, clears_first, slots_in, PreparedFor}

-- ---- steps from slots that agree but where they are cleared first
-- a slot written alike
pub set-alike : (st st' : List (List ℕ)) (i : ℕ) (v : List ℕ) (p : ℕ) → length st ≡ length st' → ((p ≡ i → ⊥) → get_or st p [] ≡ get_or st' p [])
    → get_or (set st i v) p [] ≡ get_or (set st' i v) p []
set-alike st st' i v p l e = by_bool (eqb p i)
    (λ h. rw (eqb-true p i h) (⊎_elim
    (λ a. get_or-set_same st i v [] a ∙ sym (get_or-set_same st' i v [] (omega arith)))
    (λ a. get_or-eq_default (set st i v) [] (let b = length-set st i v in omega arith) ∙ sym (get_or-eq_default (set st' i v) [] (let b = length-set st' i v in omega arith)))
    (side i (length st))))
    (λ h. get_or-set_other st i p v [] (eqb-false p i h) ∙ e (eqb-false p i h) ∙ sym (get_or-set_other st' i p v [] (eqb-false p i h)))

pub lengths-alike : (st st' : List (List ℕ)) (i : ℕ) (v : List ℕ) → length st ≡ length st' → length (set st i v) ≡ length (set st' i v)
lengths-alike st st' i v l = length-set st i v ∙ l ∙ sym (length-set st' i v)

add-first : (to from p : ℕ) (xs : List Step) → eqb p to || eqb p from ≡ true → clears_first (Add to from ∷ xs) p ≡ false
add-first to from p xs h = rw h

not_first : (to from p : ℕ) (xs : List Step) → clears_first xs p ≡ false → clears_first (Add to from ∷ xs) p ≡ false
not_first to from p xs h = by_bool (eqb p to || eqb p from) (λ e. rw e) (λ e. rw (e, h))

pub steps_alike : (s : ℕ) (xs : List Step) (st st' : List (List ℕ)) → length st ≡ length st'
    → ((p : ℕ) → clears_first xs p ≡ false → get_or st p [] ≡ get_or st' p []) → carry_out_all s st xs ≡ carry_out_all s st' xs
steps_alike s [] st st' l e = ext_get_or [] st st' l (λ p h. e p refl)
steps_alike s (Clear to ∷ xs) st st' l e =
    let o : List ℕ = replicate s 0 in
    steps_alike s xs (set st to o) (set st' to o) (lengths-alike st st' to o l) (λ p h.
    set-alike st st' to o p l (λ n. e p (rw (ne_eqb p to n) h)))
steps_alike s (Add to from ∷ xs) st st' l e =
    let v = add xor_group (get_or st to []) (get_or st from []) in
    let same : v ≡ add xor_group (get_or st' to []) (get_or st' from []) =
    ap₂ (add xor_group) (e to (add-first to from to xs (rw (eq-eqb to to refl)))) (e from (add-first to from from xs (by_bool (eqb from to) (λ h. rw h) (λ h. rw (h, eq-eqb from from refl))))) in
    steps_alike s xs (set st to v) (set st' to v) (lengths-alike st st' to v l) (λ p h. set-alike st st' to v p l (λ n. e p (not_first to from p xs h)))
    ∙ ap (λ y. carry_out_all s (set st' to y) xs) same

-- ---- the slots that block and scratch hold
module _ (w : List ℕ) (s : ℕ) (b c : List ℕ) (lb : length b ≡ plan_places w * s) (lc : length c ≡ plan_gap w * s) where
  abbrev front : List (List ℕ)
  front = packets s (plan_places w) b

  abbrev back : List (List ℕ)
  back = packets s (plan_gap w) c

  front_long : length front ≡ plan_places w
  front_long = packets-length s (plan_places w) b

  pub slots_length : length (slots_in w s b c) ≡ slots w
  slots_length = length-append front back ∙ ap₂ ◌+◌ front_long (packets-length s (plan_gap w) c)

  pub slots-held : Holds (plan_places w) s (slots_in w s b c) b c
  slots-held = record {
    sized = all_append (packets-sized s (plan_places w) b lb) (packets-sized s (plan_gap w) c lc);
    block-is = sym (ap joined (take_at front back (plan_places w) front_long) ∙ packets-joined s (plan_places w) b lb);
    scratch-is = sym (ap joined (drop_at front back (plan_places w) front_long) ∙ packets-joined s (plan_gap w) c lc);
  }

-- ---- the start
pub start-length : (w : List ℕ) (s : ℕ) (information : List ℕ) → length (start_of w s information) ≡ slots w
start-length w s information =
    let z : List ℕ = replicate s 0 in put-length (replicate (slots w) z) (info_in w) (packets s (info_count w) information) ∙ length-replicate (slots w) z

-- the steps give from it what they give from the slots prepared
pub start-alike : (w : List ℕ) (s : ℕ) (xs : List Step) (information b c : List ℕ) → length b ≡ plan_places w * s → length c ≡ plan_gap w * s
    → PreparedFor w s xs information b c → carry_out_all s (slots_in w s b c) xs ≡ carry_out_all s (start_of w s information) xs
start-alike w s xs information b c lb lc k =
    steps_alike s xs (slots_in w s b c) (start_of w s information) (slots_length w s b c lb lc ∙ sym (start-length w s information)) k.agrees
