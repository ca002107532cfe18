-- Why is this packet missing (document 02, C-21): what the call's answer says, whatever table, block, map, place and buffers it is given.
use Rattle.std.specs.Prelude.{◌≡◌, refl, true, false, List, [], ◌∷◌, ◌++◌, ℕ, zero, suc, ◌-◌, ◌<◌, eqb, ltb, length, get_or, take, replicate}
use Rattle.std.proofs.Common.{sym, ap, ap₂, ◌∙◌, subst, arith, take_at, ltb-false}
use Rattle.decided.specs.Decided.{decided, mark_after}
use Rattle.erasure.specs.Restoring.{is_lost}
use Rattle.full.specs.Full.{full_map_after}
use Rattle.full.specs.FullLaws.{map-accepted}
use Rattle.lists.specs.ListLaws.{all-at, none_any}
use Rattle.lists.specs.Lists.{has, All, Up}
use Rattle.lists.specs.Numbers.{map-from-at}
use Rattle.lists.specs.Tests.{by_bool, eqb-true, eqb-false}
use Rattle.reasons.specs.Least.{decided-none}
use Rattle.reasons.proofs.LeastList.{least-only}
use Rattle.reasons.proofs.ListedLaws.{list_for, listed-one, listed-some, kind_by, kind-mark}
use Rattle.reasons.specs.Reasons.{Restores, EvenSet, LeastEven, kind_of, Listed}
use Rattle.reasons.proofs.Restored.{list-restores, list-some, only-list}
use Rattle.table.specs.Table.{places, checks, refusal}
use Rattle.table.specs.TableLaws.{accepted}
use Rattle.why.specs.Why.{WhyAnswer, Explains, why_refusal, why_map_after, why_answer_at, why_answer, reason_after}
use Rattle.why.proofs.WhyLaws.{Fits, accepted-fits, refused_full, refusal-told, answer-accepted, buffer-accepted, map-ran}

-- ---- the kinds
kind-cases : (lost : List ℕ) (cs : List (List ℕ)) (p k : ℕ) → kind_of lost cs p ≡ k → {A : Type 0}
    → (is_lost lost p ≡ false → k ≡ 1 → A) → (is_lost lost p ≡ true → decided lost cs p ≡ true → k ≡ 2 → A) → (is_lost lost p ≡ true → decided lost cs p ≡ false → k ≡ 3 → A) → A
kind-cases lost cs p k e f g h = by_bool (is_lost lost p)
    (λ t. by_bool (decided lost cs p) (λ d. g t d (sym e ∙ rw (t, kind_of, d))) (λ d. h t d (sym e ∙ rw (t, kind_of, d))))
    (λ t. f t (sym e ∙ rw (t, kind_of)))

module _ (t b map work : List ℕ) (p : ℕ) (reason : List ℕ) where
  -- the relation for a lost place leaves no choice: any two answers to one call are the same, and so are the reason buffers
  pub why-one : (r s : WhyAnswer) (b₁ m₁ w₁ e₁ b₂ m₂ w₂ e₂ : List ℕ) → Explains t b map work p reason r b₁ m₁ w₁ e₁ → Explains t b map work p reason s b₂ m₂ w₂ e₂
      → (r ≡ s) × (e₁ ≡ e₂)
  why-one r s b₁ m₁ w₁ e₁ b₂ m₂ w₂ e₂ x y = by_bool (eqb (why_refusal t b map work p reason) 0)
      (λ h. let ok = eqb-true (why_refusal t b map work p reason) 0 h in
      let same = listed-one (places t) (checks t) map p x.list y.list (x.listed ok) (y.listed ok) in
      (x.report ∙ ap (λ l. why_answer t b map work p reason l) same ∙ sym y.report, x.reason-is ∙ ap (λ l. reason_after t b map work p reason l) same ∙ sym y.reason-is))
      (λ h. (
        x.report ∙ refused-same (why_refusal t b map work p reason) (eqb-false (why_refusal t b map work p reason) 0 h) ∙ sym y.report,
        x.reason-is ∙ kept h x.list ∙ sym (y.reason-is ∙ kept h y.list),
      ))
    where
      kept : eqb (why_refusal t b map work p reason) 0 ≡ false → (l : List ℕ) → reason_after t b map work p reason l ≡ reason
      kept h l = rw (h, reason_after)

      refused-same : (k : ℕ) → (k ≡ 0 → ⊥) → why_answer_at k (kind_of map (checks t) p) x.list (why_map_after t b map work p reason) ≡ why_answer_at k (kind_of map (checks t) p) y.list (why_map_after t b map work p reason)
      refused-same zero ne = absurd (ne refl)
      refused-same (suc k) ne = refl

  -- ---- an accepted call
  module _ (r : WhyAnswer) (b' map' work' reason' : List ℕ) (x : Explains t b map work p reason r b' map' work' reason') (ok : r.refusal ≡ 0) where
    none : why_refusal t b map work p reason ≡ 0
    none = sym (refusal-told t b map work p reason x.list) ∙ sym (ap (λ a. a.refusal) x.report) ∙ ok

    fit : Fits t b map work p reason
    fit = accepted-fits t b map work p reason none

    low : All (λ c. All (λ q. q < places t) c) (checks t)
    low = (accepted t fit.full.old.table).low

    listed : Listed (places t) (checks t) map p x.list
    listed = x.listed none

    told : r ≡ why_answer_at 0 (kind_of map (checks t) p) x.list (why_map_after t b map work p reason)
    told = x.report ∙ answer-accepted t b map work p reason none x.list

    kind-is : r.kind ≡ kind_of map (checks t) p
    kind-is = ap (λ a. a.kind) told

    length-is : r.length ≡ length x.list
    length-is = ap (λ a. a.length) told

    -- the list stands in front of the buffer
    list-is : take r.length reason' ≡ x.list
    list-is = ap₂ take length-is (x.reason-is ∙ buffer-accepted t b map work p reason none x.list) ∙ take_at x.list (replicate (1024 - length x.list) 0) (length x.list) refl

    -- the map afterwards is full repair's
    pub map-full : map' ≡ full_map_after t b map work
    map-full = x.map_is ∙ map-ran t b map work p reason fit

    -- its mark at place q
    mark-at : (q : ℕ) → q < places t → get_or map' q 0 ≡ mark_after (checks t) map q
    mark-at q h = ap (λ m. get_or m q 0) (map-full ∙ map-accepted t b map work (sym (refused_full t b map work p reason fit) ∙ none)) ∙ map-from-at (mark_after (checks t) map) 0 (places t) q h

    -- the kind is told by that map: received where it has 0, restored where it has 2, lost where it has 1
    pub kind-agrees : r.kind ≡ kind_by (get_or map' p 0)
    kind-agrees = kind-is ∙ kind-mark (checks t) map p received-zero ∙ ap kind_by (sym (mark-at p fit.below))
      where
        received-zero : is_lost map p ≡ false → get_or map p 0 ≡ 0
        received-zero h = let ne = eqb-false (get_or map p 0) 1 h in
            let most = ltb-false 1 (get_or map p 0) (all-at 0 (none_any (ltb 1) map fit.full.old.map-bytes) p (subst (λ v. p < v) (sym fit.full.old.map-length) fit.below)) in
            omega arith

    -- "For a received place the answer says so": nothing is listed
    pub received_none : r.kind ≡ 1 → (r.length ≡ 0) × (reason' ≡ replicate 1024 0)
    received_none k = let empty = is-received (sym kind-is ∙ k) in
        (length-is ∙ ap length empty, x.reason-is ∙ buffer-accepted t b map work p reason none x.list ∙ ap (λ l. l ++ replicate (1024 - length l) 0) empty)
      where
        is-received : kind_of map (checks t) p ≡ 1 → x.list ≡ []
        is-received e = kind-cases map (checks t) p 1 e (λ h j. listed.received h) (λ h d j. absurd (omega arith)) (λ h d j. absurd (omega arith))

    -- "For a restored one it lists used checks only, ascending, whose sum holds that place and otherwise only received places": the list is not
    -- empty, and no other list of used checks has that sum
    pub restored-list : r.kind ≡ 2
        → Restores map (checks t) p (take r.length reason') × (0 < r.length) × ((L : List ℕ) → Restores map (checks t) p L → L ≡ take r.length reason')
    restored-list k = kind-cases map (checks t) p 2 (sym kind-is ∙ k) (λ h j. absurd (omega arith))
        (λ h d j.
        let is = list-is ∙ listed.restored h d in (
          subst (Restores map (checks t) p) (sym is) (list-restores map (checks t) p d),
          some x.list (λ e. list-some map (checks t) p d (sym (listed.restored h d) ∙ e)) length-is,
          λ L e. only-list map (checks t) p h L e ∙ sym is,
        ))
        (λ h d j. absurd (omega arith))
      where
        some : (l : List ℕ) → (l ≡ [] → ⊥) → {n : ℕ} → n ≡ length l → 0 < n
        some [] ne e = absurd (ne refl)
        some (y ∷ l) ne e = omega arith

    -- "For a lost one it gives a set of lost places with this one in it that every check meets an even number of times; of two such sets, the one
    -- without the highest place in which they differ": it is such a set, ascending, no other ascending list is, and all of its places stay lost
    pub lost-set : r.kind ≡ 3
        → Up 0 (take r.length reason') × LeastEven (places t) (checks t) map p (λ q. has q (take r.length reason'))
        × ((L : List ℕ) → Up 0 L → LeastEven (places t) (checks t) map p (λ q. has q L) → L ≡ take r.length reason')
        × ((q : ℕ) → has q (take r.length reason') ≡ true → get_or map' q 0 ≡ 1)
    lost-set k = kind-cases map (checks t) p 3 (sym kind-is ∙ k) (λ h j. absurd (omega arith)) (λ h d j. absurd (omega arith))
        (λ h d j. (
          subst (Up 0) (sym list-is) (listed.lost-up h d),
          subst (λ l. LeastEven (places t) (checks t) map p (λ q. has q l)) (sym list-is) (listed.lost-least h d),
          λ L u e. least-only (places t) (checks t) map p L x.list u e (listed.lost-up h d) (listed.lost-least h d) ∙ sym list-is,
          λ q e. stays (listed.lost-least h d).evenly q (ap (has q) (sym list-is) ∙ e),
        ))
      where
        -- a place of an even set is not decided
        stays : EvenSet (places t) (checks t) map p (λ q. has q x.list) → (q : ℕ) → has q x.list ≡ true → get_or map' q 0 ≡ 1
        stays s q e = let l = s.low q e in let h = s.within q e in
            mark-at q l ∙ by_bool (decided map (checks t) q)
            (λ d. absurd (decided-none (places t) (checks t) low map q l h d (λ u. has u x.list) (record { low = s.low; within = s.within; holds = e; even = s.even })))
            (λ d. rw (h, mark_after, d))

-- there is a list for every place of every accepted table
pub list-exists : (t : List ℕ) → refusal t ≡ 0 → (map : List ℕ) (p : ℕ) → p < places t → Listed (places t) (checks t) map p (list_for (places t) (checks t) map p)
list-exists t ok map p h = listed-some (places t) (checks t) map p (accepted t ok).low h
