-- Laws of suspects and of the blamed place: who is one, when nobody is, that old bytes never count, and a map with one more place marked.
use Rattle.std.specs.Prelude.{◌≡◌, refl, Bool, true, false, not, ◌||◌, ◌&&◌, List, [], ◌∷◌, ◌≢◌, ◌⊎◌, ℕ, zero, suc, ◌*◌, ◌<◌, eqb, ltb, length, get_or, set}
use Rattle.std.proofs.Common.{sym, ap, ap₂, ◌∙◌, subst, true≢false, inl, inr, arith, length-set, get_or-set_other}
use Rattle.std.proofs.lemmas.Bool.{false≢true, not-true}
use Rattle.std.proofs.Math.Option.{none, some, some-ne-none, some-injective}
use Rattle.suspects.specs.Blame.{lost_too, suspect, suspects, only_one, only_suspect, blamed, Suspect, OnlySuspect}
use Rattle.erasure.specs.ContradictionLaws.{sums-of}
use Rattle.erasure.proofs.Largest.{stays-lost}
use Rattle.erasure.proofs.OldBytes.{old-bytes}
use Rattle.erasure.proofs.OutcomeLaws.{tally-lost, outcome-length, outcome-sized}
use Rattle.erasure.specs.Restoring.{is_lost, tally, outcome, consistent, agreeing, AgreeThere, Largest}
use Rattle.erasure.proofs.Values.{received-kept, near-agrees}
use Rattle.erasure.specs.LostLaws.{lost_in}
use Rattle.lists.specs.ListLaws.{all_map, all_of, filter-in, filter_same, distinct-rev, distinct_filter, distinct-below}
use Rattle.lists.specs.Lists.{All, All.cons, Distinct, Distinct.dnew, any_of, filter, from, has}
use Rattle.lists.specs.Numbers.{from_all, from-below, filter-has}
use Rattle.lists.specs.Tests.{by_bool, by_opt, eqb-true, eqb-false, eqb-self, or-false-l, or-false-r, and_l, and_r}
use Rattle.table.specs.PacketLaws.{packets-length}
use Rattle.table.specs.Packets.{packets}
use Rattle.table.specs.Table.{places, size, checks, refusal}
use Rattle.table.specs.TableLaws.{accepted}

-- ---- a list that has exactly one member
only-list : (l : List ℕ) (p : ℕ) → only_one l ≡ some p → l ≡ p ∷ []
only-list [] p h = absurd (some-ne-none p (sym h))
only-list (q ∷ []) p h = ap (λ x. x ∷ []) (some-injective q p h)
only-list (q ∷ r ∷ l) p h = absurd (some-ne-none p (sym h))

-- members that are all p, and no two alike
list-only : (p : ℕ) (l : List ℕ) → Distinct l → All (λ x. x ≡ p) l → has p l ≡ true → only_one l ≡ some p
list-only p [] d a h = absurd (false≢true h)
list-only p (x ∷ []) d (cons e a) h = ap some e
list-only p (x ∷ y ∷ l) (dnew n d) (cons e (cons f a)) h = absurd (true≢false (sym (eqb-self x) ∙ ap (eqb x) (e ∙ sym f) ∙ or-false-l (eqb x y) (has x l) n))

module _ (t b map : List ℕ) where
  -- ---- suspects
  pub suspect-is : (p : ℕ) → p < places t → suspect t b map p ≡ true → Suspect t b map p
  suspect-is p l h =
      let r = and_r (eqb (get_or map p 0) 0) _ h in
      record {
        inside = l;
        received = eqb-true (get_or map p 0) 0 (and_l (eqb (get_or map p 0) 0) _ h);
        restored = not-true (is_lost (outcome t b (lost_too map p)).map p) (and_l (not (is_lost (outcome t b (lost_too map p)).map p)) _ r);
        agrees = and_r (not (is_lost (outcome t b (lost_too map p)).map p)) _ r;
      }

  pub is-suspect : (p : ℕ) → Suspect t b map p → suspect t b map p ≡ true
  is-suspect p s = ap₂ ◌&&◌ (ap (λ x. eqb x 0) s.received) (ap₂ ◌&&◌ (ap not s.restored) s.agrees)

  -- the list holds them, and nothing else, each once
  all-suspects : All (Suspect t b map) (suspects t b map)
  all-suspects = all_map (λ p r. let u = r.0.1 in suspect-is p (omega arith) r.1) (filter-in (suspect t b map) (from_all 0 (places t)))

  has-suspect : (p : ℕ) → Suspect t b map p → has p (suspects t b map) ≡ true
  has-suspect p s = filter-has (suspect t b map) (places t) p s.inside ∙ is-suspect p s

  once : Distinct (suspects t b map)
  once = distinct_filter (suspect t b map) (subst Distinct (sym (from-below (places t))) (distinct-rev (distinct-below (places t))))

  -- ---- exactly one
  pub only-is : (p : ℕ) → only_suspect t b map ≡ some p → OnlySuspect t b map p
  only-is p h =
      let one : suspects t b map ≡ p ∷ [] = only-list (suspects t b map) p h in
      record {
        it-is = first (subst (All (Suspect t b map)) one all-suspects);
        no_other = λ q s. eqb-true q p (or-only (eqb q p) (ap (has q) (sym one) ∙ has-suspect q s));
      }
    where
      first : All (Suspect t b map) (p ∷ []) → Suspect t b map p
      first (cons s a) = s

      or-only : (v : Bool) → (v || false) ≡ true → v ≡ true
      or-only true e = refl
      or-only false e = e

  pub is-only : (p : ℕ) → OnlySuspect t b map p → only_suspect t b map ≡ some p
  is-only p o = list-only p (suspects t b map) once (all_map (λ q s. o.no_other q s) all-suspects) (has-suspect p o.it-is)

  -- ---- none, or more than one
  pub record TwoSuspects : Type 0 where
    pub one : ℕ
    pub other : ℕ
    pub differ : one ≢ other
    pub one-is : Suspect t b map one
    pub other-is : Suspect t b map other

  pub no-only : only_suspect t b map ≡ none → ((p : ℕ) → Suspect t b map p → ⊥) ⊎ TwoSuspects
  no-only h = go (suspects t b map) refl h
    where
      two : (p q : ℕ) (l : List ℕ) → Distinct (p ∷ q ∷ l) → All (Suspect t b map) (p ∷ q ∷ l) → TwoSuspects
      two p q l (dnew n d) (cons s (cons r a)) =
          record { one = p; other = q; differ = eqb-false p q (or-false-l (eqb p q) (has p l) n); one-is = s; other-is = r }

      go : (l : List ℕ) → suspects t b map ≡ l → only_one l ≡ none → ((p : ℕ) → Suspect t b map p → ⊥) ⊎ TwoSuspects
      go [] e h = inl (λ p s. false≢true (ap (has p) (sym e) ∙ has-suspect p s))
      go (p ∷ []) e h = absurd (some-ne-none p h)
      go (p ∷ q ∷ l) e h = inr (two p q l (subst Distinct e once) (subst (All (Suspect t b map)) e all-suspects))

  pub none_only : ((p : ℕ) → Suspect t b map p → ⊥) → only_suspect t b map ≡ none
  none_only never = by_opt (only_suspect t b map) (λ p h. absurd (never p (only-is p h).it-is)) (λ h. h)

  pub two-only : TwoSuspects → only_suspect t b map ≡ none
  two-only w = by_opt (only_suspect t b map)
      (λ p h. let o = only-is p h in absurd (w.differ (o.no_other w.one w.one-is ∙ sym (o.no_other w.other w.other-is))))
      (λ h. h)

  -- ---- the blamed place
  -- "Accepted blocks keep their answer": nobody is blamed
  pub agreed-none : agreeing t b map ≡ true → blamed t b map ≡ none
  unfolding blamed
  agreed-none h = rw (h, blamed)

  pub contradicted-only : agreeing t b map ≡ false → blamed t b map ≡ only_suspect t b map
  unfolding blamed
  contradicted-only h = rw (h, blamed)

  -- somebody is blamed: the old repair contradicts
  pub blamed-contradicts : (p : ℕ) → blamed t b map ≡ some p → agreeing t b map ≡ false
  blamed-contradicts p h = by_bool (agreeing t b map) (λ e. absurd (some-ne-none p (sym h ∙ agreed-none e))) (λ e. e)

  -- the blamed place is the only suspect of a block that contradicts, and such a place is blamed
  pub blamed-is : (p : ℕ) → blamed t b map ≡ some p → OnlySuspect t b map p
  blamed-is p h = only-is p (sym (contradicted-only (blamed-contradicts p h)) ∙ h)

  pub is-blamed : (p : ℕ) → agreeing t b map ≡ false → OnlySuspect t b map p → blamed t b map ≡ some p
  is-blamed p e o = contradicted-only e ∙ is-only p o

-- ---- a map with one more place marked lost
pub lost_too-bytes : (map : List ℕ) (p : ℕ) → any_of (ltb 1) map ≡ false → any_of (ltb 1) (lost_too map p) ≡ false
lost_too-bytes [] p h = h
lost_too-bytes (x ∷ l) zero h = or-false-r (ltb 1 x) (any_of (ltb 1) l) h
lost_too-bytes (x ∷ l) (suc p) h = ap₂ ◌||◌ (or-false-l (ltb 1 x) (any_of (ltb 1) l) h) (lost_too-bytes l p (or-false-r (ltb 1 x) (any_of (ltb 1) l) h))

-- it is one more
pub lost_too-count : (map : List ℕ) (p : ℕ) → p < length map → get_or map p 0 ≡ 0 → tally 1 (lost_too map p) ≡ suc (tally 1 map)
lost_too-count map p h e = tally-lost (lost_too map p) ∙ go map p h e ∙ ap suc (sym (tally-lost map))
  where
    go : (map : List ℕ) (p : ℕ) → p < length map → get_or map p 0 ≡ 0 → lost_in (lost_too map p) ≡ suc (lost_in map)
    go [] p h e = absurd (omega arith)
    go (x ∷ l) zero h e = rw e
    go (x ∷ l) (suc p) h e = let k = go l p (omega arith) e in by_bool (eqb x 1) (λ z. rw (z, lost_in) (omega arith)) (λ z. rw (z, lost_in) k)

-- what isn't lost then wasn't lost
pub lost_too-known : (map : List ℕ) (p q : ℕ) → is_lost (lost_too map p) q ≡ false → is_lost map q ≡ false
lost_too-known [] p q h = h
lost_too-known (x ∷ l) zero zero h = absurd (true≢false h)
lost_too-known (x ∷ l) zero (suc q) h = h
lost_too-known (x ∷ l) (suc p) zero h = h
lost_too-known (x ∷ l) (suc p) (suc q) h = lost_too-known l p q h

-- a place that is known, marked 3, is known
pub mark-three : (map : List ℕ) (p q : ℕ) → is_lost map p ≡ false → is_lost (set map p 3) q ≡ is_lost map q
mark-three [] p q h = refl
mark-three (x ∷ l) zero zero h = sym h
mark-three (x ∷ l) zero (suc q) h = refl
mark-three (x ∷ l) (suc p) zero h = refl
mark-three (x ∷ l) (suc p) (suc q) h = mark-three l p q h

-- one place less is marked 2, and as many are lost
pub three-restored : (map : List ℕ) (p : ℕ) → get_or map p 0 ≡ 2 → tally 2 map ≡ suc (tally 2 (set map p 3))
three-restored [] p h = absurd (omega arith)
three-restored (x ∷ l) zero h = rw h
three-restored (x ∷ l) (suc p) h = let k = three-restored l p h in by_bool (eqb 2 x) (λ z. rw (z, filter) (ap suc k)) (λ z. rw (z, filter) k)

pub three-lost : (map : List ℕ) (p : ℕ) → get_or map p 0 ≡ 2 → tally 1 (set map p 3) ≡ tally 1 map
three-lost [] p h = refl
three-lost (x ∷ l) zero h = rw h
three-lost (x ∷ l) (suc p) h = let k = three-lost l p h in by_bool (eqb 1 x) (λ z. rw (z, filter) (ap suc k)) (λ z. rw (z, filter) k)

-- what stays lost once a suspect is marked lost too is the largest stopping set among the places that were lost without it
pub stays-without : (t b map : List ℕ) (p : ℕ) → length map ≡ places t → Suspect t b map p → Largest t map (is_lost (outcome t b (lost_too map p)).map)
stays-without t b map p long s = record {
  among = record { stopping = l.among.stopping; lost = λ q e. other q (l.among.lost q e) (λ z. true≢false (sym e ∙ ap (is_lost (outcome t b (lost_too map p)).map) z ∙ s.restored)) };
  holds = λ S a. l.holds S (record { stopping = a.stopping; lost = λ q e. more q (a.lost q e) });
}
  where
    l : Largest t (lost_too map p) (is_lost (outcome t b (lost_too map p)).map)
    l = stays-lost t b (lost_too map p) (length-set map p 1 ∙ long)

    other : (q : ℕ) → is_lost (lost_too map p) q ≡ true → q ≢ p → is_lost map q ≡ true
    other q e n = ap (λ x. eqb x 1) (sym (get_or-set_other map p q 1 0 n)) ∙ e

    more : (q : ℕ) → is_lost map q ≡ true → is_lost (lost_too map p) q ≡ true
    more q e = by_bool (is_lost (lost_too map p) q) (λ k. k) (λ k. absurd (true≢false (sym e ∙ lost_too-known map p q k)))

-- where the old repair contradicts, a suspect is restored to another packet than was received: else that packet would have contradicted too
pub suspect-changes : (t b map : List ℕ) (p : ℕ) → refusal t ≡ 0 → length b ≡ places t * size t → length map ≡ places t → agreeing t b map ≡ false → Suspect t b map p
    → get_or (outcome t b (lost_too map p)).block p [] ≢ get_or (packets (size t) (places t) b) p []
suspect-changes t b map p ok fits long bad s kept = true≢false (sym agrees ∙ bad)
  where
    agree : (q : ℕ) → q < places t → is_lost map q ≡ false → get_or (packets (size t) (places t) b) q [] ≡ get_or (outcome t b (lost_too map p)).block q []
    agree q h e = by_bool (eqb q p)
        (λ z. subst (λ x. get_or (packets (size t) (places t) b) x [] ≡ get_or (outcome t b (lost_too map p)).block x []) (sym (eqb-true q p z)) (sym kept))
        (λ z. sym (received-kept (places t) (size t) (checks t) (packets (size t) (places t) b) (lost_too map p) q
        (ap (λ x. eqb x 1) (get_or-set_other map p q 1 0 (eqb-false q p z)) ∙ e)))

    agrees : agreeing t b map ≡ true
    agrees = near-agrees (places t) (size t) (checks t) (accepted t ok).low
        (outcome t b (lost_too map p)).block (outcome-length t b (lost_too map p) ok fits) (outcome-sized t b (lost_too map p) ok fits)
        (packets (size t) (places t) b) map (packets-length (size t) (places t) b) agree
        (is_lost (outcome t b (lost_too map p)).map) (stays-without t b map p long s).among.stopping (stays-without t b map p long s).among.lost
        (sums-of (size t) (outcome t b (lost_too map p)) (checks t) s.agrees)

-- ---- "Old bytes at lost places never count": blocks with the same packets at every place that isn't lost
module _ (t b c map : List ℕ) (same : AgreeThere t b map c) where
  pub suspect-alike : (p : ℕ) → suspect t b map p ≡ suspect t c map p
  suspect-alike p = ap (λ m. eqb (get_or map p 0) 0 && (not (is_lost m.map p) && consistent (size t) (checks t) m))
      (old-bytes t b c (lost_too map p) (λ q h e. same q h (lost_too-known map p q e)))

  pub only-alike : only_suspect t b map ≡ only_suspect t c map
  only-alike = ap only_one (filter_same (suspect t b map) (suspect t c map) (all_of suspect-alike (from 0 (places t))))

  pub blamed-alike : blamed t b map ≡ blamed t c map
  blamed-alike = by_bool (agreeing t b map)
      (λ e. agreed-none t b map e ∙ sym (agreed-none t c map (sym agree ∙ e)))
      (λ e. contradicted-only t b map e ∙ only-alike ∙ sym (contradicted-only t c map (sym agree ∙ e)))
    where
      agree : agreeing t b map ≡ agreeing t c map
      agree = ap (consistent (size t) (checks t)) (old-bytes t b c map same)
