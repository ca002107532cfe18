-- "All packets received so far": where they agree with one codeword there are such a block and map.
use Rattle.std.specs.Prelude.{◌≡◌, true, List, ◌≢◌, ◌⊎◌, ℕ, ◌*◌, ◌<◌, ◌≤◌, ltb, length, get_or}
use Rattle.std.proofs.Common.{sym, ◌∙◌, subst, ⊎_elim, inl, inr, arith, le-ltb}
use Rattle.entering.specs.EnteredLaws.{marks-length, mark-at, entered-length, entered-part}
use Rattle.entering.specs.Entering.{Entry, mark_of, packet_of, carried_mark, entry_at, entered}
use Rattle.entering.specs.EntryLaws.{carried-old, carried-new, by_cases}
use Rattle.erasure.specs.Offered.{Held, Fitting, Agree}
use Rattle.erasure.proofs.OfferedLaws.{bytes-all, byte_at}
use Rattle.erasure.proofs.PlaceByPlace.{part-sized}
use Rattle.lengthen.specs.Carrying.{SoFar}
use Rattle.lists.specs.ListLaws.{all_map, any_none, map-all}
use Rattle.lists.specs.Numbers.{from_all}
use Rattle.lists.specs.Tests.{side}
use Rattle.longer.specs.Longer.{lengthens, Lengthens}
use Rattle.longer.specs.LongerLaws.{lengthens-facts}
use Rattle.table.specs.PacketCall.{part_at}
use Rattle.table.specs.Table.{places, size, refusal}

-- the arrivals entered into what was received at first
abbrev pub so_far : List ℕ → List ℕ → Held → Held → Held
so_far old new first arrivals = entered (size new) (places old) first arrivals (places new)

module _ (old new : List ℕ) (first arrivals : Held) (w : List ℕ) (good : refusal new ≡ 0) (longer : lengthens old new ≡ true) (offered : Fitting old first.block first.map)
    (wide : length arrivals.block ≡ places new * size new)
    (right : Agree old first.block first.map w) (arrive : Agree new arrivals.block arrivals.map w) where
  l : Lengthens old new
  l = lengthens-facts old new longer

  -- what place p comes to
  abbrev mark₀ : ℕ → ℕ
  mark₀ p = carried_mark (places old) first.map p

  abbrev at : ℕ → Entry
  at p = entry_at (size new) (places old) first arrivals p

  low : (p : ℕ) → mark₀ p ≤ 1
  low p = ⊎_elim
      (λ h. let m = byte_at (bytes-all first.map offered.map-bytes) p in let e = carried-old (places old) first.map p h in omega arith)
      (λ h. let e = carried-new (places old) first.map p h in omega arith)
      (side p (places old))

  -- a place that isn't lost was received at first
  received : (p : ℕ) → mark₀ p ≢ 1 → (p < places old) × (get_or first.map p 0 ≡ 0)
  received p n = ⊎_elim
      (λ h. let m = low p in let e = carried-old (places old) first.map p h in (h, omega arith))
      (λ h. absurd (n (carried-new (places old) first.map p h)))
      (side p (places old))

  long : (p : ℕ) → p < places new → mark₀ p ≢ 1 → length (part_at (size new) p first.block) ≡ size new
  long p h n = subst (λ s. length (part_at s p first.block) ≡ s) l.same_size (part-sized (places old) (size old) first.block offered.block p (received p n).0)

  right_new : (p : ℕ) → p < places old → get_or first.map p 0 ≡ 0 → part_at (size new) p first.block ≡ part_at (size new) p w
  right_new p h e = subst (λ s. part_at s p first.block ≡ part_at s p w) l.same_size (right p h e)

  mark-is : (p : ℕ) → p < places new → get_or (so_far old new first arrivals).map p 0 ≡ mark_of (at p)
  mark-is = mark-at (size new) (places old) (places new) first arrivals

  part-is : (p : ℕ) → p < places new → part_at (size new) p (so_far old new first arrivals).block ≡ packet_of (size new) (at p)
  part-is = entered-part (size new) (places old) (places new) first arrivals long wide

  cases : (p : ℕ) (P : Entry → Type 0) → (mark₀ p ≢ 1 → P (Entry.known (mark₀ p) (part_at (size new) p first.block))) → (mark₀ p ≡ 1 → get_or arrivals.map p 0 ≡ 0 → P (Entry.arrived (part_at (size new) p arrivals.block)))
      → (mark₀ p ≡ 1 → get_or arrivals.map p 0 ≢ 0 → P Entry.missing) → P (at p)
  cases p P = by_cases (mark₀ p) (get_or arrivals.map p 0) (part_at (size new) p first.block) (part_at (size new) p arrivals.block) P

  -- a place that was received, at first or since, has mark 0 and the word's packet
  has_word : (p : ℕ) → p < places new → (mark₀ p ≡ 0) ⊎ (get_or arrivals.map p 0 ≡ 0)
      → (get_or (so_far old new first arrivals).map p 0 ≡ 0) × (part_at (size new) p (so_far old new first arrivals).block ≡ part_at (size new) p w)
  has_word p h got =
      let r = cases p (λ e. (mark₀ p ≡ 0) ⊎ (get_or arrivals.map p 0 ≡ 0) → (mark_of e ≡ 0) × (packet_of (size new) e ≡ part_at (size new) p w))
      (λ n g. let m = low p in let z = received p n in (omega arith, right_new p z.0 z.1))
      (λ e a g. (omega arith, arrive p h a))
      (λ e n g. absurd (⊎_elim (λ z. omega arith) (λ z. n z) g)) got in
      (mark-is p h ∙ r.0, part-is p h ∙ r.1)

  pub so-far-is : SoFar old new first arrivals (so_far old new first arrivals)
  so-far-is = record {
    fits = record {
      table = good;
      block = entered-length (size new) (places old) (places new) first arrivals long wide;
      map-length = marks-length (size new) (places old) (places new) first arrivals;
      map-bytes = any_none (ltb 1) (map-all (λ p. mark_of (at p)) (all_map (λ p h. le-ltb 1 (mark_of (at p))
          (cases p (λ e. mark_of e ≤ 1) (λ n. low p) (λ e a. omega arith) (λ e n. omega arith))) (from_all 0 (places new))));
    };
    from_first = λ p h e.
        let inside : p < places new = omega (arith, l.more-places) in
        let r = has_word p inside (inl (carried-old (places old) first.map p h ∙ e)) in (r.0, r.1 ∙ sym (right_new p h e));
    from-arrivals = λ p h e. let r = has_word p h (inr e) in (r.0, r.1 ∙ sym (arrive p h e));
    no_other = λ p h e. cases p (λ x. mark_of x ≡ 0 → ((p < places old) × (get_or first.map p 0 ≡ 0)) ⊎ (get_or arrivals.map p 0 ≡ 0))
        (λ n z. inl (received p n)) (λ y a z. inr a) (λ y n z. absurd (omega arith)) (sym (mark-is p h) ∙ e);
  }
