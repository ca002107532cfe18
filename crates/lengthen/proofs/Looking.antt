-- The causes before 8 in their order, each with what the code found before it.
use mathlib.Core.Path.{◌≡◌, sym, ap, ap₂, ◌∙◌}
use mathlib.Core.Bool.{Bool, true, false, ◌||◌}
use mathlib.Core.List.{List}
use Prim.Native.Nat.{ℕ, ◌*◌, ◌≤◌}
use native.Mathlib.Omega.{arith}
use lib.Dec.{ltb}
use lib.ListN.{length, take}
use Rattle.erasure.specs.Offered.{Held, wrong_lengths, byte_over}
use Rattle.erasure.proofs.OfferedLaws.{lengths-fit}
use Rattle.lengthen.specs.Lengthen.{wrong_either, carried_over, own_causes, offer_causes}
use Rattle.lengthen.specs.LengthenLaws.{at_own}
use Rattle.lists.specs.Lists.{any_of}
use Rattle.lists.specs.Tests.{or_l, or_r, or-neither}
use Rattle.longer.specs.Longer.{lengthens}
use Rattle.longer.specs.LongerLaws.{lengthens-facts}
use Rattle.table.specs.Accepted.{Accepted}
use Rattle.table.specs.FirstCause.{first_cause, wrong_length}

module _ (old new : List ℕ) (carried arrivals : Held) (m k r m' n s : ℕ) (a : Accepted old m k r) (z : Accepted new m' n s) where
  own : first_cause (offer_causes old new carried arrivals) ≡ first_cause (own_causes old new carried arrivals)
  own = at_own old new carried arrivals a.accepted z.accepted

  -- v is what the code finds of the lengths of h
  abbrev Compared : Held → Bool → Type 0
  Compared h v = v ≡ (wrong_length (length h.block) (n * s) || wrong_length (length h.map) n)

  wrong-is : (h : Held) (v : Bool) → Compared h v → wrong_lengths new h.block h.map ≡ v
  wrong-is h v e = sym (e ∙ ap₂ (λ x y. wrong_length (length h.block) (x * y) || wrong_length (length h.map) x) z.places-are z.size_is)

  -- 5 by what is carried, or by the arrivals
  five : wrong_either old new carried arrivals ≡ true → 5 ≡ first_cause (offer_causes old new carried arrivals)
  five w = sym (own ∙ rw w)

  pub five-carried : (v : Bool) → Compared carried v → v ≡ true → 5 ≡ first_cause (offer_causes old new carried arrivals)
  five-carried v e y = five (or_l (wrong_lengths new carried.block carried.map) _ (wrong-is carried v e ∙ y))

  pub five-arrivals : (v : Bool) → Compared arrivals v → v ≡ true → 5 ≡ first_cause (offer_causes old new carried arrivals)
  five-arrivals v e y = five (or_r (wrong_lengths new carried.block carried.map) _ (wrong-is arrivals v e ∙ y))

  module _ (u v : Bool) (e₁ : Compared carried u) (e₂ : Compared arrivals v) (y₁ : u ≡ false) (y₂ : v ≡ false) where
    none-wrong : wrong_either old new carried arrivals ≡ false
    none-wrong = or-neither (wrong_lengths new carried.block carried.map) _ (wrong-is carried u e₁ ∙ y₁) (wrong-is arrivals v e₂ ∙ y₂)

    pub fifteen : (l : Bool) → l ≡ lengthens old new → l ≡ false → 15 ≡ first_cause (offer_causes old new carried arrivals)
    fifteen l e y = sym (own ∙ rw (none-wrong, sym e ∙ y))

    module _ (l : Bool) (long : l ≡ lengthens old new) (yes : l ≡ true) where
      longer : lengthens old new ≡ true
      longer = sym long ∙ yes

      -- the old places are the map's first
      pub inside : (k ≤ length carried.map) × (length carried.map ≡ n)
      inside =
          let long-map = (lengths-fit new carried.block carried.map (wrong-is carried u e₁ ∙ y₁)).1 in
          (omega (arith, (lengthens-facts old new longer).more-places, a.places-are), long-map ∙ sym z.places-are)

      over-is : (o : Bool) → o ≡ any_of (ltb 2) (take k carried.map) → carried_over old new carried arrivals ≡ o
      over-is o e = sym (e ∙ ap (λ j. any_of (ltb 2) (take j carried.map)) a.places-are)

      pub sixteen : (o : Bool) → o ≡ any_of (ltb 2) (take k carried.map) → o ≡ true → 16 ≡ first_cause (offer_causes old new carried arrivals)
      sixteen o e y = sym (own ∙ rw (none-wrong, longer, over-is o e ∙ y))

      module _ (o : Bool) (e : o ≡ any_of (ltb 2) (take k carried.map)) (y : o ≡ false) (v₇ : Bool) (f : v₇ ≡ byte_over arrivals.map) where
        pub seven : v₇ ≡ true → 7 ≡ first_cause (offer_causes old new carried arrivals)
        seven q = sym (own ∙ rw (none-wrong, longer, over-is o e ∙ y, sym f ∙ q))

        pub none-holds : v₇ ≡ false → 0 ≡ first_cause (offer_causes old new carried arrivals)
        none-holds q = sym (own ∙ rw (none-wrong, longer, over-is o e ∙ y, sym f ∙ q))
