-- The loop over the places.
use mathlib.Core.Path.{◌≡◌, sym, ap, ap₂, ◌∙◌}
use mathlib.Core.Bool.{true, false}
use mathlib.Core.List.{List}
use Prim.Native.Nat.{ℕ, ◌+◌, ◌*◌, ◌<◌}
use native.Mathlib.Omega.{arith}
use lib.Dec.{ltb}
use lib.ListN.{get_or, set}
use Rattle.entering.specs.Entering.{Entry, entry, mark_of, packet_of, carried_mark, entry_at}
use Rattle.entering.specs.EnteredLaws.{sized, parts-long}
use Rattle.erasure.specs.Offered.{held}
use Rattle.lists.specs.Lists.{written}
use Rattle.packets.specs.Filling.{Sized, Filled, one-filled}
use Rattle.table.specs.PacketCall.{part_at}
use Rattle.table.specs.PacketLaws.{packet-at}

-- ---- the loop
module _ (n k s : ℕ) (block₀ map₀ arrivals arrived : List ℕ) where
  -- what place p comes to
  abbrev pub comes : ℕ → Entry
  comes p = entry_at s n (held block₀ map₀) (held arrivals arrived) p

  -- the places below p are entered
  abbrev pub Entered : ℕ → List ℕ → List ℕ → Type 0
  Entered p block map = Filled k s (λ q. packet_of s (comes q)) (λ q. mark_of (comes q)) block₀ map₀ p block map

  module _ (p : ℕ) (block map : List ℕ) (d : Entered p block map) (inside : p < k) (mark : ℕ) (is : mark ≡ carried_mark n map p) where
    -- place p is still as it was carried
    same-entry : comes p ≡ entry mark (get_or arrived p 0) (part_at s p block) (part_at s p arrivals)
    same-entry = sym (ap₂ (λ a x. entry a (get_or arrived p 0) x (part_at s p arrivals))
        (is ∙ ap (λ a. elim (ltb p n) [ true ↦ a | false ↦ 1 ]) (d.marks-rest p (omega arith)))
        (sym (packet-at s k block p inside) ∙ d.packets-rest p (omega arith) ∙ packet-at s k block₀ p inside))

    -- and then is entered
    pub entered-more : Sized k s block₀ map₀ → Sized k s arrivals arrived → (e : List ℕ) (v : ℕ)
        → v ≡ mark_of (entry mark (get_or arrived p 0) (part_at s p block) (part_at s p arrivals))
        → e ≡ written block (p * s) (packet_of s (entry mark (get_or arrived p 0) (part_at s p block) (part_at s p arrivals))) → Entered (p + 1) e (set map p v)
    entered-more z y e v a b = one-filled k s (λ q. packet_of s (comes q)) (λ q. mark_of (comes q)) block₀ map₀ p block map d inside e v
        (b ∙ ap (λ x. written block (p * s) (packet_of s x)) (sym same-entry))
        (sized s n k (held block₀ map₀) (held arrivals arrived) (parts-long s n k (held block₀ map₀) z.bytes) y.bytes p inside)
        (a ∙ ap mark_of (sym same-entry))
