-- "Old bytes at lost places never count": two blocks with the same received packets come to the same.
use Rattle.std.specs.Prelude.{◌≡◌, refl, Bool, true, false, cond, List, [], ◌∷◌, ℕ, suc, ◌<◌, eqb, length, get_or, replicate}
use Rattle.std.proofs.Common.{sym, ap, ap₂, ◌∙◌, arith}
use Rattle.table.specs.PacketLaws.{packets-length, packet-at}
use Rattle.table.specs.Packets.{packets}
use Rattle.table.specs.Table.{places, size, checks}
use Rattle.erasure.specs.Restoring.{is_lost, restoring, zero_lost, outcome, AgreeThere}

-- a packet that is lost, or the same in both
packet-alike : (lost : Bool) (z x y : List ℕ) → (lost ≡ false → x ≡ y) → cond lost z x ≡ cond lost z y
packet-alike true z x y h = refl
packet-alike false z x y h = h refl

-- once lost places are zero, the blocks are the same
pub zero-alike : (s : ℕ) (map : List ℕ) (b c : List (List ℕ)) → length b ≡ length c
    → ((p : ℕ) → p < length b → is_lost map p ≡ false → get_or b p [] ≡ get_or c p []) → zero_lost s map b ≡ zero_lost s map c
zero-alike s [] [] [] l h = refl
zero-alike s [] [] (y ∷ c) l h = absurd (omega arith)
zero-alike s [] (x ∷ b) [] l h = absurd (omega arith)
zero-alike s [] (x ∷ b) (y ∷ c) l h = ap₂ ◌∷◌ (h 0 (omega arith) refl) (zero-alike s [] b c (omega arith) (λ p k e. h (suc p) (omega arith) refl))
zero-alike s (m ∷ ms) [] [] l h = refl
zero-alike s (m ∷ ms) [] (y ∷ c) l h = absurd (omega arith)
zero-alike s (m ∷ ms) (x ∷ b) [] l h = absurd (omega arith)
zero-alike s (m ∷ ms) (x ∷ b) (y ∷ c) l h = ap₂ ◌∷◌
    (packet-alike (eqb m 1) (replicate s 0) x y (λ e. h 0 (omega arith) e))
    (zero-alike s ms b c (omega arith) (λ p k e. h (suc p) (omega arith) e))

module _ (t b c map : List ℕ) (same : AgreeThere t b map c) where
  -- before the first turn
  pub old-bytes-cleared : zero_lost (size t) map (packets (size t) (places t) b) ≡ zero_lost (size t) map (packets (size t) (places t) c)
  old-bytes-cleared = zero-alike (size t) map (packets (size t) (places t) b) (packets (size t) (places t) c)
      (packets-length (size t) (places t) b ∙ sym (packets-length (size t) (places t) c))
      (λ p k e. let q : p < places t = omega (arith, packets-length (size t) (places t) b) in
      packet-at (size t) (places t) b p q ∙ same p q e ∙ sym (packet-at (size t) (places t) c p q))

  -- and after the last
  pub old-bytes : outcome t b map ≡ outcome t c map
  old-bytes = ap (λ x. restoring (places t) (size t) (checks t) (record { block = x; map = map; adds = 0 })) old-bytes-cleared
