-- Lengthening twice is lengthening once: of calls, where all packets received are one codeword's.
use Rattle.std.specs.Prelude.{◌≡◌, refl, false, List, ℕ, zero, suc, ◌*◌, ◌<◌, ◌≤◌, eqb, length, get_or}
use Rattle.std.proofs.Common.{sym, ap, ◌∙◌, subst, ⊎_elim, arith, ext_get_or}
use Rattle.erasure.specs.Offered.{Held, Fitting, Agree}
use Rattle.erasure.proofs.OfferedLaws.{bytes-all, byte_at, agree-there}
use Rattle.erasure.proofs.OldBytes.{old-bytes}
use Rattle.erasure.specs.Restoring.{AgreeThere, outcome, is_lost, State}
use Rattle.lengthen.specs.AsIfFresh.{AsIfFresh, as-if-fresh, carried-again}
use Rattle.lengthen.specs.Carrying.{Carried, SoFar, Grown}
use Rattle.lengthen.specs.FirstPackets.{first_of, first_part, first-codeword, first-agrees, so-far-agrees}
use Rattle.lengthen.specs.Lengthen.{carried_over, lengthen_refusal, lengthen_after, LengthenFitting}
use Rattle.lengthen.specs.Received.{so_far, so-far-is}
use Rattle.longer.specs.Longer.{Lengthens}
use Rattle.longer.specs.LongerLaws.{lengthens-facts, lengthens-twice}
use Rattle.table.specs.Codewords.{IsCodeword}
use Rattle.table.specs.PacketCall.{part_at}
use Rattle.table.specs.Packets.{joined}
use Rattle.table.specs.Table.{places, size}

-- what is grown can be carried over as well
pub grown-carried : (old : List ℕ) (short long first : Held) → Carried old short first → Grown old short long → Carried old long first
grown-carried old short long first was grown = record {
  lost = λ p h. ap (λ x. eqb x 1) (grown.marks p h) ∙ was.lost p h;
  packet = λ p h e. grown.packets p h ∙ was.packet p h (sym (ap (λ x. eqb x 1) (grown.marks p h)) ∙ e);
}

-- none of the three calls is refused, and two leave the block and the lost places that one leaves
pub record TwiceOnce (old mid new : List ℕ) (carried arrivals₁ grown arrivals₂ once both : Held) : Type 0 where
  pub first-accepted : lengthen_refusal old mid carried arrivals₁ ≡ 0
  pub then-accepted : lengthen_refusal mid new grown arrivals₂ ≡ 0
  pub once-accepted : lengthen_refusal old new once both ≡ 0
  pub block : (lengthen_after mid new grown arrivals₂).block ≡ (lengthen_after old new once both).block
  pub lost : (p : ℕ) → is_lost (lengthen_after mid new grown arrivals₂).map p ≡ is_lost (lengthen_after old new once both).map p

-- two marks of 0 and 1
same-mark : (a b : ℕ) → a ≤ 1 → b ≤ 1 → (a ≡ 0 → b ≡ 0) → (b ≡ 0 → a ≡ 0) → a ≡ b
same-mark zero b h k f g = sym (f refl)
same-mark (suc a) zero h k f g = g refl
same-mark (suc a) (suc b) h k f g = omega arith

-- old to mid with the first arrivals, grown, and mid to new with the second; or old to new with both at once
module _ (old mid new : List ℕ) (first : Held) (w : List ℕ) (word : IsCodeword new w) (offered : Fitting old first.block first.map) (right : Agree old first.block first.map w)
    (carried arrivals₁ : Held) (f : LengthenFitting old mid carried arrivals₁) (was₁ : Carried old carried first) (arrive₁ : Agree mid arrivals₁.block arrivals₁.map w)
    (grown arrivals₂ : Held) (g : LengthenFitting mid new grown arrivals₂) (grows : Grown mid (lengthen_after old mid carried arrivals₁) grown) (arrive₂ : Agree new arrivals₂.block arrivals₂.map w)
    (once both : Held) (bytes : length once.block ≡ places new * size new) (marks : length once.map ≡ places new) (low : carried_over old new once both ≡ false)
    (was₂ : Carried old once first) (together : SoFar mid new arrivals₁ arrivals₂ both) where
  l₁ : Lengthens old mid
  l₁ = lengthens-facts old mid f.longer

  l₂ : Lengthens mid new
  l₂ = lengthens-facts mid new g.longer

  -- ---- the first call, by the word's first packets
  mid-word : IsCodeword mid (first_of mid w)
  mid-word = first-codeword mid new w f.new-table l₂ word

  right-mid : Agree old first.block first.map (first_of mid w)
  right-mid p i e = right p i e ∙ sym (subst (λ s. part_at s p (first_of mid w) ≡ part_at s p w) (sym l₁.same_size) (first_part mid w p (omega (arith, l₁.more-places))))

  arrive-mid : Agree mid arrivals₁.block arrivals₁.map (first_of mid w)
  arrive-mid = first-agrees mid arrivals₁.block arrivals₁.map w arrive₁

  abbrev all₁ : Held
  all₁ = so_far old mid first arrivals₁

  so-far₁ : SoFar old mid first arrivals₁ all₁
  so-far₁ = so-far-is old mid first arrivals₁ (first_of mid w) f.new-table f.longer offered f.arrivals-length right-mid arrive-mid

  then-mid : AsIfFresh old mid carried arrivals₁ all₁
  then-mid = as-if-fresh old mid carried arrivals₁ first (first_of mid w) f mid-word offered right-mid was₁ arrive-mid all₁ so-far₁

  carried-mid : Carried mid grown all₁
  carried-mid = grown-carried mid (lengthen_after old mid carried arrivals₁) grown all₁ (carried-again old mid carried arrivals₁ first (first_of mid w) f mid-word offered right-mid was₁ arrive-mid all₁ so-far₁) grows

  -- ---- the second
  right₂ : Agree mid all₁.block all₁.map w
  right₂ p i e = so-far-agrees old mid first arrivals₁ all₁ (first_of mid w) l₁.same_size so-far₁ right-mid arrive-mid p i e ∙ first_part mid w p i

  abbrev all₂ : Held
  all₂ = so_far mid new all₁ arrivals₂

  so-far₂ : SoFar mid new all₁ arrivals₂ all₂
  so-far₂ = so-far-is mid new all₁ arrivals₂ w g.new-table g.longer so-far₁.fits g.arrivals-length right₂ arrive₂

  twice : AsIfFresh mid new grown arrivals₂ all₂
  twice = as-if-fresh mid new grown arrivals₂ all₁ w g word so-far₁.fits right₂ carried-mid arrive₂ all₂ so-far₂

  -- ---- one call: lengthening twice is lengthening once
  h : LengthenFitting old new once both
  h = record {
    old-table = f.old-table;
    new-table = g.new-table;
    block-length = bytes;
    map-length = marks;
    arrivals-length = together.fits.block;
    arrived-length = together.fits.map-length;
    longer = lengthens-twice old mid new f.longer g.longer;
    carried-bytes = low;
    arrived-bytes = together.fits.map-bytes;
  }

  arrive-both : Agree new both.block both.map w
  arrive-both = so-far-agrees mid new arrivals₁ arrivals₂ both w l₂.same_size together arrive₁ arrive₂

  abbrev all₃ : Held
  all₃ = so_far old new first both

  so-far₃ : SoFar old new first both all₃
  so-far₃ = so-far-is old new first both w g.new-table h.longer offered h.arrivals-length right arrive-both

  at_once : AsIfFresh old new once both all₃
  at_once = as-if-fresh old new once both first w h word offered right was₂ arrive-both all₃ so-far₃

  -- ---- the same was received
  then-once : (p : ℕ) → p < places new → get_or all₂.map p 0 ≡ 0 → get_or all₃.map p 0 ≡ 0
  then-once p i e = ⊎_elim
      (λ r. ⊎_elim
      (λ q. (so-far₃.from_first p q.0 q.1).0)
      (λ q. (so-far₃.from-arrivals p i (together.from_first p r.0 q).0).0)
      (so-far₁.no_other p r.0 r.1))
      (λ r. (so-far₃.from-arrivals p i (together.from-arrivals p i r).0).0)
      (so-far₂.no_other p i e)

  then-twice : (p : ℕ) → p < places new → get_or all₃.map p 0 ≡ 0 → get_or all₂.map p 0 ≡ 0
  then-twice p i e = ⊎_elim
      (λ r. let inside : p < places mid = let k = r.0 in omega (arith, l₁.more-places) in (so-far₂.from_first p inside (so-far₁.from_first p r.0 r.1).0).0)
      (λ r. ⊎_elim
      (λ q. (so-far₂.from_first p q.0 (so-far₁.from-arrivals p q.0 q.1).0).0)
      (λ q. (so-far₂.from-arrivals p i q).0)
      (together.no_other p i r))
      (so-far₃.no_other p i e)

  same_map : all₂.map ≡ all₃.map
  same_map = ext_get_or 0 all₂.map all₃.map (so-far₂.fits.map-length ∙ sym so-far₃.fits.map-length)
      (λ p k. let i : p < places new = subst (λ j. p < j) so-far₂.fits.map-length k in
      same-mark _ _ (byte_at (bytes-all all₂.map so-far₂.fits.map-bytes) p) (byte_at (bytes-all all₃.map so-far₃.fits.map-bytes) p) (then-once p i) (then-twice p i))

  same-packets-there : AgreeThere new all₂.block all₃.map all₃.block
  same-packets-there p i e =
      agree-there new all₂.block all₂.map so-far₂.fits w (so-far-agrees mid new all₁ arrivals₂ all₂ w l₂.same_size so-far₂ right₂ arrive₂) p i (ap (λ m. is_lost m p) same_map ∙ e)
      ∙ sym (agree-there new all₃.block all₃.map so-far₃.fits w (so-far-agrees old new first both all₃ w (l₁.same_size ∙ l₂.same_size) so-far₃ right arrive-both) p i e)

  same_outcome : outcome new all₂.block all₂.map ≡ outcome new all₃.block all₃.map
  same_outcome = ap (outcome new all₂.block) same_map ∙ old-bytes new all₂.block all₃.block all₃.map same-packets-there

  -- so the end is the same
  pub twice-once : TwiceOnce old mid new carried arrivals₁ grown arrivals₂ once both
  twice-once = record {
    first-accepted = then-mid.not-refused;
    then-accepted = twice.not-refused;
    once-accepted = at_once.not-refused;
    block = twice.block ∙ ap (λ (m : State). joined m.block) same_outcome ∙ sym at_once.block;
    lost = λ p. twice.lost p ∙ ap (λ (m : State). is_lost m.map p) same_outcome ∙ sym (at_once.lost p);
  }
