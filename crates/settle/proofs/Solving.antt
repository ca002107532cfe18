-- Elimination, and every led place settled: block and map are those of the definitions.
use mathlib.Core.Path.{◌≡◌, refl, sym, ap, ap₂, ◌∙◌, subst}
use mathlib.Core.Bool.{true, false, not, cond, true≢false}
use mathlib.Core.List.{List, [], ◌∷◌, map}
use Prim.Native.Nat.{ℕ, ◌+◌, ◌-◌, ◌*◌, ◌<◌}
use native.Mathlib.Omega.{arith}
use lib.Bits.{bit_xor}
use lib.ListN.{length, get_or}
use lib.Seq.{ext_get_or}
use Rattle.lists.specs.ListLaws.{all_map}
use Rattle.lists.specs.Lists.{All, All.cons}
use Rattle.lists.specs.Tests.{by_bool, eqb-true}
use Rattle.gf2.specs.EchelonLaws.{bit-nonzero, path-low}
use Rattle.gf2.specs.Gf2.{Lead, is_zero, xor_group, sum_over, path}
use Rattle.gf2.specs.Pairs.{pair_group, pairs_of}
use Rattle.gf2.specs.Span.{Within}
use Rattle.table.specs.PacketLaws.{packets-length, packets-sized, packets-joined, view, sum_view}
use Rattle.table.specs.Packets.{packets, joined, packet_sum}
use Rattle.table.specs.Table.{checks}
use Rattle.erasure.specs.Restoring.{is_lost}
use Rattle.bits.specs.Row.{row}
use Rattle.rows.specs.Leads.{leads, Owners}
use Rattle.rows.specs.LeadsLaws.{leads-none, leads-at, named, owners-lead}
use Rattle.decided.specs.Decided.{decided, value, clashes, packet_after, mark_after, solved_block, solved_map}
use Rattle.decided.specs.AfterLaws.{after-decided, after-lost, after-received, mark-decided, mark-lost, mark-received, solved-at, marks-at}
use Rattle.decided.proofs.AfterWords.{value-length}
use Rattle.decided.specs.Pairing.{byte_group, pair_of}
use Rattle.decided.proofs.EliminatedPairs.{echelon-calm, lead-decided, lead-value, free-lost}
use Rattle.decided.specs.Packed.{list_of-length}
use Rattle.decided.specs.Words.{Block}
use Rattle.eliminate.specs.Eliminating.{sums_at, without, vanishes, ZeroLost, Led, Eliminated, SettledAll, Solves}
use Rattle.eliminate.specs.EliminatingLaws.{none-sum, path-sum, sums-led}
use Rattle.settle.proofs.Settling.{settled-gone, settled-left}

-- rows that owner names lead their places
led-lead : {w owner : List ℕ} {n : ℕ} → Led w owner n → Lead (leads w owner)
led-lead {w} {owner} {n} led =
    let o : Owners w owner (length w) = record { room = led.room; apart = λ p e. let h = led.room p in omega arith; lead = led.lead } in
    owners-lead o

module _ {t : List ℕ} {n s : ℕ} {b lost w owner b₁ b' lost' : List ℕ} (bytes : length b ≡ n * s) (low : All (λ c. All (λ p. p < n) c) (checks t)) (zero : ZeroLost n s b lost)
    (e : Eliminated t n s b lost true w owner b₁) (d : SettledAll s n w owner b₁ lost b' lost') where
  abbrev cs : List (List ℕ)
  cs = checks t

  abbrev ps : List (List ℕ)
  ps = packets s n b

  abbrev f : ℕ → ℕ
  f = leads w owner

  abbrev v : ℕ → ℕ → ℕ
  v = sums_at s n owner b₁

  ok : Block n s cs ps
  ok = record { low = low; long = packets-length s n b; sized = packets-sized s n b bytes }

  lead : Lead f
  lead = led-lead e.led

  none : (p : ℕ) → is_zero (f p) ≡ true → v p ≡ byte_group.o
  none p = none-sum w owner s n b₁ e.led.lead p

  out : Within (pair_group xor_group byte_group) (pairs_of byte_group f v n) (map (pair_of s ps lost) cs)
  out = e.whole refl

  pub calm : clashes s cs ps lost ≡ false
  calm = echelon-calm n s cs ps ok lost lead v none out

  -- ---- one place
  module _ (p : ℕ) (h : p < n) where
    -- a place that isn't lost isn't led
    unled : is_lost lost p ≡ false → get_or owner p 0 ≡ 0
    unled l = named (get_or owner p 0) (λ z. z) (λ z. absurd (true≢false (sym (e.lost-led p z) ∙ l)))

    unled-packet : get_or owner p 0 ≡ 0 → get_or (packets s n b') p [] ≡ get_or ps p []
    unled-packet z = d.free-packet p h z ∙ e.kept p h z

    free : get_or owner p 0 ≡ 0 → decided lost cs p ≡ false
    free z = free-lost n s cs ps ok lost lead v none out e.within p h (ap is_zero (leads-none w owner p z))

    lead-nonzero : 0 < get_or owner p 0 → is_zero (f p) ≡ false
    lead-nonzero z =
        let i : p + 1 - 1 ≡ p = omega arith in
        ap is_zero (leads-at w owner p z) ∙ bit-nonzero p (row w (get_or owner p 0 - 1)) (rw i at ((e.led.lead p z).last (omega arith)))

    vanishes-is : 0 < get_or owner p 0 → vanishes f p ≡ decided lost cs p
    vanishes-is z = lead-decided n s cs ps ok lost lead v none out e.within p h (lead-nonzero z)

    -- the packet that is put together
    low-path : All (λ q. q < n) (p ∷ path f p (without f p))
    low-path = cons h (all_map (λ q l. less q l) (path-low f p (without f p)))
      where
        less : (q : ℕ) → q < p → q < n
        less q l = omega arith

    abbrev made : List ℕ
    made = packet_sum s (packets s n b₁) (p ∷ path f p (without f p))

    made-view : (length made ≡ s) × ((j : ℕ) → get_or made j 0 ≡ sum_over xor_group (view (packets s n b₁) j) (p ∷ path f p (without f p)))
    made-view = sum_view s (packets-sized s n b₁ e.bytes) {c = p ∷ path f p (without f p)} (all_map (λ q l. subst (λ u. q < u) (sym (packets-length s n b₁)) l) low-path)

    made-is : 0 < get_or owner p 0 → decided lost cs p ≡ true → made ≡ value s cs ps lost p
    made-is z t =
        ext_get_or 0 made (value s cs ps lost p) (made-view.0 ∙ sym (value-length n s cs ps ok lost p)) (λ j u.
        made-view.1 j ∙ ap₂ bit_xor (sym (sums-led s n owner b₁ p j z)) (sym (path-sum s n w owner b₁ p (without f p) j))
        ∙ sym (lead-value n s cs ps ok lost lead v none out e.within p h (vanishes-is z ∙ t) j))

    pub packet-is : get_or (packets s n b') p [] ≡ packet_after s cs ps lost p
    packet-is = by_bool (is_lost lost p)
        (λ l. named (get_or owner p 0)
        (λ z. unled-packet z ∙ zero.zero p h l ∙ sym (after-lost s cs ps lost p l (free z)))
        (λ z. d.led-packet p h z ∙ by_bool (decided lost cs p)
        (λ t. settled-gone s (packets s n b₁) f p (vanishes-is z ∙ t) ∙ made-is z t ∙ sym (after-decided s cs ps lost p l t))
        (λ t. settled-left s (packets s n b₁) f p (vanishes-is z ∙ t) ∙ sym (after-lost s cs ps lost p l t))))
        (λ l. unled-packet (unled l) ∙ sym (after-received s cs ps lost p l))

    pub mark-is : get_or lost' p 0 ≡ mark_after cs lost p
    mark-is = by_bool (is_lost lost p)
        (λ l. named (get_or owner p 0)
        (λ z. d.free-mark p h z ∙ eqb-true (get_or lost p 0) 1 l ∙ sym (mark-lost cs lost p l (free z)))
        (λ z. d.led-mark p h z ∙ by_bool (decided lost cs p)
        (λ t. ap (λ u. cond u 2 (get_or lost p 0)) (vanishes-is z ∙ t) ∙ sym (mark-decided cs lost p l t))
        (λ t. ap (λ u. cond u 2 (get_or lost p 0)) (vanishes-is z ∙ t) ∙ eqb-true (get_or lost p 0) 1 l ∙ sym (mark-lost cs lost p l t))))
        (λ l. d.free-mark p h (unled l) ∙ sym (mark-received cs lost p l))

    pub received_is : is_lost lost p ≡ false → get_or (packets s n b') p [] ≡ get_or ps p []
    received_is l = unled-packet (unled l)

  -- ---- all places
  pub block-solved : b' ≡ joined (solved_block n s cs ps lost)
  block-solved = sym (packets-joined s n b' d.bytes) ∙ ap joined (ext_get_or [] (packets s n b') (solved_block n s cs ps lost)
      (packets-length s n b' ∙ sym (list_of-length n (packet_after s cs ps lost)))
      (λ p u. let h : p < n = subst (λ k. p < k) (packets-length s n b') u in packet-is p h ∙ sym (solved-at n s cs ps lost p h)))

  pub map-solved : lost' ≡ solved_map n cs lost
  map-solved = ext_get_or 0 lost' (solved_map n cs lost)
      (d.marks ∙ sym (list_of-length n (mark_after cs lost)))
      (λ p u. let h : p < n = subst (λ k. p < k) d.marks u in mark-is p h ∙ sym (marks-at n cs lost p h))

  pub solved : Solves t n s b lost true b' lost'
  solved = record {
    agrees = sym (ap not calm);
    block-is = λ q. block-solved;
    map_is = λ q. map-solved;
    bytes = d.bytes;
    map-kept = λ q. absurd (true≢false q);
    received = λ p h l. received_is p h l;
  }

-- a clash
pub clashed : {t : List ℕ} {n s : ℕ} {b lost w owner b₁ : List ℕ} → Eliminated t n s b lost false w owner b₁ → Solves t n s b lost false b₁ lost
clashed {t} {n} {s} {b} {lost} {w} {owner} {b₁} e = record {
  agrees = sym (ap not (e.clash refl));
  block-is = λ q. absurd (true≢false (sym q));
  map_is = λ q. absurd (true≢false (sym q));
  bytes = e.bytes;
  map-kept = λ q. refl;
  received = λ p h l. e.kept p h (named (get_or owner p 0) (λ z. z) (λ z. absurd (true≢false (sym (e.lost-led p z) ∙ l))));
}
