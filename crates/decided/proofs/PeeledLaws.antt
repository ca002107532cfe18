-- Over a table's words, the old repair first: clashes, packets and marks afterwards are the same, and what it finds to contradict clashes.
use Rattle.std.specs.Prelude.{◌≡◌, true, false, List, [], ℕ, ◌*◌, ◌<◌, length, get_or, replicate}
use Rattle.std.proofs.Common.{sym, ◌∙◌, true≢false, arith}
use Rattle.decided.specs.AfterLaws.{after-decided, after-lost, after-received, mark-decided, mark-lost, mark-received}
use Rattle.decided.specs.Decided.{decided, value, clashes, packet_after, mark_after, solved_block, solved_map}
use Rattle.decided.specs.Peeling.{stays-received, peeling-block, peeling-same}
use Rattle.decided.proofs.PeelingFirst.{word-exists, same-clashes, same-decided, same-value, restored-decided, restored-value}
use Rattle.decided.specs.Words.{Block, Same}
use Rattle.erasure.specs.Restoring.{is_lost, outcome, agreeing}
use Rattle.erasure.proofs.RestoringLaws.{restoring-same, restoring-mark}
use Rattle.erasure.proofs.Values.{received-kept, left-zero, no-contradiction}
use Rattle.lists.specs.ListLaws.{all_map, map_same}
use Rattle.lists.specs.Numbers.{from_all}
use Rattle.lists.specs.Tests.{by_bool}
use Rattle.table.specs.PacketLaws.{packets-length, packets-sized}
use Rattle.table.specs.Packets.{packets}
use Rattle.table.specs.Table.{places, size, checks, refusal}
use Rattle.table.specs.TableLaws.{Good, accepted}

module _ (t b map : List ℕ) (ok : refusal t ≡ 0) (fits : length b ≡ places t * size t) where
  -- the packets that were handed in
  abbrev pub given : List (List ℕ)
  given = packets (size t) (places t) b

  good : Good t
  good = accepted t ok

  -- they are n packets of s bytes, and so are those after the old repair
  pub given-block : Block (places t) (size t) (checks t) given
  given-block = record { low = good.low; long = packets-length (size t) (places t) b; sized = packets-sized (size t) (places t) b fits }

  pub peeled-ok : Block (places t) (size t) (checks t) (outcome t b map).block
  peeled-ok = peeling-block (places t) (size t) (checks t) given map given-block

  -- with the same codewords that agree
  pub peeled-same : Same (places t) (size t) (checks t) given map (outcome t b map).block (outcome t b map).map
  peeled-same = peeling-same (places t) (size t) (checks t) given map given-block

  -- something clashes before just if after
  pub peeled-clashes : clashes (size t) (checks t) given map ≡ clashes (size t) (checks t) (outcome t b map).block (outcome t b map).map
  peeled-clashes = same-clashes (places t) (size t) (checks t) given (outcome t b map).block map (outcome t b map).map given-block peeled-ok peeled-same

  -- ---- what is still lost
  -- holds zero bytes
  pub still-zero : (p : ℕ) → p < places t → is_lost (outcome t b map).map p ≡ true → get_or (outcome t b map).block p [] ≡ replicate (size t) 0
  still-zero p h e = left-zero (places t) (size t) (checks t) given map p (omega (arith, packets-length (size t) (places t) b)) e

  -- ---- where nothing clashes
  module _ (calm : clashes (size t) (checks t) given map ≡ false) where
    module _ (p : ℕ) (h : p < places t) (e : is_lost map p ≡ true) where
      -- what is still lost is decided after the old repair just if before ..
      pub peeled-decided : is_lost (outcome t b map).map p ≡ true → decided map (checks t) p ≡ decided (outcome t b map).map (checks t) p
      peeled-decided k = same-decided (places t) (size t) (checks t) given (outcome t b map).block map (outcome t b map).map given-block peeled-ok peeled-same calm good.some_bytes p h e k

      -- .. with the same packet
      pub peeled-value : is_lost (outcome t b map).map p ≡ true → decided map (checks t) p ≡ true
          → value (size t) (checks t) given map p ≡ value (size t) (checks t) (outcome t b map).block (outcome t b map).map p
      peeled-value k d = same-value (places t) (size t) (checks t) given (outcome t b map).block map (outcome t b map).map given-block peeled-ok peeled-same calm good.some_bytes p h k d

      -- what the old repair restores is decided, with the same packet
      pub beyond-peeling : is_lost (outcome t b map).map p ≡ false → (decided map (checks t) p ≡ true) × (value (size t) (checks t) given map p ≡ get_or (outcome t b map).block p [])
      beyond-peeling r = (
        restored-decided (places t) (size t) (checks t) given (outcome t b map).block map (outcome t b map).map given-block peeled-ok peeled-same calm good.some_bytes p h e r,
        restored-value (places t) (size t) (checks t) given (outcome t b map).block map (outcome t b map).map given-block peeled-ok peeled-same calm good.some_bytes p h e r,
      )

    packet-same : (p : ℕ) → p < places t → packet_after (size t) (checks t) (outcome t b map).block (outcome t b map).map p ≡ packet_after (size t) (checks t) given map p
    packet-same p h = by_bool (is_lost map p)
        (λ e. by_bool (is_lost (outcome t b map).map p)
        (λ k. by_bool (decided map (checks t) p)
        (λ d. after-decided (size t) (checks t) (outcome t b map).block (outcome t b map).map p k (sym (peeled-decided p h e k) ∙ d) ∙ sym (peeled-value p h e k d)
        ∙ sym (after-decided (size t) (checks t) given map p e d))
        (λ d. after-lost (size t) (checks t) (outcome t b map).block (outcome t b map).map p k (sym (peeled-decided p h e k) ∙ d) ∙ sym (after-lost (size t) (checks t) given map p e d)))
        (λ r. let q = beyond-peeling p h e r in
        after-received (size t) (checks t) (outcome t b map).block (outcome t b map).map p r ∙ sym q.1 ∙ sym (after-decided (size t) (checks t) given map p e q.0)))
        (λ e. after-received (size t) (checks t) (outcome t b map).block (outcome t b map).map p (stays-received (places t) (size t) (checks t) given map p e)
        ∙ received-kept (places t) (size t) (checks t) given map p e ∙ sym (after-received (size t) (checks t) given map p e))

    -- the packets afterwards are the same ..
    pub peeled-block : solved_block (places t) (size t) (checks t) (outcome t b map).block (outcome t b map).map ≡ solved_block (places t) (size t) (checks t) given map
    peeled-block = map_same _ _ (all_map (λ p k. packet-same p (omega (arith, k.1))) (from_all 0 (places t)))

    mark-same : (p : ℕ) → p < places t → mark_after (checks t) (outcome t b map).map p ≡ mark_after (checks t) map p
    mark-same p h = by_bool (is_lost map p)
        (λ e. by_bool (is_lost (outcome t b map).map p)
        (λ k. by_bool (decided map (checks t) p)
        (λ d. mark-decided (checks t) (outcome t b map).map p k (sym (peeled-decided p h e k) ∙ d) ∙ sym (mark-decided (checks t) map p e d))
        (λ d. mark-lost (checks t) (outcome t b map).map p k (sym (peeled-decided p h e k) ∙ d) ∙ sym (mark-lost (checks t) map p e d)))
        (λ r. mark-received (checks t) (outcome t b map).map p r ∙ restoring-mark (places t) (size t) (checks t) _ p e r ∙ sym (mark-decided (checks t) map p e (beyond-peeling p h e r).0)))
        (λ e. mark-received (checks t) (outcome t b map).map p (stays-received (places t) (size t) (checks t) given map p e)
        ∙ restoring-same (places t) (size t) (checks t) _ p e ∙ sym (mark-received (checks t) map p e))

    -- .. and so are the marks
    pub peeled-map : solved_map (places t) (checks t) (outcome t b map).map ≡ solved_map (places t) (checks t) map
    peeled-map = map_same _ _ (all_map (λ p k. mark-same p (omega (arith, k.1))) (from_all 0 (places t)))

    -- a codeword agrees, so the old repair finds nothing that contradicts
    pub calm-agrees : agreeing t b map ≡ true
    calm-agrees = let e = word-exists (places t) (size t) (checks t) given given-block map calm in
        no-contradiction (places t) (size t) (checks t) good.low e.0 e.1.long e.1.sized given map (packets-length (size t) (places t) b) (λ p h k. sym (e.1.agree p h k)) e.1.zeros

  -- what the old repair finds to contradict clashes
  pub contradicted-clashes : agreeing t b map ≡ false → clashes (size t) (checks t) given map ≡ true
  contradicted-clashes f = by_bool (clashes (size t) (checks t) given map) (λ e. e) (λ e. absurd (true≢false (sym (calm-agrees e) ∙ f)))
