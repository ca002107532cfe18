-- One byte position of a block, with the table for packets of one byte: accepted, cleared, and what it says of a suspect.
use mathlib.Core.Path.{◌≡◌, refl, sym, ap, ap₂, ◌∙◌}
use mathlib.Core.Bool.{false}
use mathlib.Core.List.{List}
use Prim.Native.Nat.{ℕ, ◌*◌, ◌<◌, ◌≤◌}
use native.Mathlib.Omega.{arith}
use lib.ListN.{length}
use Rattle.table.specs.Accepted.{Accepted}
use Rattle.table.specs.AnySize.{accepted-at, number_at, places-at, size-at}
use Rattle.table.specs.ByteLaws.{bytes-length, each_byte, bytes-packets}
use Rattle.table.specs.ChecksLaws.{limits}
use Rattle.table.specs.PacketLaws.{packets-joined}
use Rattle.table.specs.Packets.{packets, joined, bytes_at}
use Rattle.erasure.proofs.EachByte.{zeros-each}
use Rattle.erasure.specs.Restoring.{zero_lost}
use Rattle.suspects.specs.Blame.{suspect}
use Rattle.suspects.proofs.EachByte.{not_narrow}
use Rattle.trials.specs.Cleared.{Cleared}
use Rattle.trials.specs.ClearedLaws.{cleared-packets}
use Rattle.blame.specs.Trying.{Narrow}

pub words : (t : List ℕ) (m n s : ℕ) → Accepted t m n s → 3 ≤ length t
words t m n s k = let l = (limits t k.accepted).long in omega arith

module _ (t : List ℕ) (m n s : ℕ) (k : Accepted t m n s) (b small column : List ℕ) (w : Narrow t n s b small column) where
  pub small-accepted : Accepted small m n 1
  small-accepted = rw w.table_is (record {
    accepted = accepted-at 1 t k.accepted refl;
    number_is = k.number_is ∙ sym (number_at 1 t);
    places-are = k.places-are ∙ sym (places-at 1 t);
    size_is = sym (size-at 1 t (words t m n s k));
  })

  pub column-cleared : (map : List ℕ) → Cleared n s b map → Cleared n 1 column map
  column-cleared map c = rw w.column-is (record {
    bytes = let e = bytes-length s n w.byte b in omega arith;
    marks = c.marks;
    zero = sym (packets-joined 1 n (bytes_at s n w.byte b) (let e = bytes-length s n w.byte b in omega arith)) ∙ ap joined each;
  })
    where
      each : packets 1 n (bytes_at s n w.byte b) ≡ zero_lost 1 map (packets 1 n (bytes_at s n w.byte b))
      each =
          let e = bytes-packets s w.byte w.below n b c.bytes in
          e ∙ ap (λ ps. each_byte w.byte ps) (cleared-packets n s b map c) ∙ sym (zeros-each s w.byte w.below map (packets s n b)) ∙ ap (zero_lost 1 map) (sym e)

  -- a place that is no suspect there is none
  pub none-narrow : (map : List ℕ) → Cleared n s b map → (p : ℕ) → p < n → false ≡ suspect small column map p → false ≡ suspect t b map p
  none-narrow map c p inside e = sym (not_narrow t b map k.accepted (c.bytes ∙ ap₂ ◌*◌ k.places-are k.size_is) w.byte (rw (sym k.size_is) w.below) p (rw (sym k.places-are) inside)
      (sym (e ∙ ap₂ (λ x y. suspect x y map p) w.table_is (w.column-is ∙ ap₂ (λ x y. bytes_at y x w.byte b) k.places-are k.size_is))))

  -- by the narrow table's own numbers
  module _ (m' n' s' : ℕ) (a : Accepted small m' n' s') where
    pub places-same : n' ≡ n
    places-same = a.places-are ∙ sym small-accepted.places-are

    pub narrow-cleared : (map : List ℕ) → Cleared n s b map → Cleared n' s' column map
    narrow-cleared map c = let e : s' ≡ 1 = a.size_is ∙ sym small-accepted.size_is in rw (places-same, e) (column-cleared map c)
