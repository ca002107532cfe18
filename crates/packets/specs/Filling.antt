-- A block and a map filled place by place: f has the packet of each place, g its mark. Places that aren't filled yet are as they were.
use Rattle.std.specs.Prelude.{◌≡◌, refl, List, [], map as each, ℕ, ◌+◌, ◌*◌, ◌<◌, ◌≤◌, length, get_or, set}
use Rattle.std.proofs.Common.{sym, ap, ◌∙◌, subst, arith, length-set, get_or-set_other}
use Rattle.lists.specs.Buffers.{filled_more, filled-all}
use Rattle.lists.specs.Lists.{from, written}
use Rattle.table.specs.PacketLaws.{packets-length, packets-joined}
use Rattle.table.specs.Packets.{packets, joined}
use Rattle.packets.specs.SetLaws.{written-set, packets-set, bytes-set}

-- what the code is lent: a block and a map of n places of s bytes
pub record Sized (n s : ℕ) (block map : List ℕ) : Type 0 where
  pub bytes : length block ≡ n * s
  pub marks : length map ≡ n

-- what one place comes to, h, is g: its mark, and the block with its packet
pub told : {X : Type 0} (mark : X → ℕ) (packet : X → List ℕ) (at k : ℕ) (block e : List ℕ) (g h : X) → g ≡ h → k ≡ mark h → e ≡ written block at (packet h)
    → (k ≡ mark g) × (e ≡ written block at (packet g))
told mark packet at k block e g h is a b = (a ∙ ap mark (sym is), b ∙ ap (λ x. written block at (packet x)) (sym is))

module _ (n s : ℕ) (f : ℕ → List ℕ) (g : ℕ → ℕ) (block₀ map₀ : List ℕ) where
  -- the places below p are filled
  pub record Filled (p : ℕ) (block map : List ℕ) : Type 0 where
    pub sized : Sized n s block map
    pub packets-are : (k : ℕ) → k < p → get_or (packets s n block) k [] ≡ f k
    pub marks-are : (k : ℕ) → k < p → get_or map k 0 ≡ g k
    pub packets-rest : (k : ℕ) → p ≤ k → get_or (packets s n block) k [] ≡ get_or (packets s n block₀) k []
    pub marks-rest : (k : ℕ) → p ≤ k → get_or map k 0 ≡ get_or map₀ k 0

  pub none_filled : Sized n s block₀ map₀ → Filled 0 block₀ map₀
  none_filled z = record {
    sized = z;
    packets-are = λ k h. absurd (omega arith);
    marks-are = λ k h. absurd (omega arith);
    packets-rest = λ k h. refl;
    marks-rest = λ k h. refl;
  }

  -- one more
  pub one-filled : (p : ℕ) (block map : List ℕ) → Filled p block map → p < n → (e : List ℕ) (v : ℕ)
      → e ≡ written block (p * s) (f p) → length (f p) ≡ s → v ≡ g p → Filled (p + 1) e (set map p v)
  one-filled p block map d inside e v w long is =
      let z = w ∙ written-set s n block d.sized.bytes p (f p) inside long in
      let now : packets s n e ≡ set (packets s n block) p (f p) = ap (packets s n) z ∙ packets-set s n block d.sized.bytes p (f p) inside long in
      let m = d.sized.marks in
      record {
        sized = record { bytes = ap length z ∙ bytes-set s n block d.sized.bytes p (f p) inside long; marks = length-set map p v ∙ m };
        packets-are = λ k h. ap (λ q. get_or q k []) now
            ∙ filled_more [] f (packets s n block) p (f p) (subst (λ j. p < j) (sym (packets-length s n block)) inside) d.packets-are refl k h;
        marks-are = filled_more 0 g map p v (omega arith) d.marks-are is;
        packets-rest = λ k h. ap (λ q. get_or q k []) now ∙ get_or-set_other (packets s n block) p k (f p) [] (λ y. omega arith) ∙ d.packets-rest k (omega arith);
        marks-rest = λ k h. get_or-set_other map p k v 0 (λ y. omega arith) ∙ d.marks-rest k (omega arith);
      }

  -- all
  pub block-filled : (p : ℕ) (block map : List ℕ) → Filled p block map → n ≤ p → block ≡ joined (each f (from 0 n))
  block-filled p block map d end = sym (packets-joined s n block d.sized.bytes)
      ∙ ap joined (filled-all [] f (packets s n block) n (packets-length s n block) (λ k h. d.packets-are k (omega arith)))

  pub map-filled : (p : ℕ) (block map : List ℕ) → Filled p block map → n ≤ p → map ≡ each g (from 0 n)
  map-filled p block map d end = filled-all 0 g map n d.sized.marks (λ k h. d.marks-are k (omega arith))
