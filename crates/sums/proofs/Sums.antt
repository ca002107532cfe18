-- Turns of the loops over a check's places.
use mathlib.Core.Path.{◌≡◌, refl, sym, ap, ◌∙◌}
use mathlib.Core.List.{List, [], ◌∷◌, ◌++◌}
use Prim.Native.Nat.{ℕ, ◌+◌, ◌*◌, ◌-◌, ◌<◌, ◌≤◌}
use native.Mathlib.Omega.{arith}
use lib.Bits.{bit_or, or_add_and, and_le_l, and_le_r}
use lib.ListN.{length, get_or, set, take, drop, replicate, length-set, length-drop}
use native.Mathlib.Numerals.{add-one}
use lib.Seq.{take-suc, drop-drop, get_or-set_same, get_or-set_other}
use borrow.Author.Count.{below_more}
use Rattle.gf2.specs.Gf2.{xor_group, add}
use Rattle.lists.specs.Buffers.{part_length}
use Rattle.packets.specs.Given.{Given, sum_at}
use Rattle.packets.specs.GivenLaws.{as-check, here, sum-long}
use Rattle.std.specs.Option.{MatchOption}
use Rattle.std.specs.declared.option.Option.{Option}
use Rattle.std.specs.declared.option.Option.TheVariants.{None, Some}
use Rattle.std.specs.Prelude.{EachIndex}
use Rattle.sums.specs.Lowest.{LowestByte}
use Rattle.table.specs.GatherLaws.{Gathered, gathered-as, from-zeros, last-part}
use Rattle.table.specs.Packets.{packets, mixed, lowest_nonzero}
use Rattle.table.specs.SumLaws.{lowest-below, lowest-is, lowest-in-first, lowest-in-rest}
use Rattle.packets.specs.PlaceLaws.{place-more}

-- an or that is zero
pub or_left : (a b : ℕ) → bit_or a b ≡ 0 → a ≡ 0
or_left a b e = omega (arith, or_add_and a b, and_le_r a b)

pub or_right : (a b : ℕ) → bit_or a b ≡ 0 → b ≡ 0
or_right a b e = omega (arith, or_add_and a b, and_le_l a b)

-- ---- the first byte that isn't zero
pub lowest-first : (x : List ℕ) (r : Option ℕ)
    → MatchOption r (EachIndex x (λ k. get_or x k 0 ≡ 0)) (λ i. (i < length x) × (get_or x i 0 ≡ 0 → ⊥) × ((k : ℕ) → k < i → get_or x k 0 ≡ 0)) → LowestByte x r
lowest-first x None h = lowest-is x (length x) (omega arith) (λ k l. h k l) (λ l. absurd (omega arith))
lowest-first x (Some i) h = (lowest-is x i (omega arith) h.2 (λ l. h.1), h.0)

-- ---- or-ing
-- the first i bytes of o are zero only where those of o₀ and a are; the others are o₀'s
pub record Ored (o₀ a : List ℕ) (i : ℕ) (o : List ℕ) : Type 0 where
  pub len : length o ≡ length o₀
  pub both : (k : ℕ) → k < i → get_or o k 0 ≡ 0 → (get_or o₀ k 0 ≡ 0) × (get_or a k 0 ≡ 0)
  pub rest : (k : ℕ) → i ≤ k → get_or o k 0 ≡ get_or o₀ k 0

pub or-none : (o a : List ℕ) → Ored o a 0 o
or-none o a = record { len = refl; both = λ k h e. absurd (omega arith); rest = λ k h. refl }

pub or_turn : (o₀ a o : List ℕ) (i : ℕ) → i < length o → Ored o₀ a i o → Ored o₀ a (i + 1) (set o i (bit_or (get_or o i 0) (get_or a i 0)))
or_turn o₀ a o i h p =
    let v = bit_or (get_or o i 0) (get_or a i 0) in
    record {
      len = simp length-set p.len;
      both = below_more _ _ (λ k l e. p.both k l (sym (get_or-set_other o i k v 0 (omega arith)) ∙ e))
          (λ e. let z : v ≡ 0 = sym (get_or-set_same o i v 0 h) ∙ e in
          (sym (p.rest i (omega arith)) ∙ or_left (get_or o i 0) (get_or a i 0) z, or_right (get_or o i 0) (get_or a i 0) z));
      rest = λ k l. get_or-set_other o i k v 0 (omega arith) ∙ p.rest k (omega arith);
    }

pub or-done : (o₀ a o : List ℕ) (i : ℕ) → length o₀ ≡ length a → i ≡ length o → Ored o₀ a i o → lowest_nonzero o ≡ length a
    → (lowest_nonzero o₀ ≡ length a) × (lowest_nonzero a ≡ length a)
or-done o₀ a o i l e p z =
    let all : (k : ℕ) → k < length a → (get_or o₀ k 0 ≡ 0) × (get_or a k 0 ≡ 0) = λ k h. p.both k (omega (arith, p.len)) (lowest-below o k (omega arith)) in (
      lowest-is o₀ (length a) (omega arith) (λ k h. (all k h).0) (λ h. absurd (omega arith)),
      lowest-is a (length a) (omega arith) (λ k h. (all k h).1) (λ h. absurd (omega arith)),
    )

pub or-piece : (x o₀ o a : List ℕ) → length a ≡ 64 → a ≡ x → (lowest_nonzero o ≡ length a → (lowest_nonzero o₀ ≡ length a) × (lowest_nonzero a ≡ length a))
    → lowest_nonzero o ≡ 64 → (lowest_nonzero o₀ ≡ 64) × (lowest_nonzero x ≡ 64)
or-piece x o₀ o a l e h z = let r = h (z ∙ sym l) in (r.0 ∙ l, ap lowest_nonzero (sym e) ∙ r.1 ∙ l)

-- ---- gathering
module _ (places b : List ℕ) (n s off : ℕ) (ok : Given places b n s) where
  -- one place more
  one_more : (m : ℕ) → m < length places → take (m + 1) places ≡ take m places ++ (get_or places m 0 ∷ [])
  one_more m h = rw add-one (take-suc places m 0 h)

  long : length (sum_at places b n s) ≡ s
  long = sum-long places b n s ok

  -- the next place of the check
  pub next_place : (a₀ a r : List ℕ) (m q : ℕ) → off + length a₀ ≤ s → m < length places → q ≡ get_or places m 0
      → Gathered s (packets s n b) off (take m places) a₀ a → r ≡ mixed a 0 (take (length a₀) (drop (q * s + off) b))
      → Gathered s (packets s n b) off (take (m + 1) places) a₀ r
  next_place a₀ a r m q fits h e g f =
      gathered-as s (packets s n b) off (ap (λ v. take m places ++ (v ∷ [])) e ∙ sym (one_more m h)) refl (place-more places 0 (length places) b n s off (as-check places b n s ok) (take m places) a₀ a r m q fits h (here places m q e) g f)

  -- the sum over the check
  abbrev pub sum_of : List ℕ
  sum_of = sum_at places b n s

  -- 64 bytes of it, and the last ones
  pub chunk_of : (a : List ℕ) → off + 64 ≤ s → a ≡ add xor_group (replicate 64 0) (take 64 (drop off sum_of)) → a ≡ take 64 (drop off sum_of)
  chunk_of a fits g = from-zeros s (packets s n b) off places long 64 _ a refl fits g

  pub rest_of : off ≤ s → (m : ℕ) (a : List ℕ) → s - off ≤ m → length a ≡ length (take (s - off) (replicate {A = ℕ} m 0))
      → a ≡ add xor_group (take (s - off) (replicate m 0)) (take (length (take (s - off) (replicate {A = ℕ} m 0))) (drop off sum_of))
      → take (s - off) (a ++ drop (s - off) (replicate m 0)) ≡ drop off sum_of
  rest_of le m a fits kept g = last-part s (packets s n b) off places long le m a fits kept g

-- ---- the lowest nonzero byte, part by part
-- k bytes from i on hold it
pub found : (x : List ℕ) (i k r : ℕ) → i + k ≤ length x → lowest_nonzero x ≡ i + lowest_nonzero (drop i x) → r ≡ lowest_nonzero (take k (drop i x)) → r < k
    → i + r ≡ lowest_nonzero x
found x i k r fits p e h =
    let l = length-drop i x in
    let f = lowest-in-first k (drop i x) (omega arith) (omega arith) in omega arith

-- or they are zero
pub passed : (x : List ℕ) (i k r : ℕ) → i + k ≤ length x → lowest_nonzero x ≡ i + lowest_nonzero (drop i x) → r ≡ lowest_nonzero (take k (drop i x)) → k ≤ r
    → lowest_nonzero x ≡ i + k + lowest_nonzero (drop (i + k) x)
passed x i k r fits p e h =
    let l = length-drop i x in
    let f = lowest-in-rest k (drop i x) (omega arith) (omega arith) in
    let g = ap lowest_nonzero (drop-drop k i x) in omega arith

-- a piece of a sum: of k bytes from i on
pub some-found : (x : List ℕ) (i k r : ℕ) → i + k ≤ length x → lowest_nonzero x ≡ i + lowest_nonzero (drop i x) → LowestByte (take k (drop i x)) (Some r) → LowestByte x (Some (i + r))
some-found x i k r fits p h =
    let l : length (take k (drop i x)) ≡ k = part_length x i k fits in
    (sym (found x i k r fits p (sym h.0) (omega (arith, h.1))), omega (arith, h.1))

pub none-passed : (x : List ℕ) (i k : ℕ) → i + k ≤ length x → lowest_nonzero x ≡ i + lowest_nonzero (drop i x) → LowestByte (take k (drop i x)) None
    → lowest_nonzero x ≡ i + k + lowest_nonzero (drop (i + k) x)
none-passed x i k fits p h = passed x i k (lowest_nonzero (take k (drop i x))) fits p refl (omega (arith, part_length x i k fits, h))

pub rest-lowest : (x : List ℕ) (i r : ℕ) → i ≤ length x → lowest_nonzero x ≡ i + lowest_nonzero (drop i x) → LowestByte (drop i x) (Some r) → LowestByte x (Some (i + r))
rest-lowest x i r fits p h = (omega (arith, h.0), omega (arith, h.1, length-drop i x))

pub rest-none : (x : List ℕ) (i : ℕ) → i ≤ length x → lowest_nonzero x ≡ i + lowest_nonzero (drop i x) → LowestByte (drop i x) None → LowestByte x None
rest-none x i fits p h = omega (arith, h, length-drop i x)
