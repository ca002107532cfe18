-- Settling: one place's row reduced without the place, and the loop from the highest place down, at which `Settles` holds.
use mathlib.Core.Path.{◌≡◌, refl, sym, ap, ap₂, ◌∙◌, subst}
use mathlib.Core.Bool.{true, false, cond}
use mathlib.Core.List.{List, [], ◌∷◌, ◌++◌, append_assoc}
use Prim.Native.Nat.{ℕ, zero, suc, ◌+◌, ◌-◌, ◌*◌, ◌^◌, ◌<◌, ◌≤◌}
use native.Mathlib.Numerals.{add-one}
use native.Mathlib.Omega.{arith}
use lib.Bits.{bit_xor}
use lib.Dec.{eqb}
use lib.ListN.{length, get_or, set, take, drop, replicate, length-append, length-set, length-replicate}
use lib.Seq.{get_or-set_same, get_or-set_other, take_at}
use borrow.Rule.Slice.PartMut.{mid_len, same_len_mid}
use Rattle.lists.specs.Lists.{minus, written, All, All.nil, All.cons}
use Rattle.lists.specs.ListLaws.{all_map}
use Rattle.lists.specs.Tests.{by_bool, eqb-true, eqb-false}
use Rattle.gf2.specs.EchelonLaws.{bits-le, bit-nonzero, path-low, short-sum}
use Rattle.gf2.specs.Gf2.{bit, Short, Bits, xor_group, add, down, path, is_zero}
use Rattle.gf2.specs.OneRowMore.{short-zero}
use Rattle.gf2.specs.Settling.{pow-short, pow-on}
use Rattle.table.specs.BufferLaws.{set-written}
use Rattle.table.specs.Checks.{CheckIn, others_sum}
use Rattle.table.specs.PacketLaws.{packets-length, packets-sized, packets-joined, sum_view}
use Rattle.table.specs.Packets.{packets, joined, packet_sum}
use Rattle.packets.specs.SetLaws.{packets-set, bytes-set}
use Rattle.bits.specs.Front.{Front}
use Rattle.bits.specs.Row.{row, RowPut}
use Rattle.bits.specs.RowLaws.{row_other, put-put, put_is}
use Rattle.rows.specs.Leads.{leads, Owners, Reducible, Lowered, path_of}
use Rattle.rows.specs.LeadsLaws.{leads-none, leads-at, named}
use Rattle.eliminate.specs.Eliminating.{without, vanishes, settled_packet, settled_map, Led, Settled, SettledAll}
use Rattle.eliminate.specs.EliminatingLaws.{Noted, noted_in, minus-none}

-- ---- rows below a place
-- reducing from place p down sees only the rows that lead lower places
down-same : (f g : ℕ → ℕ) (p x : ℕ) → ((q : ℕ) → q < p → g q ≡ f q) → down g p x ≡ down f p x
unfolding down
down-same f g zero x h = refl
down-same f g (suc p) x h = by_bool (bit p x)
    (λ b. by_bool (is_zero (f p))
    (λ z. let y : is_zero (g p) ≡ true = ap is_zero (h p (omega arith)) ∙ z in rw (b, down, z, y))
    (λ z. let y : is_zero (g p) ≡ false = ap is_zero (h p (omega arith)) ∙ z in
    rw (b, down, z, y) (ap (λ u. down g p (bit_xor u x)) (h p (omega arith)) ∙ down-same f g p (bit_xor (f p) x) (λ q l. h q (omega arith)))))
    (λ b. rw (b, down) (down-same f g p x (λ q l. h q (omega arith))))

path-same : (f g : ℕ → ℕ) (p x : ℕ) → ((q : ℕ) → q < p → g q ≡ f q) → path g p x ≡ path f p x
unfolding path
path-same f g zero x h = refl
path-same f g (suc p) x h = by_bool (bit p x)
    (λ b. by_bool (is_zero (f p))
    (λ z. let y : is_zero (g p) ≡ true = ap is_zero (h p (omega arith)) ∙ z in rw (b, path, z, y))
    (λ z. let y : is_zero (g p) ≡ false = ap is_zero (h p (omega arith)) ∙ z in
    rw (b, path, z, y) (ap (λ l. p ∷ l) (ap (λ u. path g p (bit_xor u x)) (h p (omega arith)) ∙ path-same f g p (bit_xor (f p) x) (λ q l. h q (omega arith))))))
    (λ b. rw (b, path) (path-same f g p x (λ q l. h q (omega arith))))

-- one more than the highest place is one number
bits-one : {x a b : ℕ} → Bits x a → Bits x b → a ≡ b
bits-one {x} {a} {b} u v = let h = bits-le u.most v in let g = bits-le v.most u in omega arith

-- ---- the packet that is put together
module _ (s : ℕ) (ps : List (List ℕ)) (f : ℕ → ℕ) (p : ℕ) where
  pub settled-gone : vanishes f p ≡ true → settled_packet s ps f p ≡ packet_sum s ps (p ∷ path f p (without f p))
  settled-gone e = rw (e, settled_packet)

  pub settled-left : vanishes f p ≡ false → settled_packet s ps f p ≡ replicate s 0
  settled-left e = rw (e, settled_packet)

-- ---- the map
module _ (f : ℕ → ℕ) (p : ℕ) (lost : List ℕ) where
  pub marked-gone : vanishes f p ≡ true → settled_map f p lost ≡ set lost p 2
  marked-gone e = rw (e, settled_map)

  pub marked-left : vanishes f p ≡ false → settled_map f p lost ≡ lost
  marked-left e = rw (e, settled_map)

-- zeros written at a place
pub zeros-set : (s n : ℕ) (b : List ℕ) (p : ℕ) → length b ≡ n * s → p < n → written b (p * s) (replicate s 0) ≡ joined (set (packets s n b) p (replicate s 0))
zeros-set s n b p l h = ap (λ x. written x (p * s) (replicate s 0)) (sym (packets-joined s n b l))
    ∙ sym (set-written s (packets-sized s n b l) p (replicate s 0) (subst (λ u. p < u) (sym (packets-length s n b)) h) (length-replicate s 0))

-- ---- the places as they lie in the buffer: p, and behind it what was noted
abbrev placed : List ℕ → ℕ → List ℕ → List ℕ → List ℕ
placed old p y rest = take 1 (set old 0 p) ++ (y ++ rest)

first-list : {ps v y : List ℕ} {j : ℕ} (old : List ℕ) (p : ℕ) (rest : List ℕ) → 0 < length old → Front ps v y j → take (j + 1) (drop 0 (placed old p y rest)) ≡ p ∷ ps
first-list [] p rest h g = absurd (omega arith)
first-list {ps} {v} {y} {j} (o ∷ old) p rest h g =
    rw add-one
    (ap (λ l. p ∷ l)
    (ap (λ l. take j (l ++ rest)) g.list ∙ ap (take j) (append_assoc ps (drop (length ps) v) rest) ∙ take_at ps (drop (length ps) v ++ rest) j (sym g.count)))

first-room : {ps v y : List ℕ} {j : ℕ} (old : List ℕ) (p : ℕ) (rest : List ℕ) → 0 < length old → Front ps v y j → j + 1 ≤ length (placed old p y rest)
first-room [] p rest h g = absurd (omega arith)
first-room {ps} {v} {y} {j} (o ∷ old) p rest h g =
    let c = g.count in
    let e : length y ≡ length ps + length (drop (length ps) v) = ap length g.list ∙ length-append ps (drop (length ps) v) in
    simp length-append (omega arith)

-- what lies behind p, and the whole again with that part y
module _ (old : List ℕ) (p : ℕ) where
  abbrev pub behind : List ℕ
  behind = take (length (set old 0 p) - 1) (drop 1 (set old 0 p))

  pub behind-long : length behind ≡ length old - 1
  behind-long = mid_len 1 (length (set old 0 p)) (set old 0 p) (omega arith) ∙ ap (λ (i : ℕ). i - 1) (length-set old 0 p)

  module _ (y : List ℕ) (kept : length y ≡ length behind) where
    pub whole_long : length (placed old p y (drop (length (set old 0 p) - 1) (drop 1 (set old 0 p)))) ≡ length old
    whole_long = same_len_mid 1 (length (set old 0 p) - 1) (set old 0 p) y kept ∙ length-set old 0 p

    pub noted-few : {ps : List ℕ} {j : ℕ} → Front ps behind y j → 0 < length old → j < length old
    noted-few {ps} g h =
        let c = g.count in
        let l = behind-long in
        let e : length y ≡ length ps + length (drop (length ps) behind) = ap length g.list ∙ length-append ps (drop (length ps) behind) in
        omega arith

-- ---- one place
module _ (w owner : List ℕ) (n p : ℕ) (led : Led w owner n) (in-n : p < n) (has : 0 < get_or owner p 0) where
  -- the row that leads it
  abbrev k : ℕ
  k = get_or owner p 0 - 1

  abbrev f : ℕ → ℕ
  f = leads w owner

  abbrev own : List ℕ
  own = set owner p 0

  in-owner : p < length owner
  in-owner = let h = led.places in omega arith

  own-here : get_or own p 0 ≡ 0
  own-here = get_or-set_same owner p 0 0 in-owner

  own-other : (q : ℕ) → (q ≡ p → ⊥) → get_or own q 0 ≡ get_or owner q 0
  own-other q ne = get_or-set_other owner p q 0 0 ne

  -- no other place is led by it
  alone : (q : ℕ) → 0 < get_or owner q 0 → get_or owner q 0 ≡ get_or owner p 0 → q ≡ p
  alone q h e = let z : q + 1 ≡ p + 1 = bits-one (led.lead q h) (subst (λ (r : ℕ). Bits (row w (r - 1)) (p + 1)) (sym e) (led.lead p has)) in omega arith

  named_other : (q : ℕ) → 0 < get_or own q 0 → (get_or own q 0 - 1 ≡ k → ⊥) × (q ≡ p → ⊥)
  named_other q h =
      let ne : q ≡ p → ⊥ = λ (i : q ≡ p). let z : get_or own q 0 ≡ 0 = ap (λ j. get_or own j 0) i ∙ own-here in omega arith in
      let e = own-other q ne in
      ((λ (i : get_or own q 0 - 1 ≡ k). ne (alone q (omega arith) (omega arith))), ne)

  -- a change of its row is not seen
  module _ {x : List ℕ} {y : ℕ} (d : RowPut w k y x) where
    row_same : (q : ℕ) → 0 < get_or own q 0 → row x (get_or own q 0 - 1) ≡ row w (get_or owner q 0 - 1)
    row_same q h = let z = named_other q h in row_other d (get_or own q 0 - 1) z.0 ∙ ap (λ (r : ℕ). row w (r - 1)) (own-other q z.1)

    pub led-kept : Led x own n
    led-kept = record {
      room = λ q. by_bool (eqb q p)
          (λ e. let i = eqb-true q p e in let z : get_or own q 0 ≡ 0 = ap (λ j. get_or own j 0) i ∙ own-here in omega arith)
          (λ e. let i = own-other q (eqb-false q p e) in let r = led.room q in let l = d.len in omega arith);
      lead = λ q h. let z = named_other q h in subst (λ (r : ℕ). Bits r (q + 1)) (sym (row_same q h)) (led.lead q (subst (λ (r : ℕ). 0 < r) (own-other q z.1) h));
      places = let h = led.places in simp length-set h;
      few = led.few;
    }

    pub leads-below : (q : ℕ) → q < p → leads x own q ≡ f q
    leads-below q h =
        let ne : q ≡ p → ⊥ = λ (i : q ≡ p). omega arith in
        let e = own-other q ne in
        named (get_or owner q 0)
        (λ z. leads-none x own q (e ∙ z) ∙ sym (leads-none w owner q z))
        (λ z. leads-at x own q (omega arith) ∙ row_same q (omega arith) ∙ sym (leads-at w owner q z))

    pub owners-apart : Owners x own k
    owners-apart = record {
      room = led-kept.room;
      apart = λ q e. let z = named_other q (omega arith) in z.0 (omega arith);
      lead = led-kept.lead;
    }

  row_is : f p ≡ row w k
  row_is = leads-at w owner p has

  bits-here : Bits (f p) (p + 1)
  bits-here = subst (λ (r : ℕ). Bits r (p + 1)) (sym row_is) (led.lead p has)

  on : bit p (f p) ≡ true
  on = let e : p + 1 - 1 ≡ p = omega arith in rw e at (bits-here.last (omega arith))

  -- without the place it is shorter
  pub without-short : Short p (without f p)
  without-short =
      let e : p + 1 - 1 ≡ p = omega arith in
      rw e at (short-sum (f p) (2 ^ p) (p + 1) (omega arith) bits-here.most (pow-short p (p + 1) (omega arith)) (rw e on) (rw e (pow-on p)))

  module _ {x : List ℕ} (d : RowPut w k (bit_xor (row w k) (2 ^ p)) x) where
    here-is : row x k ≡ without f p
    here-is = d.here ∙ ap (λ v. bit_xor v (2 ^ p)) (sym row_is)

    pub reducible : Reducible x own k p
    reducible = record {
      inside = let r = led.room p in let l = d.len in omega arith;
      most = let r = led.few in omega arith;
      places = let r = led.places in simp length-set (omega arith);
      owners = owners-apart d;
      short = subst (Short p) (sym here-is) without-short;
    }

    pub down_is : down (leads x own) p (row x k) ≡ down f p (without f p)
    down_is = ap (down (leads x own) p) here-is ∙ down-same f (leads x own) p (without f p) (leads-below d)

    pub path-is : path (leads x own) p (row x k) ≡ path f p (without f p)
    path-is = ap (path (leads x own) p) here-is ∙ path-same f (leads x own) p (without f p) (leads-below d)

    pub row-after : {e : List ℕ} {r : ℕ} → Lowered x own k p (row x k) e r → RowPut w k (down f p (without f p)) e
    row-after l = put_is (put-put d l.put) down_is

    -- it vanishes just if no place is left
    pub vanishes-at : {e : List ℕ} {r : ℕ} → Lowered x own k p (row x k) e r → r ≡ 0 → vanishes f p ≡ true
    vanishes-at {e} {r} l z = ap is_zero (sym down_is ∙ nothing l.bits.most z)
      where
        nothing : {y r : ℕ} → Short r y → r ≡ 0 → y ≡ 0
        nothing {y} s z = short-zero y (subst (λ u. Short u y) z s)

    pub stays_at : {e : List ℕ} {r : ℕ} → Lowered x own k p (row x k) e r → 0 < r → vanishes f p ≡ false
    stays_at {e} {r} l h = ap is_zero (sym down_is) ∙ bit-nonzero (r - 1) (down (leads x own) p (row x k)) (l.bits.last h)

  -- the places that are summed: p, and those that lead the rows added
  pub settled-low : All (λ q. q < n) (p ∷ path f p (without f p))
  settled-low = cons in-n (all_map (λ q h. less q h) (path-low f p (without f p)))
    where
      less : (q : ℕ) → q < p → q < n
      less q h = omega arith

  pub settled-long : (s : ℕ) (b : List ℕ) → length b ≡ n * s → length (settled_packet s (packets s n b) f p) ≡ s
  settled-long s b l = by_bool (vanishes f p)
      (λ e. ap length (settled-gone s (packets s n b) f p e) ∙ (sum_view s (packets-sized s n b l) {c = p ∷ path f p (without f p)} (all_map (λ q h. subst (λ u. q < u) (sym (packets-length s n b)) h) settled-low)).0)
      (λ e. ap length (settled-left s (packets s n b) f p e) ∙ length-replicate s 0)

  -- o is read for the row's number
  module _ {o : ℕ} (read : o ≡ get_or owner p 0) {x : List ℕ} (d : RowPut w (o - 1) (bit_xor (row w (o - 1)) (2 ^ p)) x) where
    flipped : RowPut w k (bit_xor (row w k) (2 ^ p)) x
    flipped = subst (λ (r : ℕ). RowPut w (r - 1) (bit_xor (row w (r - 1)) (2 ^ p)) x) read d

    pub can-reduce : Reducible x own (o - 1) p
    can-reduce = subst (λ (r : ℕ). Reducible x own (r - 1) p) (sym read) (reducible flipped)

    -- the row is reduced, and the path noted
    module _ {e : List ℕ} {r : ℕ} (l : Lowered x own (o - 1) p (row x (o - 1)) e r) {v y : List ℕ} {j : ℕ} (g : Front (path_of x own (o - 1) p) v y j) where
      lowered : Lowered x own k p (row x k) e r
      lowered = subst (λ (i : ℕ). Lowered x own (i - 1) p (row x (i - 1)) e r) read l

      way : Front (path f p (without f p)) v y j
      way = subst (λ (ps : List ℕ). Front ps v y j) (path-is flipped) (subst (λ (i : ℕ). Front (path_of x own (i - 1) p) v y j) read g)

      module _ (s : ℕ) (b : List ℕ) (bytes : length b ≡ n * s) where
        pub can-restore : (old rest : List ℕ) → 0 < length old → CheckIn (placed old p y rest) 0 (j + 1) b n s
        can-restore old rest h =
            let c = way.count in
            let nd : Noted (placed old p y rest) (j + 1) (p ∷ path f p (without f p)) = record { list = first-list old p rest h way; count = omega arith; room = first-room old p rest h way } in
            noted_in nd b n s settled-low bytes

        -- nothing is left of it
        pub gone : (old rest b' lost : List ℕ) → 0 < length old → r ≡ 0 → b' ≡ joined (set (packets s n b) p (others_sum (placed old p y rest) 0 (j + 1) b n s n)) → Settled s n p w owner b lost e own b' (set lost p 2)
        gone old rest b' lost h z q =
            let none = vanishes-at flipped lowered z in
            record {
              owner-is = refl;
              row_is = row-after flipped lowered;
              block-is = q
                  ∙ ap (λ v. joined (set (packets s n b) p v))
                  (ap (λ c. packet_sum s (packets s n b) (minus c (n ∷ []))) (first-list old p rest h way) ∙ ap (packet_sum s (packets s n b)) (minus-none n settled-low) ∙ sym (settled-gone s (packets s n b) f p none));
              map_is = sym (marked-gone f p lost none);
            }

        -- something is left
        pub left : (b' lost : List ℕ) → 0 < r → b' ≡ written b (p * s) (replicate s 0) → Settled s n p w owner b lost e own b' lost
        left b' lost z q =
            let some = stays_at flipped lowered z in
            record {
              owner-is = refl;
              row_is = row-after flipped lowered;
              block-is = q ∙ zeros-set s n b p bytes in-n ∙ ap (λ v. joined (set (packets s n b) p v)) (sym (settled-left s (packets s n b) f p some));
              map_is = sym (marked-left f p lost some);
            }

-- ---- the loop: places from p on are settled, those below are as at the start
pub record Settles (s n : ℕ) (w₀ owner₀ b₀ lost₀ w owner b lost : List ℕ) (p : ℕ) : Type 0 where
  pub led : Led w owner n
  pub bytes : length b ≡ n * s
  pub marks : length lost ≡ n
  pub owner-below : (q : ℕ) → q < p → get_or owner q 0 ≡ get_or owner₀ q 0
  pub row_below : (q : ℕ) → q < p → leads w owner q ≡ leads w₀ owner₀ q
  pub packet-below : (q : ℕ) → q < p → get_or (packets s n b) q [] ≡ get_or (packets s n b₀) q []
  pub mark-below : (q : ℕ) → q < p → get_or lost q 0 ≡ get_or lost₀ q 0
  pub free-packet : (q : ℕ) → p ≤ q → q < n → get_or owner₀ q 0 ≡ 0 → get_or (packets s n b) q [] ≡ get_or (packets s n b₀) q []
  pub free-mark : (q : ℕ) → p ≤ q → q < n → get_or owner₀ q 0 ≡ 0 → get_or lost q 0 ≡ get_or lost₀ q 0
  pub led-packet : (q : ℕ) → p ≤ q → q < n → 0 < get_or owner₀ q 0 → get_or (packets s n b) q [] ≡ settled_packet s (packets s n b₀) (leads w₀ owner₀) q
  pub led-mark : (q : ℕ) → p ≤ q → q < n → 0 < get_or owner₀ q 0 → get_or lost q 0 ≡ cond (vanishes (leads w₀ owner₀) q) 2 (get_or lost₀ q 0)

pub start : (s n : ℕ) (w owner b lost : List ℕ) → Led w owner n → length b ≡ n * s → length lost ≡ n → Settles s n w owner b lost w owner b lost n
start s n w owner b lost led bytes marks = record {
  led = led;
  bytes = bytes;
  marks = marks;
  owner-below = λ q h. refl;
  row_below = λ q h. refl;
  packet-below = λ q h. refl;
  mark-below = λ q h. refl;
  free-packet = λ q h l e. refl;
  free-mark = λ q h l e. refl;
  led-packet = λ q h l e. absurd (omega arith);
  led-mark = λ q h l e. absurd (omega arith);
}

module _ {s n : ℕ} {w₀ owner₀ b₀ lost₀ w owner b lost : List ℕ} {p₁ : ℕ} (z : Settles s n w₀ owner₀ b₀ lost₀ w owner b lost p₁) (p : ℕ) (next : p₁ ≡ p + 1) (in-n : p < n) where
  -- which place
  split : {A : Type 0} (q : ℕ) → p ≤ q → (q ≡ p → A) → (p₁ ≤ q → A) → A
  split q h a c = by_bool (eqb q p) (λ e. a (eqb-true q p e)) (λ e. let ne = eqb-false q p e in c (omega arith))

  -- no row leads it
  pub passed_over : get_or owner p 0 ≡ 0 → Settles s n w₀ owner₀ b₀ lost₀ w owner b lost p
  passed_over none =
      let free : get_or owner₀ p 0 ≡ 0 = sym (z.owner-below p (omega arith)) ∙ none in
      record {
        led = z.led;
        bytes = z.bytes;
        marks = z.marks;
        owner-below = λ q h. z.owner-below q (omega arith);
        row_below = λ q h. z.row_below q (omega arith);
        packet-below = λ q h. z.packet-below q (omega arith);
        mark-below = λ q h. z.mark-below q (omega arith);
        free-packet = λ q h l e. split q h (λ i. z.packet-below q (omega arith)) (λ i. z.free-packet q i l e);
        free-mark = λ q h l e. split q h (λ i. z.mark-below q (omega arith)) (λ i. z.free-mark q i l e);
        led-packet = λ q h l e. split q h (λ i. let u : get_or owner₀ q 0 ≡ 0 = ap (λ j. get_or owner₀ j 0) i ∙ free in absurd (omega arith)) (λ i. z.led-packet q i l e);
        led-mark = λ q h l e. split q h (λ i. let u : get_or owner₀ q 0 ≡ 0 = ap (λ j. get_or owner₀ j 0) i ∙ free in absurd (omega arith)) (λ i. z.led-mark q i l e);
      }

  -- it is settled
  module _ (has : 0 < get_or owner p 0) {w' owner' b' lost' : List ℕ} (d : Settled s n p w owner b lost w' owner' b' lost') where
    abbrev g : ℕ → ℕ
    g = leads w owner

    abbrev g₀ : ℕ → ℕ
    g₀ = leads w₀ owner₀

    here₀ : g p ≡ g₀ p
    here₀ = z.row_below p (omega arith)

    without-same : without g p ≡ without g₀ p
    without-same = ap (λ u. bit_xor u (2 ^ p)) here₀

    vanishes-same : vanishes g p ≡ vanishes g₀ p
    vanishes-same = ap is_zero (ap (down g p) without-same ∙ down-same g₀ g p (without g₀ p) (λ q h. z.row_below q (omega arith)))

    path-here : path g p (without g p) ≡ path g₀ p (without g₀ p)
    path-here = ap (path g p) without-same ∙ path-same g₀ g p (without g₀ p) (λ q h. z.row_below q (omega arith))

    -- a sum over places up to p
    sum_same : {l : List ℕ} → All (λ q. q ≤ p) l → packet_sum s (packets s n b) l ≡ packet_sum s (packets s n b₀) l
    sum_same nil = refl
    sum_same (cons {x = q} {l = l} h a) = ap₂ (add xor_group) (z.packet-below q (omega arith)) (sum_same a)

    packet-same : settled_packet s (packets s n b) g p ≡ settled_packet s (packets s n b₀) g₀ p
    packet-same = by_bool (vanishes g₀ p)
        (λ e. settled-gone s (packets s n b) g p (vanishes-same ∙ e) ∙ (ap (λ l. packet_sum s (packets s n b) (p ∷ l)) path-here ∙ sum_same (cons {x = p} (omega arith) (all_map (λ q h. less q h) (path-low g₀ p (without g₀ p)))))
        ∙ sym (settled-gone s (packets s n b₀) g₀ p e))
        (λ e. settled-left s (packets s n b) g p (vanishes-same ∙ e) ∙ sym (settled-left s (packets s n b₀) g₀ p e))
      where
        less : (q : ℕ) → q < p → q ≤ p
        less q h = omega arith

    long : length (settled_packet s (packets s n b) g p) ≡ s
    long = settled-long w owner n p z.led in-n has s b z.bytes

    cut : packets s n b' ≡ set (packets s n b) p (settled_packet s (packets s n b) g p)
    cut = ap (packets s n) d.block-is ∙ packets-set s n b z.bytes p (settled_packet s (packets s n b) g p) in-n long

    packet-here : get_or (packets s n b') p [] ≡ settled_packet s (packets s n b₀) g₀ p
    packet-here = ap (λ u. get_or u p []) cut ∙ get_or-set_same (packets s n b) p (settled_packet s (packets s n b) g p) [] (subst (λ u. p < u) (sym (packets-length s n b)) in-n) ∙ packet-same

    packet-other : (q : ℕ) → (q ≡ p → ⊥) → get_or (packets s n b') q [] ≡ get_or (packets s n b) q []
    packet-other q ne = ap (λ u. get_or u q []) cut ∙ get_or-set_other (packets s n b) p q (settled_packet s (packets s n b) g p) [] ne

    mark-here : get_or lost' p 0 ≡ cond (vanishes g₀ p) 2 (get_or lost₀ p 0)
    mark-here = by_bool (vanishes g₀ p)
        (λ e. let u : vanishes g p ≡ true = vanishes-same ∙ e in rw e (ap (λ m. get_or m p 0) (d.map_is ∙ marked-gone g p lost u) ∙ get_or-set_same lost p 2 0 (let h = z.marks in omega arith)))
        (λ e. let u : vanishes g p ≡ false = vanishes-same ∙ e in rw e (ap (λ m. get_or m p 0) (d.map_is ∙ marked-left g p lost u) ∙ z.mark-below p (omega arith)))

    mark-other : (q : ℕ) → (q ≡ p → ⊥) → get_or lost' q 0 ≡ get_or lost q 0
    mark-other q ne = by_bool (vanishes g p)
        (λ e. ap (λ m. get_or m q 0) (d.map_is ∙ marked-gone g p lost e) ∙ get_or-set_other lost p q 2 0 ne)
        (λ e. ap (λ m. get_or m q 0) (d.map_is ∙ marked-left g p lost e))

    marks-long : length lost' ≡ n
    marks-long = by_bool (vanishes g p)
        (λ e. ap length (d.map_is ∙ marked-gone g p lost e) ∙ length-set lost p 2 ∙ z.marks)
        (λ e. ap length (d.map_is ∙ marked-left g p lost e) ∙ z.marks)

    owner-other : (q : ℕ) → (q ≡ p → ⊥) → get_or owner' q 0 ≡ get_or owner q 0
    owner-other q ne = ap (λ u. get_or u q 0) d.owner-is ∙ get_or-set_other owner p q 0 0 ne

    led₀ : 0 < get_or owner₀ p 0
    led₀ = let e = z.owner-below p (omega arith) in omega arith

    pub settled : Settles s n w₀ owner₀ b₀ lost₀ w' owner' b' lost' p
    settled = record {
      led = subst (λ u. Led w' u n) (sym d.owner-is) (led-kept w owner n p z.led in-n has d.row_is);
      bytes = ap length d.block-is ∙ bytes-set s n b z.bytes p (settled_packet s (packets s n b) g p) in-n long;
      marks = marks-long;
      owner-below = λ q h. owner-other q (λ (i : q ≡ p). omega arith) ∙ z.owner-below q (omega arith);
      row_below = λ q h. ap (λ u. leads w' u q) d.owner-is ∙ leads-below w owner n p z.led in-n has d.row_is q h ∙ z.row_below q (omega arith);
      packet-below = λ q h. packet-other q (λ (i : q ≡ p). omega arith) ∙ z.packet-below q (omega arith);
      mark-below = λ q h. mark-other q (λ (i : q ≡ p). omega arith) ∙ z.mark-below q (omega arith);
      free-packet = λ q h l e. split q h (λ i. let u : get_or owner₀ p 0 ≡ 0 = ap (λ j. get_or owner₀ j 0) (sym i) ∙ e in let v = led₀ in absurd (omega arith))
          (λ i. packet-other q (λ (j : q ≡ p). omega arith) ∙ z.free-packet q i l e);
      free-mark = λ q h l e. split q h (λ i. let u : get_or owner₀ p 0 ≡ 0 = ap (λ j. get_or owner₀ j 0) (sym i) ∙ e in let v = led₀ in absurd (omega arith))
          (λ i. mark-other q (λ (j : q ≡ p). omega arith) ∙ z.free-mark q i l e);
      led-packet = λ q h l e. split q h (λ i. rw i packet-here) (λ i. packet-other q (λ (j : q ≡ p). omega arith) ∙ z.led-packet q i l e);
      led-mark = λ q h l e. split q h (λ i. rw i mark-here) (λ i. mark-other q (λ (j : q ≡ p). omega arith) ∙ z.led-mark q i l e);
    }

pub all_settled : {s n : ℕ} {w₀ owner₀ b₀ lost₀ w owner b lost : List ℕ} → Settles s n w₀ owner₀ b₀ lost₀ w owner b lost 0 → SettledAll s n w₀ owner₀ b₀ lost₀ b lost
all_settled z = record {
  bytes = z.bytes;
  marks = z.marks;
  free-packet = λ p h e. z.free-packet p (omega arith) h e;
  free-mark = λ p h e. z.free-mark p (omega arith) h e;
  led-packet = λ p h e. z.led-packet p (omega arith) h e;
  led-mark = λ p h e. z.led-mark p (omega arith) h e;
}
