-- A loop over the places of a check that does something at each: one turn.
use Rattle.std.specs.Prelude.{◌≡◌, refl, Bool, true, false, ◌||◌, List, [], ◌∷◌, ℕ, suc, ◌+◌, ◌<◌, ◌≤◌, eqb, length, get_or, set, take, drop}
use Rattle.std.proofs.Common.{sym, ap, ◌∙◌, add-one, arith, length-set, length-drop, length-take, take-suc, get_or-drop, get_or-take, get_or-set_same, get_or-set_other}
use Rattle.std.specs.Int.Bits.{bit_xor}
use Rattle.lists.specs.Tests.{eqb-true, eqb-false, eqb-self, by_bool}
use Rattle.lists.specs.ListLaws.{has-append}
use Rattle.lists.specs.Lists.{has}
use Rattle.table.specs.Checks.{Places}
use Rattle.live.specs.Live.{Upd, Marked}

or-false : (a : Bool) → (a || false) ≡ a
or-false true = refl
or-false false = refl

or-true : (a : Bool) → (a || true) ≡ true
or-true true = refl
or-true false = refl

has_more : (p : ℕ) (l : List ℕ) (i : ℕ) → i < length l → has p (take (i + 1) l) ≡ (has p (take i l) || eqb p (get_or l i 0))
has_more p l i h = ap (has p) (ap (λ (k : ℕ). take k l) (add-one i) ∙ take-suc l i 0 h) ∙ has-append p (take i l) (get_or l i 0 ∷ [])
    ∙ ap (λ b. has p (take i l) || b) (or-false (eqb p (get_or l i 0)))

has-below : (q : ℕ) (l : List ℕ) → ((k : ℕ) → k < length l → get_or l k 0 < q) → has q l ≡ false
has-below q [] h = refl
has-below q (a ∷ l) h = by_bool (eqb q a)
    (λ e. let z : q ≡ a = eqb-true q a e in let y = h 0 (omega arith) in absurd (omega arith))
    (λ e. rw e (has-below q l (λ k z. h (suc k) (omega arith))))

pub upd-none : (f : ℕ → ℕ) (c : List ℕ) → Upd f c [] c
upd-none f c = record { len = refl; each = λ p. refl }

pub marked-none : (f : ℕ → ℕ) (c x : List ℕ) (j : ℕ) → Marked f c x [] j c x
marked-none f c x j = record { counts = upd-none f c; names = upd-none _ x }

-- ---- p is the i-th of weight places of t from at
module _ {t : List ℕ} {at weight n i : ℕ} (ps : Places t at weight n) (more : i < weight) (p : ℕ) (here : p ≡ get_or t (at + i) 0) where
  pub place-low : p < n
  place-low = omega (arith, ps.below i more)

  -- it is none of those before
  new : has p (take i (drop at t)) ≡ false
  new = has-below p (take i (drop at t)) (λ k z.
      let y : k < i = omega (arith, simp length-take at z) in
      let e = get_or-take i (drop at t) k 0 y ∙ get_or-drop at t k 0 in
      omega (arith, ps.rising k i y more))

  more-has : (q : ℕ) → has q (take (i + 1) (drop at t)) ≡ (has q (take i (drop at t)) || eqb q p)
  more-has q =
      let r = ps.room in
      has_more q (drop at t) i (simp length-drop (omega arith)) ∙ ap (λ (v : ℕ). has q (take i (drop at t)) || eqb q v) (get_or-drop at t i 0 ∙ sym here)

  -- and holds what it held
  pub not_yet : {f : ℕ → ℕ} {c₀ c : List ℕ} → Upd f c₀ (take i (drop at t)) c → get_or c p 0 ≡ get_or c₀ p 0
  not_yet u = u.each p ∙ rw new

  pub upd-turn : {f : ℕ → ℕ} {c₀ c : List ℕ} (v : ℕ) → n ≤ length c₀ → v ≡ f (get_or c p 0) → Upd f c₀ (take i (drop at t)) c → Upd f c₀ (take (i + 1) (drop at t)) (set c p v)
  upd-turn {f} {c₀} {c} v room w u =
      let l = u.len in
      let low = place-low in
      record {
        len = simp length-set l;
        each = λ q. by_bool (eqb q p)
            (λ a. let b : q ≡ p = eqb-true q p a in
            rw (b, more-has p, eqb-self p, or-true) (get_or-set_same c p v 0 (omega arith) ∙ w ∙ ap f (not_yet u)))
            (λ a. rw (more-has q, a, or-false) (get_or-set_other c p q v 0 (eqb-false q p a) ∙ u.each q));
      }

  -- ---- counts and names
  module _ {f : ℕ → ℕ} {c₀ x₀ c x : List ℕ} {j : ℕ} (s : Marked f c₀ x₀ (take i (drop at t)) j c x) (rc : n ≤ length c₀) (rx : n ≤ length x₀) where
    pub marked-room : (p < length c) × (p < length x)
    marked-room = let a = s.counts.len in let b = s.names.len in let l = place-low in (omega arith, omega arith)

    pub marked_turn : (u v : ℕ) → u ≡ f (get_or c p 0) → v ≡ bit_xor (get_or x p 0) j → Marked f c₀ x₀ (take (i + 1) (drop at t)) j (set c p u) (set x p v)
    marked_turn u v eu ev = record { counts = upd-turn u rc eu s.counts; names = upd-turn v rx ev s.names }
