-- A loop over the places of a check that does something at each: one turn.
use Rattle.std.specs.Prelude.{◌≡◌, refl, Bool, true, false, ◌||◌, List, [], ◌∷◌, ℕ, zero, suc, ◌+◌, ◌<◌, eqb, length, get_or, set, take, drop}
use Rattle.std.proofs.Common.{sym, ap, ◌∙◌, add-one, arith, length-set, take-suc, get_or-set_same, get_or-set_other}
use Rattle.std.proofs.lemmas.Bool.{false≢true}
use Rattle.std.specs.Int.Bits.{bit_xor}
use Rattle.lists.specs.Tests.{eqb-true, eqb-false, eqb-self, by_bool}
use Rattle.lists.specs.ListLaws.{has-append}
use Rattle.lists.specs.Lists.{has, All, Distinct, Distinct.dnil, Distinct.dnew}
use Rattle.lists.specs.Buffers.{part_length, get_d_part}
use Rattle.table.specs.Accepted.{Accepted, each-places}
use Rattle.table.specs.Checks.{Places, check}
use Rattle.table.specs.SumLaws.{places-low}
use Rattle.live.specs.Live.{Upd, Marked}

or-false : (a : Bool) → (a || false) ≡ a
or-false true = refl
or-false false = refl

or-true : (a : Bool) → (a || true) ≡ true
or-true true = refl
or-true false = refl

has_more : (p : ℕ) (l : List ℕ) (i : ℕ) → i < length l → has p (take (i + 1) l) ≡ (has p (take i l) || eqb p (get_or l i 0))
has_more p l i h = ap (has p) (ap (λ (k : ℕ). take k l) (add-one i) ∙ take-suc l i 0 h) ∙ has-append p (take i l) (get_or l i 0 ∷ [])
    ∙ ap (λ b. has p (take i l) || b) (or-false (eqb p (get_or l i 0)))

-- a member stands there
has-at : (l : List ℕ) (i : ℕ) → i < length l → has (get_or l i 0) l ≡ true
has-at [] i h = absurd (omega arith)
has-at (a ∷ l) zero h = rw (eqb-self a)
has-at (a ∷ l) (suc i) h = by_bool (eqb (get_or l i 0) a) (λ e. rw e) (λ e. rw e (has-at l i (omega arith)))

-- and, where no number stands twice, not before
not-before : (l : List ℕ) → Distinct l → (i : ℕ) → i < length l → has (get_or l i 0) (take i l) ≡ false
not-before l d zero h = refl
not-before [] dnil (suc i) h = refl
not-before (x ∷ l) (dnew e d) (suc i) h = by_bool (eqb (get_or l i 0) x)
    (λ z. absurd (false≢true (sym e ∙ rw (eqb-true _ _ z) at (has-at l i (omega arith)))))
    (λ z. rw z (not-before l d i (omega arith)))

has-below : (q : ℕ) (l : List ℕ) → ((k : ℕ) → k < length l → q < get_or l k 0) → has q l ≡ false
has-below q [] h = refl
has-below q (a ∷ l) h = by_bool (eqb q a)
    (λ e. let z : q ≡ a = eqb-true q a e in let y = h 0 (omega arith) in absurd (omega arith))
    (λ e. rw e (has-below q l (λ k z. h (suc k) (omega arith))))

rises-apart : (l : List ℕ) → ((i k : ℕ) → i < k → k < length l → get_or l i 0 < get_or l k 0) → Distinct l
rises-apart [] h = dnil
rises-apart (a ∷ l) h = dnew (has-below a l (λ k z. h 0 (suc k) (omega arith) (omega arith))) (rises-apart l (λ i k y z. h (suc i) (suc k) (omega arith) (omega arith)))

-- the places of a check differ
pub places-apart : {t : List ℕ} {at weight n : ℕ} → Places t at weight n → Distinct (take weight (drop at t))
places-apart {t} {at} {weight} ps = rises-apart (take weight (drop at t)) (λ i k y z.
    let l = part_length t at weight ps.room in
    let g : k < weight = omega arith in
    rw (get_d_part t at weight i (omega arith), get_d_part t at weight k g) (ps.rising i k y g))

-- those of check j of an accepted table, which lie below n
module _ {t : List ℕ} {m n s : ℕ} (a : Accepted t m n s) (j : ℕ) (h : j < m) where
  pub check-apart : Distinct (check t m j)
  unfolding check
  check-apart = places-apart (each-places t m n s a j h)

  pub check-low : All (λ p. p < n) (check t m j)
  unfolding check
  check-low = places-low (each-places t m n s a j h)

pub upd-none : (f : ℕ → ℕ) (c : List ℕ) → Upd f c [] c
upd-none f c = record { len = refl; each = λ p. refl }

pub marked-none : (f : ℕ → ℕ) (c x : List ℕ) (j : ℕ) → Marked f c x [] j c x
marked-none f c x j = record { counts = upd-none f c; names = upd-none _ x }

-- ---- p is the i-th of the places ps
module _ {ps : List ℕ} (d : Distinct ps) (i : ℕ) (more : i < length ps) (p : ℕ) (here : p ≡ get_or ps i 0) where
  -- it is none of those before
  new : has p (take i ps) ≡ false
  new = rw here (not-before ps d i more)

  more-has : (q : ℕ) → has q (take (i + 1) ps) ≡ (has q (take i ps) || eqb q p)
  more-has q = has_more q ps i more ∙ ap (λ (v : ℕ). has q (take i ps) || eqb q v) (sym here)

  -- and holds what it held
  pub not_yet : {f : ℕ → ℕ} {c₀ c : List ℕ} → Upd f c₀ (take i ps) c → get_or c p 0 ≡ get_or c₀ p 0
  not_yet u = u.each p ∙ rw new

  pub upd-turn : {f : ℕ → ℕ} {c₀ c : List ℕ} (v : ℕ) → p < length c₀ → v ≡ f (get_or c p 0) → Upd f c₀ (take i ps) c → Upd f c₀ (take (i + 1) ps) (set c p v)
  upd-turn {f} {c₀} {c} v low w u =
      let l = u.len in
      record {
        len = simp length-set l;
        each = λ q. by_bool (eqb q p)
            (λ a. let b : q ≡ p = eqb-true q p a in
            rw (b, more-has p, eqb-self p, or-true) (get_or-set_same c p v 0 (omega arith) ∙ w ∙ ap f (not_yet u)))
            (λ a. rw (more-has q, a, or-false) (get_or-set_other c p q v 0 (eqb-false q p a) ∙ u.each q));
      }

  -- ---- counts and names
  pub marked_turn : {f : ℕ → ℕ} {c₀ x₀ c x : List ℕ} {j : ℕ} → Marked f c₀ x₀ (take i ps) j c x → p < length c₀ → p < length x₀
      → (u v : ℕ) → u ≡ f (get_or c p 0) → v ≡ bit_xor (get_or x p 0) j → Marked f c₀ x₀ (take (i + 1) ps) j (set c p u) (set x p v)
  marked_turn s rc rx u v eu ev = record { counts = upd-turn u rc eu s.counts; names = upd-turn v rx ev s.names }
