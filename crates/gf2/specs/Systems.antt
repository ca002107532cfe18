-- Rows with a sum each: some state has all their sums exactly if no choice of rows sums to nothing while their sums don't.
use Rattle.std.specs.Prelude.{◌≡◌, Bool, true, false, cond, List, [], ◌∷◌, map, ◌⊎◌, ℕ, ◌^◌, ◌<◌}
use Rattle.std.proofs.Common.{sym, ap, ap₂, ◌∙◌, inl, inr}
use Rattle.std.specs.Int.Bits.{bit_xor}
use Rattle.gf2.specs.Gf2.{bit, Group2, xor_group, sum_over, comb}
use Rattle.gf2.specs.Group.{eq-zero, zr, cancel-r}
use Rattle.gf2.specs.Linear.{lin-o}
use Rattle.gf2.specs.RowValue.{val, at, val-lin, val-add, val-scale}
use Rattle.gf2.specs.Separate.{meets, Apart, separate}
use Rattle.gf2.specs.Span.{Span}
use Rattle.lists.specs.ListLaws.{map-all}
use Rattle.lists.specs.Lists.{below, All, All.nil, All.cons}

module _ {A : Type 0} (G : Group2 A) {X : Type 0} (f : X → ℕ) (g : X → A) where
  open G use {◌⊕◌, o, comm}

  -- the state has every row's sum
  abbrev pub Meets : (ℕ → A) → ℕ → List X → Type 0
  Meets st n cs = All (λ c. val G st n (f c) ≡ g c) cs

  -- what sums to nothing has sum nothing
  abbrev pub Calm : List X → Type 0
  Calm cs = (m : List Bool) → comb xor_group m (map f cs) ≡ 0 → comb G m (map g cs) ≡ o

  -- a state that has every row's sum has every sum of rows'
  pub meets-comb : (st : ℕ → A) (n : ℕ) {cs : List X} → Meets st n cs → (m : List Bool) → val G st n (comb xor_group m (map f cs)) ≡ comb G m (map g cs)
  meets-comb st n nil m = lin-o xor_group G (val-lin G st n)
  meets-comb st n (cons e a) [] = lin-o xor_group G (val-lin G st n)
  meets-comb st n (cons {x = c} {l = cs} e a) (true ∷ m) = (val-lin G st n).adds (f c) (comb xor_group m (map f cs)) ∙ ap₂ ◌⊕◌ e (meets-comb st n a m)
  meets-comb st n (cons e a) (false ∷ m) = meets-comb st n a m

  -- so there nothing clashes
  pub meets-calm : (st : ℕ → A) (n : ℕ) {cs : List X} → Meets st n cs → Calm cs
  meets-calm st n a m e = sym (meets-comb st n a m) ∙ ap (val G st n) e ∙ lin-o xor_group G (val-lin G st n)

  -- e added at the places of a set
  abbrev pub shifted : (ℕ → A) → (ℕ → Bool) → A → ℕ → A
  shifted st d e p = st p ⊕ cond (d p) e o

  -- what a row comes to then
  pub val-shifted : (st : ℕ → A) (d : ℕ → Bool) (e : A) (n r : ℕ) → val G (shifted st d e) n r ≡ val G st n r ⊕ cond (meets d n r) e o
  val-shifted st d e n r = val-add G st (λ p. cond (d p) e o) n r ∙ ap (λ x. val G st n r ⊕ x) (val-scale G d e n r)

  -- .. of a set that every row meets evenly changes no row's sum
  pub shifted_even : (st : ℕ → A) (d : ℕ → Bool) (e : A) (n : ℕ) (cs : List X) → All (λ r. meets d n r ≡ false) (map f cs) → Meets st n cs → Meets (shifted st d e) n cs
  shifted_even st d e n [] z nil = nil
  shifted_even st d e n (c ∷ cs) (cons z zs) (cons h a) = cons
      (val-shifted st d e n (f c) ∙ ap (λ b. val G st n (f c) ⊕ cond b e o) z ∙ zr G _ ∙ h)
      (shifted_even st d e n cs zs a)

  -- values within a part that is closed under sums
  module _ (P : A → Type 0) (po : P o) (pa : (a b : A) → P a → P b → P (a ⊕ b)) where
    -- what a row comes to
    pub val-within : (st : ℕ → A) → ((p : ℕ) → P (st p)) → (n r : ℕ) → P (val G st n r)
    val-within st h n r = go (below n)
      where
        one : (b : Bool) (p : ℕ) → P (cond b (st p) o)
        one true p = h p
        one false p = po

        go : (l : List ℕ) → P (sum_over G (at G st r) l)
        go [] = po
        go (p ∷ l) = pa _ _ (one (bit p r) p) (go l)

    -- a state with such a value added
    pub shifted-within : (st : ℕ → A) (d : ℕ → Bool) (e : A) → ((p : ℕ) → P (st p)) → P e → (p : ℕ) → P (shifted st d e p)
    shifted-within st d e h k p = pa _ _ (h p) (one (d p))
      where
        one : (b : Bool) → P (cond b e o)
        one true = k
        one false = po

    -- a state with every row's sum
    pub record Solution (n : ℕ) (cs : List X) : Type 0 where
      pub state : ℕ → A
      pub within : (p : ℕ) → P (state p)
      pub meets-all : Meets state n cs

    -- where nothing clashes there is one: row after row
    pub solution : (n : ℕ) {cs : List X} → All (λ c. f c < 2 ^ n) cs → All (λ c. P (g c)) cs → Calm cs → Solution n cs
    solution n nil nil h = record { state = λ p. o; within = λ p. po; meets-all = nil }
    solution n (cons {x = c} {l = cs} l ls) (cons p ps) h = add_row (solution n ls ps (λ m e. h (false ∷ m) e)) (separate n (map f cs) (f c) l (map-all f ls))
      where
        add_row : Solution n cs → Span xor_group (map f cs) (f c) ⊎ Apart n (map f cs) (f c) → Solution n (c ∷ cs)
        add_row s (inl q) = record {
          state = s.state;
          within = s.within;
          meets-all = cons (ap (val G s.state n) (sym q.sums) ∙ meets-comb s.state n s.meets-all q.mask
              ∙ sym (eq-zero G (g c) _ (h (true ∷ q.mask) (ap (bit_xor (f c)) q.sums ∙ xor_group.self (f c))))) s.meets-all;
        }
        add_row s (inr d) = let e = g c ⊕ val G s.state n (f c) in record {
          state = shifted s.state d.set e;
          within = shifted-within s.state d.set e s.within (pa _ _ p (val-within s.state s.within n (f c)));
          meets-all = cons (val-shifted s.state d.set e n (f c) ∙ ap (λ b. val G s.state n (f c) ⊕ cond b e o) d.odd
              ∙ comm _ _ ∙ cancel-r G (g c) _) (shifted_even s.state d.set e n cs d.even s.meets-all);
        }
