-- The fill's invariant, and what putting a one does to it.
use Rattle.std.specs.Prelude.{◌≡◌, refl, Bool, true, false, List, [], ◌∷◌, ℕ, zero, suc, ◌<◌, ◌≤◌, length, get_or, set, drop}
use Rattle.std.proofs.Common.{sym, ap, ◌∙◌, subst, arith, length-set}
use Rattle.std.proofs.lemmas.Bool.{false≢true}
use Rattle.std.proofs.Math.Option.{Option, none, some}
use Rattle.lists.specs.Lists.{has, any_of, All, All.nil, All.cons, count}
use Rattle.fill.specs.Fill.{State, put, and_then}
use Rattle.fill.specs.PutLaws.{count-put, count-keeps, length-put, length-keeps, Row, row_put}

-- m rows of different source places; u has its entries, which are rows, and t is no more than their number
pub record Good (k m entries : ℕ) (s : State) : Type 0 where
  pub long : length s.rows ≡ m
  pub each : All (Row k) s.rows
  pub low : All (λ x. x < m) s.order
  pub whole : length s.order ≡ entries
  pub within : s.used ≤ entries

-- no column and no row has fewer ones
pub record Grown (s r : State) : Type 0 where
  pub columns-keep : (q : ℕ) → count (has q) s.rows ≤ count (has q) r.rows
  pub rows-keep : (i : ℕ) → length (get_or s.rows i []) ≤ length (get_or r.rows i [])

-- nothing changed
pub grown-self : (s : State) → Grown s s
grown-self s = record { columns-keep = λ q. omega arith; rows-keep = λ i. omega arith }

-- one after another
pub grown-trans : {a b c : State} → Grown a b → Grown b c → Grown a c
grown-trans f g = record {
  columns-keep = λ q. let x = f.columns-keep q in let y = g.columns-keep q in omega arith;
  rows-keep = λ i. let x = f.rows-keep i in let y = g.rows-keep i in omega arith;
}

-- ---- helpers
-- an entry of u, or 0
pub entry-low : {m : ℕ} {u : List ℕ} → 0 < m → All (λ x. x < m) u → (i : ℕ) → get_or u i 0 < m
entry-low h nil i = h
entry-low h (cons l a) zero = l
entry-low h (cons l a) (suc i) = entry-low h a i

-- an entry replaced
pub entry_set : {m : ℕ} {u : List ℕ} → All (λ x. x < m) u → (i v : ℕ) → v < m → All (λ x. x < m) (set u i v)
entry_set nil i v h = nil
entry_set (cons l a) zero v h = cons h a
entry_set (cons l a) (suc i) v h = cons l (entry_set a i v h)

-- what is found is what it is
pub some_same : {s r : State} → some s ≡ some r → s ≡ r
some_same e = cc

-- nothing is not something
pub none-some : {P : Type 0} {r : State} → ◌≡◌ {A = Option State} none (some r) → P
none-some e = absurd (let z : ◌≡◌ {A = ℕ} 0 1 = cc in omega arith)

-- two steps that both found draws enough
pub both : {P : Type 0} (o : Option State) (f : State → Option State) {r : State} → and_then o f ≡ some r → ((s : State) → o ≡ some s → f s ≡ some r → P) → P
both none f e g = none-some e
both (some s) f e g = g s refl e

-- a free entry from t on: there is one
pub free-there : {X : Type 0} (f : X → Bool) (t : ℕ) (u : List X) → any_of f (drop t u) ≡ true → t < length u
free-there f zero [] e = absurd (false≢true e)
free-there f zero (x ∷ u) e = omega arith
free-there f (suc t) [] e = absurd (false≢true e)
free-there f (suc t) (x ∷ u) e = let h = free-there f t u e in omega arith

-- ---- one put
module _ (k m entries : ℕ) where
  -- a state with a one more at (i, j)
  module _ (s : State) (good : Good k m entries s) (i j : ℕ) (row : i < m) (col : j < k) (free : has j (get_or s.rows i []) ≡ false) where
    -- the row is there
    there : i < length s.rows
    there = let l = good.long in omega arith

    -- all that a put gives
    pub put-gives : (r : State) → r.rows ≡ put s.rows i j → All (λ x. x < m) r.order → length r.order ≡ entries → r.used ≤ entries
        → Good k m entries r × (Grown s r × ((count (has j) r.rows ≡ suc (count (has j) s.rows)) × (length (get_or r.rows i []) ≡ suc (length (get_or s.rows i [])))))
    put-gives r e o w u = (
      record { long = ap length e ∙ length-set s.rows i _ ∙ good.long; each = subst (All (Row k)) (sym e) (row_put good.each i j there col free); low = o; whole = w; within = u },
      (
        record {
          columns-keep = λ q. subst (λ x. count (has q) s.rows ≤ count (has q) x) (sym e) (count-keeps s.rows i j q);
          rows-keep = λ p. subst (λ x. length (get_or s.rows p []) ≤ length (get_or x p [])) (sym e) (length-keeps s.rows i j p);
        },
        (ap (count (has j)) e ∙ count-put s.rows i j there free, ap (λ x. length (get_or x i [])) e ∙ length-put s.rows i j there),
      ),
    )
