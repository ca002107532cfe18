-- The front of a buffer: numbers are written there one after another, and the rest is kept.
use Rattle.std.specs.Prelude.{◌≡◌, refl, List, [], ◌∷◌, ◌++◌, ℕ, suc, ◌+◌, ◌<◌, ◌≤◌, length, set, take, drop}
use Rattle.std.proofs.Common.{sym, ap, ap₂, ◌∙◌, subst, arith, length-append, length-drop, take_at}

-- e is old with ps in front; k is how many they are
pub record Front (ps old e : List ℕ) (k : ℕ) : Type 0 where
  pub count : k ≡ length ps
  pub list : e ≡ ps ++ drop (length ps) old

pub front-none : (old : List ℕ) → Front [] old old 0
front-none old = record { count = refl; list = refl }

one-longer : (ps : List ℕ) (v : ℕ) → length (ps ++ (v ∷ [])) ≡ suc (length ps)
one-longer ps v = simp length-append (omega arith)

set_front : (ps old : List ℕ) (v : ℕ) → length ps < length old → set (ps ++ drop (length ps) old) (length ps) v ≡ (ps ++ (v ∷ [])) ++ drop (suc (length ps)) old
set_front [] [] v h = absurd (omega arith)
set_front [] (x ∷ old) v h = refl
set_front (p ∷ ps) [] v h = absurd (omega arith)
set_front (p ∷ ps) (x ∷ old) v h = ap (λ r. p ∷ r) (set_front ps old v (omega arith))

-- one number more
pub front-more : {ps old e : List ℕ} {k : ℕ} (v : ℕ) → Front ps old e k → k < length old → Front (ps ++ (v ∷ [])) old (set e k v) (k + 1)
front-more {ps} {old} {e} {k} v f h =
    let c = f.count in
    let one = one-longer ps v in
    record {
      count = omega arith;
      list = ap₂ (λ (l : List ℕ) (i : ℕ). set l i v) f.list f.count ∙ set_front ps old v (omega arith) ∙ ap (λ (i : ℕ). (ps ++ (v ∷ [])) ++ drop i old) (sym one);
    }

pub front_length : {ps old e : List ℕ} {k : ℕ} → Front ps old e k → k ≤ length old → length e ≡ length old
front_length {ps} {old} f h = let c = f.count in ap length f.list ∙ simp (length-append, length-drop) (omega arith)

-- the same list
pub front-is : {ps qs old e : List ℕ} {k : ℕ} → Front ps old e k → ps ≡ qs → Front qs old e k
front-is {old = old} {e = e} {k = k} f h = subst (λ l. Front l old e k) h f

-- it has room
pub front-room : {ps old e : List ℕ} {k : ℕ} → Front ps old e k → k ≤ length e
front-room {ps} {old} f = let c = f.count in let l = ap length f.list ∙ length-append ps (drop (length ps) old) in omega arith

-- the front alone
pub front-taken : {ps old e : List ℕ} {k : ℕ} → Front ps old e k → take k e ≡ ps
front-taken {ps} {old} f = ap₂ take f.count f.list ∙ take_at ps (drop (length ps) old) (length ps) refl
