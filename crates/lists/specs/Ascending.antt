-- Places in strictly ascending and in strictly descending order.
use Rattle.std.specs.Prelude.{Bool, List, [], ◌∷◌, ◌++◌, ℕ, zero, suc, ◌<◌, ◌≤◌}
use Rattle.std.proofs.Common.{arith}
use Rattle.lists.specs.ListLaws.{all-rev, all_map}
use Rattle.lists.specs.Lists.{below, rev, filter, All, All.nil, All.cons, Up, Up.unone, Up.uthen}
use Rattle.lists.specs.Tests.{by_bool}

-- strictly descending, below b
pub data Down : ℕ → List ℕ → Type 0 where
  none : {b : ℕ} → Down b []
  then : {b x : ℕ} {l : List ℕ} → x < b → Down x l → Down b (x ∷ l)

-- from an earlier bound
pub up-weak : {a b : ℕ} {l : List ℕ} → a ≤ b → Up b l → Up a l
up-weak h unone = unone
up-weak {a = a} h (uthen {x = x} k u) = uthen {b = a} {x = x} (omega arith) u

-- some of an ascending list
pub up-filter : (f : ℕ → Bool) {b : ℕ} {l : List ℕ} → Up b l → Up b (filter f l)
up-filter f unone = unone
up-filter f (uthen {x = x} h u) = by_bool (f x) (λ e. rw (e, filter) (uthen h (up-filter f u))) (λ e. rw (e, filter) (up-weak (omega arith) (up-filter f u)))

-- a higher one at the end
pub up-snoc : {b x : ℕ} {l : List ℕ} → Up b l → All (λ y. y < x) l → b ≤ x → Up b (l ++ (x ∷ []))
up-snoc unone nil h = uthen h unone
up-snoc (uthen k u) (cons l a) h = uthen k (up-snoc u a l)

-- all below the bound
pub down-all : {b : ℕ} {l : List ℕ} → Down b l → All (λ y. y < b) l
down-all none = nil
down-all (then {x = x} k u) = cons k (all_map (λ y h. omega arith) (down-all u))

-- the places below n, from the highest down
pub down-below : (n : ℕ) → Down n (below n)
down-below zero = none
down-below (suc n) = then {b = suc n} {x = n} (omega arith) (down-below n)

-- the other way round
pub down-rev : {b : ℕ} {l : List ℕ} → Down b l → Up 0 (rev l)
down-rev none = unone
down-rev (then k u) = up-snoc (down-rev u) (all-rev (down-all u)) (omega arith)
