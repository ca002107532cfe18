-- All events of the peeling: what is written so far, and what the rest decides.
use mathlib.Core.Path.{◌≡◌, refl, sym, ap, ap₂, ◌∙◌, subst}
use mathlib.Core.List.{List, [], ◌∷◌, ◌++◌, map, append_assoc, append-nil}
use mathlib.Core.Option.{none, some}
use Prim.Native.Nat.{ℕ, zero, suc, ◌+◌, ◌-◌, ◌<◌}
use native.Mathlib.Numerals.{add-one}
use native.Mathlib.Omega.{arith}
use lib.ListN.{length, get_or, set, take}
use lib.Seq.{get_or-set_same, get_or-set_other, take-suc-set}
use lib.Dec.{eqb}
use Rattle.lists.specs.Tests.{eqb-true, eqb-false, by_bool}
use Rattle.lists.specs.Lists.{highest, has}
use Rattle.lists.specs.ListLaws.{highest-lt}
use Rattle.rule.specs.Buffers.{solved}
use Rattle.table.specs.Accepted.{Located}
use Rattle.table.specs.Checks.{check}
use Rattle.rule.specs.Rule.{Solved, in_one_only, most_freed, peel_by, peel, solved_of, set_aside_of, PeelEvent, took, aside}
use Rattle.freed.specs.Most.{lives}
use Rattle.peel.specs.declared.Event.{Event}
use Rattle.peel.specs.declared.Event.TheVariants.{Took, Aside}
use Rattle.peel.specs.Turn.{less, In, Pick, Picked, Picked.by_place, Picked.by-choice, Ready, Removed, Low, Peeled}
use Rattle.peel.proofs.Turns.{map-append, in-length, in-flag}

pub record PlaceSays (g : ℕ → List ℕ) (JS : List ℕ) (n p j : ℕ) : Type 0 where
  pub top : highest n (in_one_only (map g JS)) ≡ some p
  pub pick : Pick g (has p) JS j

pub record ChoiceSays (g : ℕ → List ℕ) (JS : List ℕ) (n j : ℕ) : Type 0 where
  pub top : highest n (in_one_only (map g JS)) ≡ none
  pub pick : Pick g (most_freed (map g JS)) JS j

abbrev Says : (ℕ → List ℕ) → List ℕ → ℕ → Event → Type 0
Says g JS n (Took p j) = PlaceSays g JS n p j
Says g JS n (Aside j) = ChoiceSays g JS n j

says : {g : ℕ → List ℕ} {JS : List ℕ} {n : ℕ} {e : Event} → Picked g JS n e → Says g JS n e
says (by_place h p) = record { top = h; pick = p }
says (by-choice h p) = record { top = h; pick = p }

pub place-says : {g : ℕ → List ℕ} {JS : List ℕ} {n : ℕ} {e : Event} (p j : ℕ) → Picked g JS n e → e ≡ Took p j → PlaceSays g JS n p j
place-says {g} {JS} {n} p j k q = subst (Says g JS n) q (says k)

pub choice-says : {g : ℕ → List ℕ} {JS : List ℕ} {n : ℕ} {e : Event} (j : ℕ) → Picked g JS n e → e ≡ Aside j → ChoiceSays g JS n j
choice-says {g} {JS} {n} j k q = subst (Says g JS n) q (says k)

peel-took : (g : ℕ → List ℕ) (JS : List ℕ) (n p j k : ℕ) → PlaceSays g JS n p j → peel (suc k) n (map g JS) ≡ took p (g j) ∷ peel k n (map g (less j JS))
peel-took g JS n p j k s = rw (s.top, peel_by) (ap₂ (λ (c : List ℕ) (l : List (List ℕ)). took p c ∷ peel k n l) s.pick.is-first s.pick.is-rest)

peel-aside : (g : ℕ → List ℕ) (JS : List ℕ) (n j k : ℕ) → ChoiceSays g JS n j → peel (suc k) n (map g JS) ≡ aside (g j) ∷ peel k n (map g (less j JS))
peel-aside g JS n j k s = rw (s.top, peel_by) (ap₂ (λ (c : List ℕ) (l : List (List ℕ)). aside c ∷ peel k n l) s.pick.is-first s.pick.is-rest)

solved-same : (g : ℕ → List ℕ) (a b c d : List ℕ) (k : ℕ) → ((i : ℕ) → i < k → get_or a i 0 ≡ get_or c i 0) → ((i : ℕ) → i < k → get_or b i 0 ≡ get_or d i 0) → solved g a b k ≡ solved g c d k
unfolding solved
solved-same g a b c d zero h l = refl
solved-same g a b c d (suc k) h l = ap₂ (λ (ts : List Solved) (t : Solved). ts ++ (t ∷ [])) (solved-same g a b c d k (λ i z. h i (omega arith)) (λ i z. l i (omega arith)))
    (ap₂ (λ (x y : ℕ). record { own = y; check = g x }) (h k (omega arith)) (l k (omega arith)))

solved-more : (g : ℕ → List ℕ) (a b : List ℕ) (k j p : ℕ) → k < length a → k < length b → solved g (set a k j) (set b k p) (k + 1) ≡ solved g a b k ++ (record { own = p; check = g j } ∷ [])
unfolding solved
solved-more g a b k j p la lb = ap (solved g (set a k j) (set b k p)) (add-one k)
    ∙ ap₂ (λ (ts : List Solved) (t : Solved). ts ++ (t ∷ []))
    (solved-same g (set a k j) (set b k p) a b k (λ i z. get_or-set_other a k i j 0 (λ (y : i ≡ k). omega arith)) (λ i z. get_or-set_other b k i p 0 (λ (y : i ≡ k). omega arith)))
    (ap₂ (λ (x y : ℕ). record { own = y; check = g x }) (get_or-set_same a k j 0 la) (get_or-set_same b k p 0 lb))

aside-more : (g : ℕ → List ℕ) (a : List ℕ) (k j : ℕ) → k < length a → map g (take (k + 1) (set a k j)) ≡ map g (take k a) ++ (g j ∷ [])
aside-more g a k j h = ap (map g) (ap (λ (i : ℕ). take i (set a k j)) (add-one k) ∙ take-suc-set a k j h) ∙ map-append g (take k a) (j ∷ [])

-- ---- one number more
bound-more : (l : List ℕ) (k v b : ℕ) → k < length l → v < b → ((i : ℕ) → i < k → get_or l i 0 < b) → (i : ℕ) → i < k + 1 → get_or (set l k v) i 0 < b
bound-more l k v b h u r i z = by_bool (eqb i k)
    (λ e. let q : i ≡ k = eqb-true i k e in rw (q, get_or-set_same l k v 0 h) u)
    (λ e. let q = eqb-false i k e in rw (get_or-set_other l k i v 0 q) (r i (omega arith)))

low-none : (m n : ℕ) (order owns adj : List ℕ) → Low m n order owns adj 0 0
low-none m n order owns adj = record { numbers = λ i z. absurd (omega arith); own = λ i z. absurd (omega arith); asides = λ i z. absurd (omega arith) }

low-took : {m n : ℕ} {order owns adj : List ℕ} {kt ka : ℕ} (j p : ℕ) → Low m n order owns adj kt ka → j < m → p < n → kt < length order → kt < length owns
    → Low m n (set order kt j) (set owns kt p) adj (kt + 1) ka
low-took {m} {n} {order} {owns} {adj} {kt} j p l hj hp lo lw = record {
  numbers = bound-more order kt j m lo hj l.numbers;
  own = bound-more owns kt p n lw hp l.own;
  asides = l.asides;
}

low-aside : {m n : ℕ} {order owns adj : List ℕ} {kt ka : ℕ} (j : ℕ) → Low m n order owns adj kt ka → j < m → ka < length adj → Low m n order owns (set adj ka j) kt (ka + 1)
low-aside {m} {n} {order} {owns} {adj} {kt} {ka} j l hj la = record { numbers = l.numbers; own = l.own; asides = bound-more adj ka j m la hj l.asides }

pub place-low : {g : ℕ → List ℕ} {JS : List ℕ} {n p j : ℕ} → PlaceSays g JS n p j → p < n
place-low {g} {JS} {n} {p} y = highest-lt n (in_one_only (map g JS)) p y.top

-- every buffer is as long as it was
pub record SameLengths (l₀ c₀ x₀ o₀ w₀ a₀ l c x o w a : List ℕ) : Type 0 where
  pub live : length l ≡ length l₀
  pub count : length c ≡ length c₀
  pub names : length x ≡ length x₀
  pub order : length o ≡ length o₀
  pub owns : length w ≡ length w₀
  pub aside : length a ≡ length a₀

-- the state of the loop: taken checks have an own place, put are set aside, left are live
pub record Going (t : List ℕ) (m n total : ℕ) (live₀ live count names order owns adj : List ℕ) (taken put left : ℕ) : Type 0 where
  pub ready : Ready t m n live count names
  pub size : left ≡ length (lives live 0 m)
  pub sum : taken + put + left ≡ total
  pub owned : solved_of (peel total n (map (check t m) (lives live₀ 0 m))) ≡ solved (check t m) order owns taken ++ solved_of (peel left n (map (check t m) (lives live 0 m)))
  pub by : set_aside_of (peel total n (map (check t m) (lives live₀ 0 m))) ≡ map (check t m) (take put adj) ++ set_aside_of (peel left n (map (check t m) (lives live 0 m)))
  pub low : Low m n order owns adj taken put

pub go-start : (t : List ℕ) (m n total : ℕ) (live count names order owns adj : List ℕ) → Ready t m n live count names → total ≡ length (lives live 0 m)
    → Going t m n total live live count names order owns adj 0 0 total
unfolding solved
go-start t m n total live count names order owns adj r e = record { ready = r; size = e; sum = omega arith; owned = refl; by = refl; low = low-none m n order owns adj }

module _ {t : List ℕ} {m n total : ℕ} {live₀ live count names order owns adj live' count' names' : List ℕ} {taken put left : ℕ}
    (s : Going t m n total live₀ live count names order owns adj taken put left) (more : 0 < left) where
  pub went : (j : ℕ) → Removed t m (length count) j live live' count' names' → In j (lives live 0 m) → Ready t m n live' count' names' × (left - 1 ≡ length (lives live' 0 m))
  went j r h =
      let z = s.size in
      let l = in-length j h in
      (subst (λ (k : ℕ). Ready t m k live' count' names') (sym s.ready.counts) r.ready, rw r.list (omega arith))

  pub go-took : (p j : ℕ) → PlaceSays (check t m) (lives live 0 m) n p j → Removed t m (length count) j live live' count' names' → taken < length order → taken < length owns
      → Going t m n total live₀ live' count' names' (set order taken j) (set owns taken p) adj (taken + 1) put (left - 1)
  go-took p j y r lo lw =
      let e : left ≡ suc (left - 1) = omega arith in
      let P : peel left n (map (check t m) (lives live 0 m)) ≡ took p ((check t m) j) ∷ peel (left - 1) n (map (check t m) (lives live' 0 m)) =
      ap (λ (k : ℕ). peel k n (map (check t m) (lives live 0 m))) e ∙ peel-took (check t m) (lives live 0 m) n p j (left - 1) y ∙ rw r.list in
      let w = went j r y.pick.member in
      let sm = s.sum in
      record {
        ready = w.0;
        size = w.1;
        sum = omega arith;
        owned = s.owned ∙ ap (λ (es : List PeelEvent). solved (check t m) order owns taken ++ solved_of es) P
            ∙ sym (append_assoc (solved (check t m) order owns taken) (record { own = p; check = (check t m) j } ∷ []) (solved_of (peel (left - 1) n (map (check t m) (lives live' 0 m)))))
            ∙ ap (λ (l : List Solved). l ++ solved_of (peel (left - 1) n (map (check t m) (lives live' 0 m)))) (sym (solved-more (check t m) order owns taken j p lo lw));
        by = s.by ∙ ap (λ (es : List PeelEvent). map (check t m) (take put adj) ++ set_aside_of es) P;
        low = low-took j p s.low (in-flag live m j y.pick.member).0 (place-low y) lo lw;
      }

  pub go-aside : (j : ℕ) → ChoiceSays (check t m) (lives live 0 m) n j → Removed t m (length count) j live live' count' names' → put < length adj
      → Going t m n total live₀ live' count' names' order owns (set adj put j) taken (put + 1) (left - 1)
  go-aside j y r la =
      let e : left ≡ suc (left - 1) = omega arith in
      let P : peel left n (map (check t m) (lives live 0 m)) ≡ aside ((check t m) j) ∷ peel (left - 1) n (map (check t m) (lives live' 0 m)) =
      ap (λ (k : ℕ). peel k n (map (check t m) (lives live 0 m))) e ∙ peel-aside (check t m) (lives live 0 m) n j (left - 1) y ∙ rw r.list in
      let w = went j r y.pick.member in
      let sm = s.sum in
      record {
        ready = w.0;
        size = w.1;
        sum = omega arith;
        owned = s.owned ∙ ap (λ (es : List PeelEvent). solved (check t m) order owns taken ++ solved_of es) P;
        by = s.by ∙ ap (λ (es : List PeelEvent). map (check t m) (take put adj) ++ set_aside_of es) P
            ∙ sym (append_assoc (map (check t m) (take put adj)) ((check t m) j ∷ []) (set_aside_of (peel (left - 1) n (map (check t m) (lives live' 0 m)))))
            ∙ ap (λ (l : List (List ℕ)). l ++ set_aside_of (peel (left - 1) n (map (check t m) (lives live' 0 m)))) (sym (aside-more (check t m) adj put j la));
        low = low-aside j s.low (in-flag live m j y.pick.member).0 la;
      }

pub go-stop : {t : List ℕ} {m n total : ℕ} {live₀ live count names order owns adj : List ℕ} {taken put : ℕ}
    → Going t m n total live₀ live count names order owns adj taken put 0 → Peeled (check t m) m n total (lives live₀ 0 m) order owns adj taken put
go-stop s = let sm = s.sum in record { took = s.owned ∙ append-nil _; set-aside = s.by ∙ append-nil _; sum = omega arith; low = s.low }

-- n is the length of the counts
pub remove-ready : {t : List ℕ} {m n : ℕ} {starts live c x : List ℕ} → Located t m n starts → Ready t m n live c x → Located t m (length c) starts × Ready t m (length c) live c x
remove-ready {t} {m} {n} {starts} {live} {c} {x} l r = (subst (λ (k : ℕ). Located t m k starts) r.counts l, subst (λ (k : ℕ). Ready t m k live c x) r.counts r)
