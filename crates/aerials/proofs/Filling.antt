-- The loop that makes marks of kinds.
use mathlib.Core.Path.{◌≡◌, refl, sym, ap, ◌∙◌}
use mathlib.Core.Bool.{cond}
use mathlib.Core.List.{List, map as each}
use Prim.Native.Nat.{ℕ, ◌+◌, ◌<◌, ◌≤◌}
use native.Mathlib.Omega.{arith}
use lib.Dec.{ltb}
use lib.ListN.{length, get_or, set, length-map, length-set}
use lib.Seq.{ext_get_or, get_or-set_other}
use Rattle.lists.specs.Buffers.{filled_more}
use Rattle.lists.specs.ListLaws.{map_at}

abbrev pub mark_of_kind : ℕ → ℕ
mark_of_kind k = cond (ltb 1 k) 1 0

pub record Marked (before : List ℕ) (p : ℕ) (map : List ℕ) : Type 0 where
  pub long : length map ≡ length before
  pub done : (k : ℕ) → k < p → get_or map k 0 ≡ mark_of_kind (get_or before k 0)
  pub rest : (k : ℕ) → p ≤ k → get_or map k 0 ≡ get_or before k 0

pub none-marked : (map : List ℕ) → Marked map 0 map
none-marked map = record { long = refl; done = λ k h. absurd (omega arith); rest = λ k h. refl }

pub marked_more : (before map : List ℕ) (p v : ℕ) → Marked before p map → p < length before → v ≡ mark_of_kind (get_or map p 0) → Marked before (p + 1) (set map p v)
marked_more before map p v m h e = let l = m.long in record {
  long = length-set map p v ∙ l;
  done = filled_more 0 (λ j. mark_of_kind (get_or before j 0)) map p v (omega arith) m.done (e ∙ ap mark_of_kind (m.rest p (omega arith)));
  rest = λ k g. get_or-set_other map p k v 0 (λ z. omega arith) ∙ m.rest k (omega arith);
}

pub marked_all : (before map : List ℕ) (p : ℕ) → Marked before p map → length before ≤ p → map ≡ each mark_of_kind before
marked_all before map p m end = ext_get_or 0 map (each mark_of_kind before) (m.long ∙ sym (length-map before mark_of_kind))
    (λ k h. let l = m.long in m.done k (omega arith) ∙ sym (map_at mark_of_kind before k 0 0 (omega arith)))
