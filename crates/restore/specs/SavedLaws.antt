-- A part of a buffer that is saved, and a map that is saved and put back.
use Rattle.std.specs.Prelude.{◌≡◌, List, ℕ, ◌+◌, ◌<◌, ◌≤◌, length, get_or, take, drop}
use Rattle.std.proofs.Common.{sym, ap, ◌∙◌, subst, arith, ext_get_or, take_all}
use Rattle.lists.specs.Buffers.{written-bytes, written-whole, part_length, get_d_part}
use Rattle.lists.specs.Lists.{written}

-- the n bytes of l from at on, saved in front of a buffer z
module _ (z l sv : List ℕ) (at n : ℕ) (room : n ≤ length z) (inside : at + n ≤ length l) (e : sv ≡ written z 0 (take n (drop at l))) where
  pub part_room : n ≤ length sv
  part_room =
      let w = written-bytes z 0 (take n (drop at l)) n (part_length l at n inside) (omega arith) in
      subst (λ x. n ≤ length x) (sym e) (omega (arith, w.len))

  -- are what is read there
  pub part-saved : take n (drop 0 sv) ≡ take n (drop at l)
  part-saved =
      let long : length (take n (drop at l)) ≡ n = part_length l at n inside in
      let part : length (take n (drop 0 sv)) ≡ n = part_length sv 0 n (let r = part_room in omega arith) in
      let w = written-bytes z 0 (take n (drop at l)) n long (omega arith) in
      ext_get_or 0 (take n (drop 0 sv)) (take n (drop at l)) (part ∙ sym long)
      (λ i h. let k : i < n = subst (λ x. i < x) part h in get_d_part sv 0 n i k ∙ ap (λ x. get_or x (0 + i) 0) e ∙ w.inside i k)

pub saved-room : (z l sv : List ℕ) (n : ℕ) → n ≤ length z → length l ≡ n → sv ≡ written z 0 (take n (drop 0 l)) → n ≤ length sv
saved-room z l sv n room ll e = part_room z l sv 0 n room (omega arith) e

-- the map in front of the buffer
pub saved-is : (z l sv : List ℕ) (n : ℕ) → n ≤ length z → length l ≡ n → sv ≡ written z 0 (take n (drop 0 l)) → take n (drop 0 sv) ≡ l
saved-is z l sv n room ll e = part-saved z l sv 0 n room (omega arith) e ∙ take_all n l (omega arith)

pub put_back : (z l l₂ sv l₃ : List ℕ) (n : ℕ) → n ≤ length z → length l ≡ n → length l₂ ≡ n → sv ≡ written z 0 (take n (drop 0 l)) → l₃ ≡ written l₂ 0 (take n (drop 0 sv)) → l₃ ≡ l
put_back z l l₂ sv l₃ n room ll l2 e g =
    g ∙ written-whole l₂ (take n (drop 0 sv)) (part_length sv 0 n (let r = saved-room z l sv n room ll e in omega arith) ∙ sym l2)
    ∙ saved-is z l sv n room ll e
