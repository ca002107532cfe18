-- Numbers written one list after the other, and what is left to write.
use Rattle.std.specs.Prelude.{◌≡◌, refl, List, [], ◌∷◌, ◌++◌, ℕ, suc, ◌+◌, ◌-◌, ◌<◌, ◌≤◌, length, get_or, set, take, drop}
use Rattle.std.proofs.Common.{sym, ap, ap₂, ◌∙◌, subst, append_assoc, append-nil, add-one, arith, length-take, length-append, take-append-drop, drop-cons, take_at, drop_at, drop-drop, take-suc, length-take-le}
use Rattle.std.proofs.lemmas.List.{set_at}
use Rattle.lists.specs.Buffers.{written-length}
use Rattle.lists.specs.Lists.{written, Wrote}

-- ---- a list written from a place on
written_none : (l : List ℕ) (at : ℕ) → l ≡ written l at []
written_none l at = let e : at + 0 ≡ at = omega arith in rw e (sym (take-append-drop at l))

written-more : (l : List ℕ) (at : ℕ) (ws : List ℕ) (v : ℕ) → at + length ws < length l → set (written l at ws) (at + length ws) v ≡ written l at (ws ++ (v ∷ []))
written-more l at ws v h =
    let rest = drop (suc (at + length ws)) l in
    let long : length (take at l ++ ws) ≡ at + length ws = simp (length-append, length-take) (omega arith) in
    let next : suc (at + length ws) ≡ at + length (ws ++ (v ∷ [])) = simp length-append (omega arith) in
    ap (λ (m : List ℕ). set m (at + length ws) v) (ap (λ (m : List ℕ). take at l ++ (ws ++ m)) (drop-cons l (at + length ws) 0 h) ∙ sym (append_assoc (take at l) ws (get_or l (at + length ws) 0 ∷ rest)))
    ∙ set_at (take at l ++ ws) (get_or l (at + length ws) 0) rest v (at + length ws) long
    ∙ append_assoc (take at l) ws (v ∷ rest)
    ∙ ap (λ (m : List ℕ). take at l ++ m) (sym (append_assoc ws (v ∷ []) rest))
    ∙ ap (λ (n : ℕ). take at l ++ ((ws ++ (v ∷ [])) ++ drop n l)) next

pub wrote_none : (l : List ℕ) (at : ℕ) → Wrote l at [] l at
wrote_none l at = record { list = written_none l at; next = omega arith }

-- one more
pub wrote-more : {l : List ℕ} {at : ℕ} {ws e : List ℕ} {k : ℕ} (v : ℕ) → k < length l → Wrote l at ws e k → Wrote l at (ws ++ (v ∷ [])) (set e k v) (k + 1)
wrote-more {l} {at} {ws} {e} {k} v h w =
    let n = w.next in
    record { list = ap₂ (λ (m : List ℕ) (j : ℕ). set m j v) w.list n ∙ written-more l at ws v (omega arith); next = simp length-append (omega arith) }

-- one alone
pub wrote_one : (l : List ℕ) (at v : ℕ) → at < length l → Wrote l at (v ∷ []) (set l at v) (at + 1)
wrote_one l at v h = wrote-more v h (wrote_none l at)

pub wrote-is : {l : List ℕ} {at : ℕ} {ws vs e : List ℕ} {k : ℕ} → Wrote l at ws e k → ws ≡ vs → Wrote l at vs e k
wrote-is {l} {at} {e = e} {k = k} w q = subst (λ (x : List ℕ). Wrote l at x e k) q w

pub wrote-length : {l : List ℕ} {at : ℕ} {ws e : List ℕ} {k : ℕ} → Wrote l at ws e k → k ≤ length l → length e ≡ length l
wrote-length {l} {at} {ws} w h = let n = w.next in ap length w.list ∙ written-length l at ws (omega arith)

-- then another list
pub wrote-append : {l : List ℕ} {at : ℕ} {ws vs e f : List ℕ} {k r : ℕ} → k ≤ length l → Wrote l at ws e k → Wrote e k vs f r → Wrote l at (ws ++ vs) f r
wrote-append {l} {at} {ws} {vs} {e} {f} {k} {r} h a b =
    let n = a.next in
    let m = b.next in
    let D = drop (at + length ws) l in
    let P = take at l ++ ws in
    let long : length P ≡ k = simp (length-append, length-take) (omega arith) in
    let e-is : e ≡ P ++ D = a.list ∙ sym (append_assoc (take at l) ws D) in
    let tk : take k e ≡ P = ap (take k) e-is ∙ take_at P D k long in
    let dk : drop (k + length vs) e ≡ drop (at + length ws + length vs) l =
    sym (drop-drop (length vs) k e) ∙ ap (drop (length vs)) (ap (drop k) e-is ∙ drop_at P D k long) ∙ drop-drop (length vs) (at + length ws) l in
    let sum : at + length ws + length vs ≡ at + length (ws ++ vs) = simp length-append (omega arith) in
    record {
      list = b.list ∙ ap₂ (λ (x y : List ℕ). x ++ (vs ++ y)) tk (dk ∙ ap (λ (j : ℕ). drop j l) sum)
          ∙ append_assoc (take at l) ws (vs ++ drop (at + length (ws ++ vs)) l)
          ∙ ap (λ (x : List ℕ). take at l ++ x) (sym (append_assoc ws vs (drop (at + length (ws ++ vs)) l)));
      next = simp length-append (omega arith);
    }

-- ---- what is left: of ws, to be written into l from at on, e has all but rest, and rest goes to k
pub record Left (l : List ℕ) (at : ℕ) (ws rest e : List ℕ) (k : ℕ) : Type 0 where
  pub part : List ℕ
  pub whole : part ++ rest ≡ ws
  pub wrote : Wrote l at part e k

pub left-all : (l : List ℕ) (at : ℕ) (ws : List ℕ) → Left l at ws ws l at
left-all l at ws = record { part = []; whole = refl; wrote = wrote_none l at }

pub left_is : {l : List ℕ} {at : ℕ} {ws rest e : List ℕ} {k : ℕ} (vs : List ℕ) → Left l at ws rest e k → rest ≡ vs → Left l at ws vs e k
left_is {l} {at} {ws} {e = e} {k = k} vs w q = subst (λ (x : List ℕ). Left l at ws x e k) q w

pub left-done : {l : List ℕ} {at : ℕ} {ws e : List ℕ} {k : ℕ} → Left l at ws [] e k → Wrote l at ws e k
left-done w = wrote-is w.wrote (sym (append-nil w.part) ∙ w.whole)

module _ {l : List ℕ} {at : ℕ} {ws : List ℕ} (room : at + length ws ≤ length l) where
  -- the rest has room
  pub left-room : {rest e : List ℕ} {k : ℕ} → Left l at ws rest e k → k + length rest ≤ length l
  left-room {rest} w = let n = w.wrote.next in omega (arith, simp length-append at (ap length w.whole))

  pub left-length : {rest e : List ℕ} {k : ℕ} → Left l at ws rest e k → length e ≡ length l
  left-length w = let h = left-room w in wrote-length w.wrote (omega arith)

  -- some of the rest is written
  pub left-more : {e f : List ℕ} {k r : ℕ} (vs rest : List ℕ) → Left l at ws (vs ++ rest) e k → Wrote e k vs f r → Left l at ws rest f r
  left-more vs rest w v = let h = left-room w in record {
    part = w.part ++ vs;
    whole = append_assoc w.part vs rest ∙ w.whole;
    wrote = wrote-append (omega arith) w.wrote v;
  }

  -- one number of it
  pub left_one : {rest e : List ℕ} {k v : ℕ} → Left l at ws (v ∷ rest) e k → Left l at ws rest (set e k v) (k + 1)
  left_one {rest} {e} {k} {v} w = let h = left-room w in let n = left-length w in left-more (v ∷ []) rest w (wrote_one e k v (omega arith))

-- the first of what is left has room
pub front-room : {l : List ℕ} {at : ℕ} {ws e : List ℕ} {k : ℕ} (vs rest : List ℕ) → at + length ws ≤ length l → Left l at ws (vs ++ rest) e k → k + length vs ≤ length e
front-room vs rest room w =
    let r = left-room room w in
    let n = left-length room w in
    let a = length-append vs rest in
    omega arith

-- a list written behind the place for its length, and then the length
pub wrote_count : {l : List ℕ} {at : ℕ} {ws e : List ℕ} {r : ℕ} → at + 1 + length ws ≤ length l → Wrote l (at + 1) ws e r → Wrote l at (length ws ∷ ws) (set e at (r - at - 1)) r
wrote_count {l} {at} {ws} {e} {r} h w =
    let n = w.next in
    let v : r - at - 1 ≡ length ws = omega arith in
    let R = ws ++ drop (at + 1 + length ws) l in
    let t : take (at + 1) l ≡ take at l ++ (get_or l at 0 ∷ []) = ap (λ k. take k l) (add-one at) ∙ take-suc l at 0 (omega arith) in
    let is : e ≡ take at l ++ (get_or l at 0 ∷ R) = w.list ∙ ap (λ x. x ++ R) t ∙ append_assoc (take at l) (get_or l at 0 ∷ []) R in
    let s : at + 1 + length ws ≡ at + length (length ws ∷ ws) = omega arith in
    record {
      list = ap₂ (λ x y. set x at y) is v ∙ set_at (take at l) (get_or l at 0) R (length ws) at (length-take-le at l (omega arith))
          ∙ ap (λ k. take at l ++ (length ws ∷ (ws ++ drop k l))) s;
      next = omega arith;
    }
