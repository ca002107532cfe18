-- Laws of words written one after the other.
use Rattle.std.specs.Prelude.{◌≡◌, refl, List, [], ◌++◌, ℕ, ◌+◌, ◌≤◌, length, take, drop}
use Rattle.std.proofs.Common.{sym, ap, ap₂, ◌∙◌, subst, append_assoc, add-zero, arith, length-append, length-drop, take-append-drop, take_at, drop_at, drop-drop, length-take-le}
use Rattle.text.specs.Lines.{with_word, Appended}

-- ---- words one after the other
-- a text as long as it was
pub with-length : (text : List ℕ) (at : ℕ) (word : List ℕ) → at + length word ≤ length text → length (with_word text at word) ≡ length text
with-length text at word h =
    let l = length-take-le at text (omega arith) in
    simp (length-append, length-drop) (omega arith)

-- up to where the word ends, and behind it
pub with-front : (text : List ℕ) (at : ℕ) (word : List ℕ) → at + length word ≤ length text → take (at + length word) (with_word text at word) ≡ take at text ++ word
with-front text at word h =
    let l = length-take-le at text (omega arith) in
    rw (← append_assoc) (take_at (take at text ++ word) (drop (at + length word) text) (at + length word) (simp length-append (omega arith)))

pub with-back : (text : List ℕ) (at : ℕ) (word : List ℕ) → at + length word ≤ length text → drop (at + length word) (with_word text at word) ≡ drop (at + length word) text
with-back text at word h =
    let l = length-take-le at text (omega arith) in
    rw (← append_assoc) (drop_at (take at text ++ word) (drop (at + length word) text) (at + length word) (simp length-append (omega arith)))

-- two words are one
pub with-both : (text : List ℕ) (at : ℕ) (a b : List ℕ) → at + length a ≤ length text
    → with_word (with_word text at a) (at + length a) b ≡ with_word text at (a ++ b)
with-both text at a b h =
    let r : ℕ = at + length a in
    let e : at + length (a ++ b) ≡ r + length b = simp length-append (omega arith) in
    let back : drop (r + length b) (with_word text at a) ≡ drop (r + length b) text =
    sym (drop-drop (length b) r (with_word text at a)) ∙ ap (drop (length b)) (with-back text at a h) ∙ drop-drop (length b) r text in
    ap₂ (λ (x y : List ℕ). x ++ (b ++ y)) (with-front text at a h) back ∙ rw e (simp append_assoc)

pub both_words : {text a text' b text'' : List ℕ} {at r q : ℕ} → at + length a ≤ length text
    → Appended text at a text' r → Appended text' r b text'' q → Appended text at (a ++ b) text'' q
both_words {text} {a} {text'} {b} {text''} {at} {r} {q} h p n = record {
  is = n.is ∙ ap₂ (λ (t : List ℕ) (k : ℕ). with_word t k b) p.is p.ends ∙ with-both text at a b h;
  ends = simp length-append (omega (arith, p.ends, n.ends));
  within = n.within;
  counts = n.counts;
}

-- the same word
pub same_word : {text text' a b : List ℕ} {at r : ℕ} → a ≡ b → Appended text at a text' r → Appended text at b text' r
same_word {text} {text'} {a} {b} {at} {r} e p = subst (λ (w : List ℕ). Appended text at w text' r) e p

-- no word
pub nothing_put : (text : List ℕ) (at : ℕ) → at ≤ length text → Appended text at [] text at
nothing_put text at h = record {
  is = sym (rw add-zero (take-append-drop at text));
  ends = omega arith;
  within = h;
  counts = sym (length-take-le at text h);
}

-- ---- a text written word by word
-- what is left of the whole, written here, gives what the whole gives
pub record Left (text₀ : List ℕ) (at₀ : ℕ) (whole text : List ℕ) (at : ℕ) (rest : List ℕ) : Type 0 where
  pub same : with_word text at rest ≡ with_word text₀ at₀ whole
  pub ends : at + length rest ≡ at₀ + length whole
  pub room : at + length rest ≤ length text
  pub long : length text ≡ length text₀

-- at the start all of it
pub left-all : (text : List ℕ) (at : ℕ) (whole : List ℕ) → at + length whole ≤ length text → Left text at whole text at whole
left-all text at whole h = record { same = refl; ends = refl; room = h; long = refl }

-- there is room for the next word
pub left-room : {text₀ : List ℕ} {at₀ : ℕ} {whole text : List ℕ} {at : ℕ} (a rest : List ℕ) → Left text₀ at₀ whole text at (a ++ rest) → at + length a ≤ length text
left-room a rest l = omega (arith, simp length-append at l.room)

-- a word less
pub left-next : {text₀ whole text a text' : List ℕ} {at₀ at r : ℕ} (rest : List ℕ) → Appended text at a text' r
    → Left text₀ at₀ whole text at (a ++ rest) → Left text₀ at₀ whole text' r rest
left-next {text₀} {whole} {text} {a} {text'} {at₀} {at} {r} rest p l =
    let h = left-room a rest l in
    let n = ap length p.is ∙ with-length text at a h in
    record {
      same = ap₂ (λ (t : List ℕ) (k : ℕ). with_word t k rest) p.is p.ends ∙ with-both text at a rest h ∙ l.same;
      ends = omega (arith, p.ends, simp length-append at l.ends);
      room = omega (arith, p.ends, simp length-append at l.room);
      long = n ∙ l.long;
    }

-- the last word
pub left-last : {text₀ whole text a text' : List ℕ} {at₀ at r : ℕ} → Left text₀ at₀ whole text at a → Appended text at a text' r → Appended text₀ at₀ whole text' r
left-last l p = record { is = p.is ∙ l.same; ends = p.ends ∙ l.ends; within = p.within; counts = p.counts }

-- nothing is left
pub left-none : {text₀ whole text : List ℕ} {at₀ at : ℕ} → Left text₀ at₀ whole text at [] → Appended text₀ at₀ whole text at
left-none {text₀} {whole} {text} {at₀} {at} l = left-last l (nothing_put text at (omega (arith, l.room)))
