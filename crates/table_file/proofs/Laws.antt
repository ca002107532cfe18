-- The words of a table's file, one by one and as they are taken.
use mathlib.Core.Path.{◌≡◌, refl, sym, ap, ◌∙◌}
use mathlib.Core.List.{List, [], ◌∷◌, ◌++◌}
use mathlib.Core.Bool.{true, false}
use Prim.Native.Nat.{ℕ, zero, suc, ◌+◌, ◌-◌, ◌*◌, ◌/◌, ◌%◌, ◌≤◌, ◌<◌}
use native.Mathlib.Omega.{arith}
use borrow.Author.Count.{below_more}
use borrow.Author.Tests.{lt-ltb, le-ltb, eq-eqb, ne_eqb}
use lib.ListN.{length, get_or, drop, set, length-set}
use lib.Seq.{get_or-set_same, get_or-set_other}
use Rattle.std.specs.declared.option.Option.TheVariants.{Some, None}
use Rattle.table_file.specs.Words.{words_of, unfit, words_read, words_after, bytes_of}

-- the word at i
pub words-at : (file : List ℕ) (n i : ℕ) → length file ≡ 2 * n → i < n
    → get_or (words_of file) i 0 ≡ get_or file (2 * i) 0 + get_or file (2 * i + 1) 0 * 256
words-at [] n i e h = absurd (omega arith)
words-at (low ∷ []) n i e h = absurd (omega arith)
words-at (low ∷ (high ∷ rest)) n zero e h = refl
words-at (low ∷ (high ∷ rest)) n (suc i) e h =
    let d : 2 * suc i ≡ suc (suc (2 * i)) = omega arith in
    let d' : 2 * suc i + 1 ≡ suc (suc (2 * i + 1)) = omega arith in
    rw (d', d) (words-at rest (n - 1) i (omega arith) (omega arith))

-- ---- the bytes of words
-- the first i words stand in the file
pub record Bytes (words file : List ℕ) (i : ℕ) : Type 0 where
  pub within : i ≤ length words
  pub long : length file ≡ 2 * length words
  pub lows : (k : ℕ) → k < i → get_or file (2 * k) 0 ≡ get_or words k 0 % 256
  pub highs : (k : ℕ) → k < i → get_or file (2 * k + 1) 0 ≡ get_or words k 0 / 256

-- one more
pub bytes_next : (words file : List ℕ) (i a b : ℕ) → Bytes words file i → i < length words → a ≡ get_or words i 0 % 256 → b ≡ get_or words i 0 / 256
    → Bytes words (set (set file (2 * i) a) (2 * i + 1) b) (i + 1)
bytes_next words file i a b r h e f =
    let l = r.long in
    let file' = set file (2 * i) a in
    let l' : length file' ≡ length file = simp length-set in
    record {
      within = omega arith;
      long = simp length-set l;
      lows = below_more _ _
          (λ k g. get_or-set_other file' (2 * i + 1) (2 * k) b 0 (omega arith) ∙ get_or-set_other file (2 * i) (2 * k) a 0 (omega arith) ∙ r.lows k g)
          (get_or-set_other file' (2 * i + 1) (2 * i) b 0 (omega arith) ∙ get_or-set_same file (2 * i) a 0 (omega arith) ∙ e);
      highs = below_more _ _
          (λ k g. get_or-set_other file' (2 * i + 1) (2 * k + 1) b 0 (omega arith) ∙ get_or-set_other file (2 * i) (2 * k + 1) a 0 (omega arith) ∙ r.highs k g)
          (get_or-set_same file' (2 * i + 1) b 0 (omega arith) ∙ f);
    }

-- all of them
pub bytes-all : (words file : List ℕ) → Bytes words file (length words) → file ≡ bytes_of words
bytes-all [] [] r = refl
bytes-all [] (a ∷ file) r = absurd (let l = r.long in omega arith)
bytes-all (w ∷ words) [] r = absurd (let l = r.long in omega arith)
bytes-all (w ∷ words) (a ∷ []) r = absurd (let l = r.long in omega arith)
bytes-all (w ∷ words) (a ∷ (b ∷ file)) r =
    let l = r.long in
    let rest : Bytes words file (length words) = record {
      within = omega arith;
      long = omega arith;
      lows = λ k h. let d : 2 * suc k ≡ suc (suc (2 * k)) = omega arith in rw d at (r.lows (suc k) (omega arith));
      highs = λ k h. let d : 2 * suc k + 1 ≡ suc (suc (2 * k + 1)) = omega arith in rw d at (r.highs (suc k) (omega arith));
    } in
    let x : a ≡ w % 256 = r.lows 0 (omega arith) in
    let y : b ≡ w / 256 = r.highs 0 (omega arith) in
    let z = bytes-all words file rest in
    cc

-- ---- what is taken of a file
refused : (file words : List ℕ) → unfit file ≡ true → (None ≡ words_read file) × (words ≡ words_after file words)
unfolding words_read words_after
refused file words e = (rw (e, words_read) refl, rw (e, words_after) refl)

pub odd_refused : (file words : List ℕ) → (length file % 2 ≡ 0 → ⊥) → (None ≡ words_read file) × (words ≡ words_after file words)
odd_refused file words h = refused file words (rw (ne_eqb (length file % 2) 0 h) refl)

pub long-refused : (file words : List ℕ) → length file % 2 ≡ 0 → 13322 < length file → (None ≡ words_read file) × (words ≡ words_after file words)
long-refused file words h l = refused file words (rw (eq-eqb (length file % 2) 0 h, lt-ltb 13322 (length file) l) refl)

pub words-put : (file words v : List ℕ) (k : ℕ) → length file % 2 ≡ 0 → length file ≤ 13322 → v ≡ words_of file → length v ≡ k
    → (Some k ≡ words_read file) × (v ++ drop k words ≡ words_after file words)
unfolding words_read words_after
words-put file words v k h l e n =
    let f : unfit file ≡ false = rw (eq-eqb (length file % 2) 0 h, le-ltb 13322 (length file) l) refl in
    let m : length (words_of file) ≡ k = sym (ap length e) ∙ n in
    (rw (f, words_read, m) refl, rw (f, words_after, m, e) refl)
