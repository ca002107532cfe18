-- Laws of the words of a table's file.
use Rattle.std.specs.Prelude.{◌≡◌, refl, Bool, true, false, not, ◌||◌, List, [], ◌∷◌, ◌++◌, ℕ, ◌+◌, ◌-◌, ◌*◌, ◌/◌, ◌%◌, ◌≤◌, eqb, ltb, length, take, drop}
use Rattle.std.proofs.Common.{sym, ap, ap₂, ◌∙◌, arith, eqb-true, ltb-false, eq-eqb, le-ltb, length-append, take_at}
use Rattle.io.specs.Counts.{IsPrefixLen}
use Rattle.std.specs.declared.option.Option.{Option}
use Rattle.std.specs.declared.option.Option.TheVariants.{Some, None}
use Rattle.table_file.specs.Words.{words_of, unfit, words_read, words_after, bytes_of}

-- as many words as pairs of bytes
pub words-length : (file : List ℕ) (n : ℕ) → length file ≡ 2 * n → length (words_of file) ≡ n
words-length [] n e = omega arith
words-length (low ∷ []) n e = absurd (omega arith)
words-length (low ∷ (high ∷ rest)) n e = let h = words-length rest (n - 1) (omega arith) in omega arith

-- a file that isn't refused
even : (a b : Bool) → (not a || b) ≡ false → (a ≡ true) × (b ≡ false)
even true b e = (refl, e)
even false b e = absurd (let z : ◌≡◌ {A = ℕ} 0 1 = cc in omega arith)

fit_words : (file : List ℕ) → unfit file ≡ false → length (words_of file) ≤ 6661
fit_words file e =
    let p = even (eqb (length file % 2) 0) (ltb 13322 (length file)) e in
    let z = eqb-true (length file % 2) 0 p.0 in
    let m = ltb-false 13322 (length file) p.1 in
    let l = words-length file (length file / 2) (omega arith) in
    omega arith

-- its words stand at the start of the buffer
pub record Taken (file words : List ℕ) (n : ℕ) : Type 0 where
  pub fit : unfit file ≡ false
  pub counts : IsPrefixLen n (words_after file words)
  pub are : take n (words_after file words) ≡ words_of file

pub words-taken : (file words : List ℕ) (n : ℕ) → 6661 ≤ length words → words_read file ≡ Some n → Taken file words n
unfolding words_read words_after
words-taken file words n h e = go (unfit file) refl
  where
    go : (b : Bool) → unfit file ≡ b → Taken file words n
    go true u = absurd (let z : None ≡ Some n = rw (u, words_read) at e in let o : ◌≡◌ {A = ℕ} 0 1 = cc in omega arith)
    go false u =
        let c : Some (length (words_of file)) ≡ Some n = rw (u, words_read) at e in
        let l : length (words_of file) ≡ n = cc in
        let m = fit_words file u in
        let t : take n (words_after file words) ≡ words_of file = rw (u, words_after) (take_at (words_of file) (drop (length (words_of file)) words) n l) in
        record {
          fit = u;
          counts = (rw (u, words_after) (simp length-append (omega arith)), sym (ap length t ∙ l));
          are = t;
        }

-- no words of a file that is refused
pub words-none : (file : List ℕ) → words_read file ≡ None → unfit file ≡ true
unfolding words_read
words-none file e = go (unfit file) refl
  where
    go : (b : Bool) → unfit file ≡ b → unfit file ≡ true
    go true u = u
    go false u = absurd (let z : Some (length (words_of file)) ≡ None = rw (u, words_read) at e in let o : ◌≡◌ {A = ℕ} 0 1 = cc in omega arith)

-- so that so many words stand in the buffer
pub words-within : (file words : List ℕ) {r : Option ℕ} {words' : List ℕ} {n : ℕ} → 6661 ≤ length words → r ≡ words_read file → words' ≡ words_after file words
    → r ≡ Some n → IsPrefixLen n words'
words-within file words {r} {words'} {n} h e f z = rw f (words-taken file words n h (sym e ∙ z)).counts

-- ---- a file that is written
pub bytes-length : (words : List ℕ) → length (bytes_of words) ≡ 2 * length words
bytes-length [] = refl
bytes-length (w ∷ words) = let h = bytes-length words in omega arith

-- its words are those that were written
pub words_back : (words : List ℕ) → words_of (bytes_of words) ≡ words
words_back [] = refl
words_back (w ∷ words) = let e : w % 256 + w / 256 * 256 ≡ w = omega arith in ap₂ (λ (x : ℕ) (l : List ℕ). x ∷ l) e (words_back words)

-- and up to 6,661 of them are read again, to the start of any buffer
pub written-fit : (words : List ℕ) → length words ≤ 6661 → unfit (bytes_of words) ≡ false
written-fit words h =
    let l = bytes-length words in
    rw (eq-eqb (length (bytes_of words) % 2) 0 (omega arith), le-ltb 13322 (length (bytes_of words)) (omega arith)) refl

pub read_back : (words buffer : List ℕ) → length words ≤ 6661
    → (words_read (bytes_of words) ≡ Some (length words)) × (words_after (bytes_of words) buffer ≡ words ++ drop (length words) buffer)
unfolding words_read words_after
read_back words buffer h =
    let f = written-fit words h in
    (rw (f, words_read, words_back) refl, rw (f, words_after, words_back) refl)
