-- What the parts of the reader say: of weights and lists, and of the whole call.
use Rattle.std.specs.Prelude.{◌≡◌, Bool, true, false, ◌&&◌, List, ◌∷◌, ℕ, ◌+◌, ◌*◌, ◌≤◌, length, take, drop}
use Rattle.std.proofs.Math.Option.{some}
use Rattle.std.specs.Option.{is_some, IfSome}
use Rattle.std.specs.declared.option.Option.{Option as End}
use Rattle.making.specs.Making.{MakeAnswer}
use Rattle.numbers.specs.Cursor.{Ahead}
use Rattle.numbers.specs.Numbers.{numbers_in}
use Rattle.alist.specs.Alist.{column_count, row_count, column_weights, row_weights, column_lists, row_lists, chunks, right_most, good_list, good_lists, is_alist, disagree, alist_read_answer, alist_read_table_after}
use Rattle.walks.specs.Walks.{ListsAhead}
use Rattle.tiles.specs.Board.{Blank}

-- ---- lists
-- o tells whether the list of width numbers from at on is one of weight entries; then it is where the list ends, and the board is blank again
abbrev pub GoodList : List ℕ → ℕ → ℕ → ℕ → ℕ → List ℕ → End ℕ → List ℕ → Type 0
GoodList text at weight width most w o e = Blank w → (l : List ℕ) → Ahead text at l → width ≤ length l → weight ≤ width
    → (is_some o ≡ good_list most weight (take width l)) × IfSome o (λ next. Ahead text next (drop width l) × Blank e)

-- r tells whether count lists are good; then the board is blank again
abbrev pub GoodLists : List ℕ → ℕ → ℕ → ℕ → ℕ → ℕ → List ℕ → Bool → List ℕ → Type 0
GoodLists text weights at count width most w r e = Blank w → (ws l : List ℕ) → ListsAhead text weights at count width ws l
    → (r ≡ good_lists most (take count ws) (chunks count width l)) × (r ≡ true → Blank e)

-- ---- the parts of a text
-- all its numbers: the sizes, the greatest weights and the rest
abbrev pub whole : ℕ → ℕ → ℕ → ℕ → List ℕ → List ℕ
whole n m a b l = n ∷ m ∷ a ∷ b ∷ l

-- the weights and lists are right: an alist text, but for the count of its numbers
abbrev pub sound : List ℕ → Bool
sound l = right_most l && (good_lists (row_count l) (column_weights l) (column_lists l) && good_lists (column_count l) (row_weights l) (row_lists l))

-- four cursors: at the columns' weights, at the rows' weights, at the columns' lists and at the rows' lists
pub record Parts (text : List ℕ) (n m a b cw rw cl rl : ℕ) (l : List ℕ) : Type 0 where
  pub long : length l ≡ n + m + n * a + m * b
  pub column-weights : Ahead text cw l
  pub row-weights : Ahead text rw (drop n l)
  pub column-lists : Ahead text cl (drop m (drop n l))
  pub row-lists : Ahead text rl (drop (n * a) (drop m (drop n l)))

-- r tells whether they are right; then the board is blank again
abbrev pub Sound : List ℕ → ℕ → ℕ → ℕ → ℕ → ℕ → ℕ → ℕ → ℕ → List ℕ → Bool → List ℕ → Type 0
Sound text n m a b cw rw cl rl w r e = Blank w → (l : List ℕ) → Parts text n m a b cw rw cl rl l → (r ≡ sound (whole n m a b l)) × (r ≡ true → Blank e)

-- ---- the call
-- what it answers, and what it leaves in the buffer
pub record Answered (text : List ℕ) (s : ℕ) (b : List ℕ) (x : MakeAnswer) (e : List ℕ) : Type 0 where
  pub answer : x ≡ alist_read_answer text s b
  pub table : e ≡ alist_read_table_after text s b

-- from good rows that agree with the columns
abbrev pub Makes : List ℕ → ℕ → ℕ → ℕ → ℕ → ℕ → ℕ → List ℕ → List ℕ → MakeAnswer → List ℕ → Type 0
Makes text s n m b rw rl w table x e = Blank w → (a : ℕ) (l : List ℕ) → numbers_in text ≡ some (whole n m a b l)
    → is_alist (whole n m a b l) ≡ true → disagree (whole n m a b l) ≡ false → ListsAhead text rw rl m b (drop n l) (drop (n * a) (drop m (drop n l)))
    → Answered text s table x e

-- from what stands behind the sizes and the greatest weights
abbrev pub ReadsRest : List ℕ → ℕ → ℕ → ℕ → ℕ → ℕ → ℕ → ℕ → List ℕ → List ℕ → MakeAnswer → List ℕ → Type 0
ReadsRest text s n m a b at count w table x e = Blank w → (l : List ℕ) → numbers_in text ≡ some (whole n m a b l) → Ahead text at l → count ≡ length l
    → Answered text s table x e
