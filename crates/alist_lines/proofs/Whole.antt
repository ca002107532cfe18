-- The head and the lists are all lines.
use mathlib.Core.Path.{sym, ap, ◌∙◌}
use mathlib.Core.List.{List, ◌++◌}
use Prim.Native.Nat.{ℕ}
use Rattle.alist.specs.AlistText.{number_lines}
use Rattle.alist_numbers.specs.Put.{Put}
use Rattle.alist_numbers.specs.PutLaws.{put_both, put_is, lines-append}
use Rattle.alist_lines.specs.Lines.{padded_lists, head_lines, lines}

module _ (columns : List ℕ) (n a : ℕ) (rows : List ℕ) (m b : ℕ) where
  -- the head, and then the lists
  pub put-lines : {x y z u : List ℕ} {p q r : ℕ} → Put x 0 (number_lines (head_lines columns n a rows m b)) y p → Put y p (number_lines (padded_lists columns n a)) z q
      → Put z q (number_lines (padded_lists rows m b)) u r → Put x 0 (number_lines (lines columns n a rows m b)) u r
  unfolding lines
  put-lines h c l =
      let cs = padded_lists columns n a in
      let rs = padded_lists rows m b in
      let hs = head_lines columns n a rows m b in
      put_is (ap (λ w. number_lines hs ++ w) (sym (lines-append cs rs)) ∙ sym (lines-append hs (cs ++ rs))) (put_both h (put_both c l))
