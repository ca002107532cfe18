-- `table_file::words_in` meets its contract: an odd or a long file is refused; the words of any other stand at the start.
use mathlib.Core.Path.{◌≡◌, sym, ap, ◌∙◌}
use Prim.Native.Nat.{◌/◌}
use native.Mathlib.Omega.{arith}
use lib.ListN.{length, take}
use lib.Seq.{length-take-le}
use Rattle.table_file.proofs.WordsLaws.{words-length}
use Rattle.table_file.proofs.Laws.{odd_refused, long-refused, words-put}
use Rattle.table_file.proofs.words_in.Goals as goal

pub returns-then-file-ne0 : goal.returns-then-file-ne0
returns-then-file-ne0 c = let a = c.args in
    let q = odd_refused a.file.now a.words.now (λ e. omega (arith, c.if-file-ne0.true)) in
    record { answer = q.0; words = q.1 }

pub returns-then-file-gt-MOST_BYTES : goal.returns-then-file-gt-MOST_BYTES
returns-then-file-gt-MOST_BYTES c = let a = c.args in
    let q = long-refused a.file.now a.words.now (omega arith) (omega arith) in
    record { answer = q.0; words = q.1 }

pub slice_bounds-fill_words-end-2 : goal.slice_bounds-fill_words-end-2
slice_bounds-fill_words-end-2 c = sym (length-take-le _ _ (omega arith))

pub fill_words-requires : goal.fill_words-requires
fill_words-requires c =
    let f = c.args.file.now in
    let w = c.args.words.now in
    let l : length (take (length f / 2) w) ≡ length f / 2 = length-take-le _ _ (omega arith) in
    omega arith

pub returns : goal.returns
returns c =
    let f = c.args.file.now in
    let w = c.fill_words in
    let q = words-put f _ _ (length f / 2) (omega arith) (omega arith) w.ensures
    (ap length w.ensures ∙ words-length f (length f / 2) (omega arith)) in
    record { answer = q.0; words = q.1 }
