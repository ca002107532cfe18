-- `table_file::fill_words` meets its contract. The loop's invariant: the first i words are the file's.
use mathlib.Core.Path.{◌≡◌, refl, sym, ◌∙◌}
use Prim.Native.Nat.{◌*◌}
use native.Mathlib.Omega.{arith}
use borrow.Author.Count.{below_more}
use lib.ListN.{length, length-set}
use lib.Seq.{get_or-set_same, get_or-set_other, ext_get_or}
use Rattle.table_file.specs.Words.{words_of}
use Rattle.table_file.proofs.WordsLaws.{words-length}
use Rattle.table_file.proofs.Laws.{words-at}
use Rattle.table_file.proofs.fill_words.Goals as goal

pub loop-i-init : goal.loop-i-init
loop-i-init c = (refl, λ k h. absurd (omega arith))

pub loop-i-preserved : goal.loop-i-preserved
loop-i-preserved c =
    let s = c.loop-i in (
      simp length-set s.invariant.0,
      below_more _ _
          (λ k h. get_or-set_other s.words s.i k _ 0 (omega arith) ∙ s.invariant.1 k h)
          (get_or-set_same s.words s.i _ 0 (omega arith) ∙ c.word.ensures),
    )

pub returns : goal.returns
returns c =
    let s = c.loop-i in
    let f = c.args.file.now in
    let n = length s.words in
    let e : length f ≡ 2 * n = omega arith in
    ext_get_or 0 s.words (words_of f) (sym (words-length f n e)) (λ i h. s.invariant.1 i (omega arith) ∙ sym (words-at f n i e h))
