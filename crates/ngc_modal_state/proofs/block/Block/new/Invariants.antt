-- The remaining words, added to the block, have the same result as all words added to none.
use Rattle.std.proofs.Common.{◌≡◌, drop}
use Rattle.ngc_line_reader.specs.Words.{pairs_of}
use Rattle.ngc_modal_state.specs.Block.{with_words, no_words}
use Rattle.ngc_modal_state.proofs.block.Block.new.Given as goal

abbrev pub invariant-loop-word : goal.invariant-loop-word
invariant-loop-word l = with_words (pairs_of (drop l.word-index l.words)) l.block ≡ with_words (pairs_of l.words) no_words
