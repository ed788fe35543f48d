use Rattle.std.proofs.Common.{◌≡◌, drop, map}
use Rattle.std.specs.Prelude.{fold}
use Rattle.ngc_output_words.specs.Seen.{words_in}
use Rattle.ngc_output_words.specs.Words.{with_word, words_of}
use Rattle.ngc_output_words.proofs.words.see_all.Given as goal

abbrev pub invariant-loop-word : goal.invariant-loop-word
invariant-loop-word l =
    words_of (map (λ w. w.now) l.all) ≡ fold with_word (words_in l.seen) (map (λ w. w.now) (drop l.word-index l.all))
