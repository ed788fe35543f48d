-- What a part of the code has read of the words.
use Rattle.std.specs.Prelude.{ℕ, List, map}
use Rattle.ngc_output_words.specs.Words.{Words}
use Rattle.ngc_output_words.specs.declared.words.Seen.{Seen}

abbrev pub words_in : Seen → Words
words_in seen =
    record { rest = map (λ w. w.now) seen.rest.items; files = map (λ w. w.now) seen.files.items; is_open = seen.is_open }
