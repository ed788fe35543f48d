use Rattle.std.proofs.Common.{◌≡◌, ◌++◌, drop, map, string_bytes}
use Rattle.ngc_job_calls.specs.Notes.{words_text}
use Rattle.ngc_job_calls.proofs.note.add_words.Given as goal

abbrev pub invariant-loop-word : goal.invariant-loop-word
invariant-loop-word l =
    l.initial.line.items ++ words_text (map string_bytes l.added)
    ≡ l.line.items ++ words_text (map string_bytes (drop l.word-index l.added))
