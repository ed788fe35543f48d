-- The notes so far, with those of the remaining words, are those of all words.
use Rattle.std.proofs.Common.{◌≡◌, drop}
use Rattle.ngc_dialect_notes.specs.WordNotes.{words_noted}
use Rattle.ngc_dialect_notes.proofs.notes.Notes.add_words.Given as goal

abbrev pub invariant-loop-word : goal.invariant-loop-word
invariant-loop-word l =
    words_noted l.line l.known l.codes l.motion (drop l.word-index l.words) l.self
    ≡ words_noted l.line l.known l.codes l.motion l.words l.initial.self
