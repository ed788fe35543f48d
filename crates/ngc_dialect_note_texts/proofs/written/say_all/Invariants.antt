-- The notes so far are said.
use Rattle.std.proofs.Common.{flat_map, take}
use Rattle.ngc_sentences.specs.Saying.{Says}
use Rattle.ngc_dialect_note_texts.specs.Texts.{note_text}
use Rattle.ngc_dialect_note_texts.proofs.written.say_all.Given as goal

abbrev pub invariant-loop-note : goal.invariant-loop-note
invariant-loop-note g l =
    Says (g.W.Sink.written l.initial.output) (g.W.Sink.written l.output) (g.W.Sink.failures l.initial.output) (g.W.Sink.failures l.output)
    l.initial.page l.page (flat_map (note_text l.form) (take l.note-index l.places))
