use Rattle.std.proofs.Common.{None, ap, get_or}
use Rattle.std.proofs.lemmas.List.{get_or_default}
use Rattle.ngc_sentences.proofs.Said.{no_text, one_more, all_said, says_as}
use Rattle.ngc_dialect_note_texts.specs.Texts.{note_text}
use Rattle.ngc_dialect_note_texts.proofs.written.say_all.Goals as goal

pub loop-note-init : goal.loop-note-init
loop-note-init g c = no_text _ _ _

pub loop-note-preserved : goal.loop-note-preserved
loop-note-preserved g c =
    let places = c.args.places.now in
    let i = c.loop-note.note-index in
    one_more (note_text c.args.form) places i (get_or places i None) c.loop-note-test.true
    (get_or_default places i None (get_or places i None) c.loop-note-test.true) c.loop-note.invariant
    (says_as c.say_note.ensures (ap (note_text c.args.form) (get_or_default places i _ None c.loop-note-test.true)))

pub returns : goal.returns
returns g c = all_said (note_text c.args.form) c.args.places.now c.loop-note.note-index c.loop-note-test.false c.loop-note.invariant
