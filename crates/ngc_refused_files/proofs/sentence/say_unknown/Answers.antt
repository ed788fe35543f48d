use Rattle.ngc_sentences.proofs.Said.{then}
use Rattle.ngc_refused_files.specs.Sentences.{unknown_text}
use Rattle.ngc_refused_files.proofs.sentence.say_unknown.Goals as goal

pub returns : goal.returns
unfolding unknown_text
returns g c =
    rw (← c.shown_bytes.ensures.text, ← c.as_slice.ensures.value) (then c.say_not_here.ensures c.say_meant_key.ensures)
