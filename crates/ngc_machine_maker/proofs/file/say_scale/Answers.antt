use Rattle.std.proofs.Common.{ap, ◌∙◌}
use Rattle.ngc_sentences.proofs.Said.{says_as, then}
use Rattle.ngc_machine_maker.specs.File.{direction_text, scale_text}
use Rattle.ngc_machine_maker.proofs.file.say_scale.Goals as goal

pub returns : goal.returns
unfolding scale_text
returns g c =
    then (then (then (then (then (says_as c.say.ensures c.steps.ensures) c.say-2.ensures) c.say_errors.ensures) c.say-3.ensures)
    (says_as c.say-4.ensures (c.direction.ensures ∙ ap direction_text c.is_short.ensures))) c.say-5.ensures
