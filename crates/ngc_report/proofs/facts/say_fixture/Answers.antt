use Rattle.std.proofs.Common.{ap, ◌∙◌}
use Rattle.ngc_sentences.proofs.Said.{says_as, then}
use Rattle.ngc_report.specs.Facts.{triple}
use Rattle.ngc_report.proofs.facts.say_fixture.Goals as goal

pub returns : goal.returns
returns g c =
    rw (← c.from.ensures)
    (then (then (then (then (then (then (then c.say.ensures c.say_name.ensures) c.say-2.ensures) (says_as c.say-3.ensures (c.triple.ensures ∙ ap triple c.at.ensures)))
    c.say-4.ensures) (says_as c.say-5.ensures (c.triple-2.ensures ∙ ap triple c.at-2.ensures))) c.say-6.ensures) c.say_over.ensures)
