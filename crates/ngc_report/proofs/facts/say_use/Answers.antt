use Rattle.std.proofs.lemmas.List.{append_assoc}
use Rattle.ngc_sentences.proofs.Said.{says_as, then}
use Rattle.ngc_report.proofs.facts.say_use.Goals as goal

pub returns : goal.returns
returns g c =
    says_as (then (then c.say.ensures c.say_tool.ensures) c.say-2.ensures) (simp append_assoc)
