use Rattle.ngc_sentences.proofs.Said.{says_as}
use Rattle.ngc_margins.proofs.report_lines.say_slack.Goals as goal

pub returns : goal.returns
returns g c = says_as c.say.ensures c.slack_value.ensures
