use Rattle.ngc_sentences.proofs.Said.{all_said, no_text, one_more}
use Rattle.ngc_report.specs.Forms.{spelled}
use Rattle.ngc_report.proofs.report.say_lines.Goals as goal

pub loop-line-init : goal.loop-line-init
loop-line-init g c = no_text _ _ _

pub loop-line-preserved : goal.loop-line-preserved
loop-line-preserved g c =
    one_more (spelled c.args.form) c.args.lines.now c.loop-line.line-index c.line-item.result c.loop-line-test.true c.line-item.is c.loop-line.invariant c.say_spelled.ensures

pub returns : goal.returns
returns g c = all_said (spelled c.args.form) c.args.lines.now c.loop-line.line-index c.loop-line-test.false c.loop-line.invariant
