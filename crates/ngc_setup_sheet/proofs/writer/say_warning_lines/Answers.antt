use Rattle.ngc_sentences.proofs.Said.{no_text, one_more, all_said, says_as}
use Rattle.ngc_setup_sheet.proofs.WarningsAlone.{told_of, told_of_all}
use Rattle.ngc_setup_sheet.proofs.writer.say_warning_lines.Goals as goal

pub loop-line-init : goal.loop-line-init
loop-line-init g c = no_text _ _ _

pub loop-line-preserved : goal.loop-line-preserved
loop-line-preserved g c =
    one_more (told_of c.args.style) c.args.lines.now c.loop-line.line-index c.line-item.result c.loop-line-test.true c.line-item.is c.loop-line.invariant
    c.say_if_warning.ensures

pub returns : goal.returns
returns g c =
    says_as (all_said (told_of c.args.style) c.args.lines.now c.loop-line.line-index c.loop-line-test.false c.loop-line.invariant)
    (told_of_all c.args.style c.args.lines.now)
