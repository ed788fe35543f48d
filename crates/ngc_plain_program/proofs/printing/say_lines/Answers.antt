use Rattle.ngc_sentences.proofs.Said.{no_text, one_more, all_said}
use Rattle.ngc_plain_program.specs.Programs.{kept_text}
use Rattle.ngc_plain_program.proofs.printing.say_lines.Goals as goal

pub loop-line-init : goal.loop-line-init
loop-line-init g c = no_text _ _ _

pub loop-line-preserved : goal.loop-line-preserved
loop-line-preserved g c =
    one_more kept_text c.args.lines.now c.loop-line.line-index c.line-item.result c.loop-line-test.true c.line-item.is c.loop-line.invariant
    c.say_kept.ensures

pub returns : goal.returns
returns g c = all_said kept_text c.args.lines.now c.loop-line.line-index c.loop-line-test.false c.loop-line.invariant
