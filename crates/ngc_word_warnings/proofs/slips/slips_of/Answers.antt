use Rattle.std.proofs.Common.{◌∙◌, ap, arith}
use Rattle.ngc_line_reader.specs.ProgramView.{text_in}
use Rattle.ngc_word_warnings.specs.Slips.{count_of, slip_of_kind, slips_of_kind}
use Rattle.ngc_word_warnings.proofs.MistakeSteps.{at, one_counted, one_further}
use Rattle.ngc_word_warnings.proofs.slips.slips_of.Goals as goal

pub loop-index-preserved : goal.loop-index-preserved
loop-index-preserved g c =
    let lines = (text_in c.args.program.now).lines in
    let here = at lines c.loop-index.index c.number-number.result c.bytes.result.now c.number-number.ensures c.bytes.ensures.value in record {
      same = λ kind. one_further kind c.args.tools.now c.args.deletes c.args.commands.now lines c.loop-index.index c.number-number.result c.bytes.result.now c.loop-index.between
          (slips_of_kind kind c.loop-index.found) (slips_of_kind kind c.with-found.result) c.step_read-step.result
          here (c.step_read-step.ensures.value kind) (c.with-found.ensures kind)
          ∙ c.loop-index.invariant.same kind;
      few = λ kind.
          (let grown = one_counted (slips_of_kind kind c.loop-index.found) c.number-number.result (slip_of_kind kind c.step_read-step.result.slips) in
          let counted_is = ap count_of (c.with-found.ensures kind) in
          omega (arith, grown, counted_is, c.loop-index.invariant.few kind));
      inside = c.step_read-step.ensures.few;
    }
