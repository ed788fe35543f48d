use Rattle.std.proofs.Common.{◌≡◌, ◌∙◌, sym, ap, arith}
use Rattle.ngc_line_reader.specs.Program.{lines_of, split_lines}
use Rattle.ngc_report.specs.Quotes.{bytes_with}
use Rattle.ngc_report.proofs.LinesByNumber.{behind_it, none_in_nothing, none_numbered}
use Rattle.ngc_report.proofs.source_lines.source_line.Goals as goal
use Rattle.ngc_report.proofs.source_lines.source_line.Goals.{then-loop-left-test+else-not-is_empty, else-loop-left-test}

pub loop-left-preserved : goal.loop-left-preserved
loop-left-preserved c =
    sym (behind_it c.loop-left.left c.loop-left.rest.now c.cut_line.result.0.now c.cut_line.result.1.now c.cut_line.ensures.parts
    (omega (arith, c.loop-left-test.true)) c.if-left-eq1.false)
    ∙ c.loop-left.invariant

pub returns : goal.returns
returns c = elim c.loop-left-test.branch [
  | then-loop-left-test+else-not-is_empty w ↦
      sym (none_in_nothing c.loop-left.left c.loop-left.rest.now w.is_empty.result w.is_empty.ensures w.if-not-is_empty.false) ∙ c.loop-left.invariant
  | else-loop-left-test w ↦
      let none : c.loop-left.left ≡ 0 = omega (arith, w.loop-left-test.false) in
      sym (ap (λ n. bytes_with n (lines_of c.loop-left.rest.now)) none ∙ none_numbered 0 (split_lines c.loop-left.rest.now)) ∙ c.loop-left.invariant
]
