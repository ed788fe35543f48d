use Rattle.std.proofs.Common.{sym, ◌∙◌}
use Rattle.ngc_findings.specs.Warnings.{is_into_x, is_into_y}
use Rattle.ngc_findings.proofs.Tests.{both_hold}
use Rattle.ngc_findings.proofs.warnings.is_across.Goals as goal

pub returns-then-is_into_x : goal.returns-then-is_into_x
returns-then-is_into_x c =
    both_hold (is_into_x c.args.area.now c.args.bounds.now) (is_into_y c.args.area.now c.args.bounds.now) c.is_into_y.result
    (sym c.is_into_x.ensures ∙ c.if-is_into_x.true) c.is_into_y.ensures
