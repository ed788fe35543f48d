use Rattle.std.proofs.Common.{rules}
use Rattle.ngc_page.proofs.BoundOptions.{answered}
use Rattle.ngc_page.proofs.ngc_report.Goals as goal

pub returns : goal.returns
returns c = answered _ _ _ _ _ c.report_options.result c.in-Some.options (search rules) c.report_options.ensures c.answer_into.ensures
