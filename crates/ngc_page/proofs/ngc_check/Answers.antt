use Rattle.std.proofs.Common.{rules}
use Rattle.ngc_page.proofs.BoundOptions.{answered}
use Rattle.ngc_page.proofs.ngc_check.Goals as goal

pub returns : goal.returns
returns c = answered _ _ _ _ _ c.check_options.result c.in-Some.options (search rules) c.check_options.ensures c.answer_into.ensures
