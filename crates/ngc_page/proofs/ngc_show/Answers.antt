use Rattle.std.proofs.Common.{rules}
use Rattle.ngc_page.proofs.BoundOptions.{answered}
use Rattle.ngc_page.proofs.ngc_show.Goals as goal

pub returns : goal.returns
returns c = answered _ _ _ _ _ c.show_options.result c.in-Some.options (search rules) c.show_options.ensures c.answer_into.ensures
