use Rattle.std.proofs.Common.{◌∙◌, sym}
use Rattle.ngc_page.specs.JobCalls.{has_break}
use Rattle.ngc_page.proofs.LinesRead.{any_of_map}
use Rattle.ngc_page.proofs.job.have_break.Goals as goal

pub returns : goal.returns
returns c = c.have_break_in.ensures ∙ sym (any_of_map has_break (λ w. w.now) c.args.words.now)
