use Rattle.std.proofs.Common.{codes}
use Rattle.std.specs.Prelude.{decimal}
use Rattle.ngc_program_report.specs.Times.{time_text}
use Rattle.ngc_program_report.proofs.JoinedTexts.{five_added}
use Rattle.ngc_program_report.proofs.time_line.add_time_line.Goals as goal

pub returns : goal.returns
returns c =
    five_added _ _ _ _ _ _ (codes "ngc: ticks ") (decimal c.args.time.now.ticks) (codes " time ") (time_text c.args.time.now) (codes "\n")
    c.add_text.ensures c.add_number.ensures.text c.add_text-2.ensures c.add_time.ensures.text c.add_text-3.ensures
