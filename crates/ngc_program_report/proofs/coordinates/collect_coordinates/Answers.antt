use Rattle.std.proofs.Common.{[], ◌++◌, ◌∙◌, Option, ap}
use Rattle.std.proofs.lemmas.List.{append-nil}
use Rattle.ngc_commands.specs.declared.movement.Way.{Way}
use Rattle.ngc_report.proofs.ReportPrefix.{appends_none}
use Rattle.ngc_program_report.specs.Coordinates.{coordinates_text}
use Rattle.ngc_program_report.proofs.coordinates.collect_coordinates.Goals as goal

pub returns-in-None-clause-text : goal.returns-in-None-clause-text
unfolding coordinates_text
returns-in-None-clause-text g c = (
  [],
  appends_none _,
  ap (λ (w : Option Way). c.args.chunk.now ++ coordinates_text c.args.form c.args.origins.now c.args.frame.now w) c.in-None.is ∙ append-nil c.args.chunk.now,
)
