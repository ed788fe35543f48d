use Rattle.ngc_frames.specs.Changes.{frame_of}
use Rattle.ngc_dialect_execution.specs.Views.{progress_in}
use Rattle.ngc_dialect_execution.proofs.FrameSteps.{same_as}
use Rattle.ngc_dialect_execution.proofs.framing.add_change.Goals as goal

pub returns-clause-recorded : goal.returns-clause-recorded
returns-clause-recorded g c = same_as c.frame-2.result (frame_of (progress_in c.args.interpreter.now).between.state) c.frame-2.ensures
