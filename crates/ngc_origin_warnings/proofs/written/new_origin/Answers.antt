use Rattle.std.proofs.Common.{◌∙◌, ap}
use Rattle.ngc_frames.specs.declared.in_force.FrameInForce.{FrameInForce}
use Rattle.ngc_machine_files.specs.Machine.{file_of}
use Rattle.ngc_origin_warnings.specs.Origins.{origin_of}
use Rattle.ngc_origin_warnings.specs.Warnings.{if_new}
use Rattle.ngc_origin_warnings.proofs.written.new_origin.Goals as goal

pub returns-clause-value : goal.returns-clause-value
returns-clause-value g c =
    c.if_new.ensures
    ∙ ap (if_new c.args.warned.now.lines)
    (c.origin_of.ensures
    ∙ ap (λ (f : FrameInForce). origin_of (file_of c.args.machine.now) c.args.lowest f c.args.command.now.action) c.in_force-frame.ensures.frame)
