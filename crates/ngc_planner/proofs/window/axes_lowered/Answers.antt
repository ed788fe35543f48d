use Rattle.std.proofs.Common.{min, ap, sym, ◌∙◌}
use Rattle.ngc_machine_files.specs.Machine.{file_of}
use Rattle.ngc_planner.specs.Joints.{axes_heading_rate}
use Rattle.ngc_planner.proofs.TurnLaws.{one_rate, one_turn_of_all}
use Rattle.ngc_planner.proofs.window.axes_lowered.Goals as goal

pub returns-in-None-clause-value : goal.returns-in-None-clause-value
returns-in-None-clause-value g c =
    let m = file_of c.args.machine.now in
    let n = c.args.differences in
    let value = rw c.greatest.ensures at c.lowered.ensures.value in
    let same = sym (one_rate m.jump m.turn n c.args.way c.requires.differences)
    ∙ ap (λ turns. axes_heading_rate m.jump turns n c.args.way) (sym (one_turn_of_all m c.in-None.is)) in
    value ∙ ap (λ rate. min c.args.rate rate) same
