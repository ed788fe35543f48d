use Rattle.std.proofs.Common.{ap, sym, ◌∙◌}
use Rattle.ngc_machine_files.specs.Machine.{file_of}
use Rattle.ngc_planner.specs.Joints.{axes_may_head}
use Rattle.ngc_planner.proofs.TurnLaws.{one_test, one_turn_of_all}
use Rattle.ngc_planner.proofs.window.axes_may_head.Goals as goal

pub returns-in-None : goal.returns-in-None
returns-in-None g c =
    let m = file_of c.args.machine.now in
    let n = c.args.differences in
    let test = rw c.greatest.ensures at c.may_head.ensures in
    test ∙ (one_test m.jump m.turn n c.args.way c.args.rate
    ∙ ap (λ turns. axes_may_head m.jump turns n c.args.way c.args.rate) (sym (one_turn_of_all m c.in-None.is)))
