use Rattle.std.proofs.Common.{◌≡◌, sym, ◌∙◌, true, rules}
use Rattle.ngc_machine_files.specs.MachineText.{good_motors}
use Rattle.ngc_machine_files.proofs.MotorRanges.{some_steps}
use Rattle.ngc_machine_files.proofs.machine_contents.MachineContents.check.Goals as goal

pub is_travel_good-requires-clause-x : goal.is_travel_good-requires-clause-x
is_travel_good-requires-clause-x c =
    let m = c.args.self.now in
    let motors : good_motors m.numbers.step m.motor_steps ≡ true = search rules in
    (some_steps m.numbers.step m.motor_steps (sym c.is_step_good.ensures ∙ c.if-not-is_step_good.false) motors).0

pub is_travel_good-requires-clause-y : goal.is_travel_good-requires-clause-y
is_travel_good-requires-clause-y c =
    let m = c.args.self.now in
    let motors : good_motors m.numbers.step m.motor_steps ≡ true = search rules in
    (some_steps m.numbers.step m.motor_steps (sym c.is_step_good.ensures ∙ c.if-not-is_step_good.false) motors).1

pub is_travel_good-requires-clause-z : goal.is_travel_good-requires-clause-z
is_travel_good-requires-clause-z c =
    let m = c.args.self.now in
    let motors : good_motors m.numbers.step m.motor_steps ≡ true = search rules in
    (some_steps m.numbers.step m.motor_steps (sym c.is_step_good.ensures ∙ c.if-not-is_step_good.false) motors).2
