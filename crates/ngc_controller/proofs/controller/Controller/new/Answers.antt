use Rattle.std.proofs.Common.{rules, ap, sym}
use Rattle.ngc_machine_files.specs.Machine.{MachineFile}
use Rattle.ngc_checker.specs.Accepted.{commands_at}
use Rattle.ngc_controller.proofs.OrderLaws.{first_joints}
use Rattle.ngc_controller.proofs.controller.Controller.new.Goals as goal

pub returns-clause-made : goal.returns-clause-made
returns-clause-made g c = search rules

pub invariant_of-result : goal.invariant_of-result
invariant_of-result g c = record {
  machine = search rules;
  room = search rules;
  places = search rules;
  legs = search rules;
  left = search rules;
  slow = search rules;
  whole = search rules;
  joints = (let ring = ap (λ (m : MachineFile). m.ring) c.machine-machine.ensures.value in
      first_joints c.args.accepted.machine (commands_at c.args.block_delete c.args.accepted) _ _ _
      (c.in-Ok.ensures.joints c.args.accepted.machine (commands_at c.args.block_delete c.args.accepted) (sym ring)) c.in-Ok.ensures.done c.in-Ok.ensures.none);
  continues_travel = search rules;
  place = search rules;
  target = search rules;
  few = search rules;
  brief = search rules;
  still = search rules;
}
