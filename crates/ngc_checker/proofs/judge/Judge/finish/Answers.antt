use Rattle.std.proofs.Common.{◌≡◌, refl, List, [], ap₂, sym, ◌∙◌, Option}
use Rattle.std.specs.Prelude.{true}
use Rattle.ngc_commands.specs.declared.command.Command.{Command}
use Rattle.ngc_machine_files.specs.Machine.{MachineFile}
use Rattle.ngc_certificate.specs.PieceFault.{◌or◌}
use Rattle.ngc_certificate_text.specs.Ahead.{nothing_left}
use Rattle.ngc_certificate_text.specs.declared.piece.Setting.TheVariants.{Off, On}
use Rattle.ngc_job.specs.Job.{commands_in}
use Rattle.ngc_checker.specs.declared.fault.CheckFault.{CheckFault}
use Rattle.ngc_checker.specs.Walking.{fault_left}
use Rattle.ngc_checker.proofs.Acceptance.{accepted}
use Rattle.ngc_checker.proofs.JudgeLaws.{judged_none}
use Rattle.ngc_checker.proofs.judge.Judge.finish.Goals as goal

pub new-requires : goal.new-requires
new-requires g c =
    let j = c.self.inside in
    let file = j.job.machine in
    let on_commands = commands_in true j.job in
    let judge = c.self.invariant in
    let zero : j.left ≡ 0 = cc in
    let own = c.machine-machine.ensures.value in
    let first : fault_left file Off j.job.off j.off_walk [] [] ≡ c.finish-first.result =
    ap₂ (λ (m : MachineFile) (cs : List Command). fault_left m Off cs j.off_walk [] []) (sym own) (sym c.commands.ensures) ∙ sym c.finish-first.ensures in
    let later : fault_left file On on_commands j.on_walk [] [] ≡ c.finish-later.result =
    ap₂ (λ (m : MachineFile) (cs : List Command). fault_left m On cs j.on_walk [] []) (sym own) (sym c.commands-2.ensures) ∙ sym c.finish-later.ensures in
    let clear = ap₂ (λ (x y : Option CheckFault). (x or y)) first later ∙ sym c.first_of.ensures ∙ c.in-None.is in
    accepted file file j.job.tools j.job.off on_commands (judge.certificate nothing_left) refl judge.good_machine
    (judged_none file j.job.off on_commands j.off_walk j.on_walk j.left judge zero clear) judge.off_commands judge.on_commands
