-- What is added for a command by its number.
use Rattle.std.proofs.Common.{◌≡◌, ℕ, ◌-◌, arith, List, length, take, drop, Some, ap, ◌∙◌}
use Rattle.std.specs.Prelude.{min}
use Rattle.std.proofs.lemmas.List.{take_all, take_min, drop_min, length-drop}
use Rattle.ngc_commands.specs.declared.command.Command.{Command}
use Rattle.ngc_commands.specs.Reached.{after_all, at_start}
use Rattle.ngc_commands.specs.declared.reached.Reached.{Reached}
use Rattle.ngc_machine_files.specs.Machine.{MachineFile}
use Rattle.ngc_report.specs.declared.form.Form.{Form}
use Rattle.ngc_program_report.specs.Demanded.{demanded_first, demanded_text}

pub demanded_later : (form : Form) (machine : MachineFile) (cs : List Command) (k at i : ℕ) (reached : Reached) → at ≡ min k (length cs)
    → reached ≡ after_all (at_start machine) (take at cs)
    → demanded_first form machine reached i (take (length cs - at) (drop at cs)) ≡ demanded_text form machine cs (Some k) (Some i)
demanded_later form machine cs k at i reached is_at is_reached =
    ap (demanded_first form machine reached i) (take_all (length cs - at) (drop at cs) (omega (arith, length-drop at cs)))
    ∙ ap (λ (r : Reached). demanded_first form machine r i (drop at cs)) is_reached
    ∙ ap (λ n. demanded_first form machine (after_all (at_start machine) (take n cs)) i (drop n cs)) is_at
    ∙ ap (λ (l : List Command). demanded_first form machine (after_all (at_start machine) l) i (drop (min k (length cs)) cs)) (take_min k cs)
    ∙ ap (λ (l : List Command). demanded_first form machine (after_all (at_start machine) (take k cs)) i l) (drop_min k cs)
