-- The fixture that a command meets, if none is met at the start.
use Rattle.std.proofs.Common.{◌≡◌, ℕ, ◌-◌, arith, List, length, take, drop, Option, None, ap, sym, ◌∙◌}
use Rattle.std.specs.Prelude.{min}
use Rattle.std.proofs.lemmas.List.{take_all, take_min, drop_min, length-drop}
use Rattle.ngc_fixed_length.specs.Grid.{grid}
use Rattle.ngc_fixed_length.specs.declared.points.StepPos.{StepPos}
use Rattle.ngc_commands.specs.declared.command.Command.{Command}
use Rattle.ngc_certificate.specs.PieceFault.{place_fault, ◌or◌}
use Rattle.ngc_machine_files.specs.Machine.{MachineFile}
use Rattle.ngc_commands.specs.Reached.{after_all, at_start}
use Rattle.ngc_program_report.specs.Met.{met_at, met_first}
use Rattle.ngc_commands.specs.declared.reached.Reached.{Reached}

pub met_later : (machine : MachineFile) (cs : List Command) (k at : ℕ) (place : StepPos) (fixture found : Option ℕ) (reached : Reached)
    → place ≡ grid machine.step machine.start → fixture ≡ place_fault machine None place → fixture ≡ None → at ≡ min k (length cs)
    → reached ≡ after_all (at_start machine) (take at cs) → found ≡ met_first machine reached (take (length cs - at) (drop at cs)) → found ≡ met_at machine cs k
met_later machine cs k at place fixture found reached is_place met none is_at is_reached is =
    is
    ∙ ap (met_first machine reached) (take_all (length cs - at) (drop at cs) (omega (arith, length-drop at cs)))
    ∙ ap (λ (r : Reached). met_first machine r (drop at cs)) is_reached
    ∙ ap (λ n. met_first machine (after_all (at_start machine) (take n cs)) (drop n cs)) is_at
    ∙ ap (λ (l : List Command). met_first machine (after_all (at_start machine) l) (drop (min k (length cs)) cs)) (take_min k cs)
    ∙ ap (λ (l : List Command). met_first machine (after_all (at_start machine) (take k cs)) l) (drop_min k cs)
    ∙ ap (λ (o : Option ℕ). o or met_first machine (after_all (at_start machine) (take k cs)) (drop k cs))
    (sym none ∙ met ∙ ap (place_fault machine None) is_place)
