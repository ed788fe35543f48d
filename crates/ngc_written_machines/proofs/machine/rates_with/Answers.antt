use Rattle.std.proofs.Common.{◌≡◌, ap, ◌∙◌, Result, Ok, Err}
use Rattle.ngc_machine_maker.specs.Numbers.{numbers_of}
use Rattle.ngc_machine_maker.specs.declared.numbers.MachineNumbers.{MachineNumbers}
use Rattle.ngc_machine_maker.specs.declared.refusal.FigureRefusal.{FigureRefusal}
use Rattle.ngc_written_machines.specs.Figures.{figures_of}
use Rattle.ngc_written_machines.specs.Machines.{rates_with, refused_as}
use Rattle.ngc_written_machines.specs.Motors.{grid_of}
use Rattle.ngc_written_machines.specs.declared.refusal.WrittenRefusal.{WrittenRefusal}
use Rattle.ngc_written_machines.specs.declared.refusal.WrittenRefusal.TheVariants as refusals
use Rattle.ngc_written_machines.proofs.machine.rates_with.Goals as goal

pub returns-in-Ok-clause-value : goal.returns-in-Ok-clause-value
unfolding rates_with
returns-in-Ok-clause-value c =
    let head = c.args.head.now in
    let R : Result MachineNumbers FigureRefusal → Result MachineNumbers WrittenRefusal = λ r. refused_as refusals.Figure r in
    let figures : c.figures_of.result ≡ figures_of head (grid_of c.args.motors.now) = c.figures_of.ensures ∙ ap (λ g. figures_of head g) c.grid_of.ensures.value in
    ap R (c.in-Ok.ensures.value ∙ ap numbers_of figures)

pub returns-in-Err-clause-value : goal.returns-in-Err-clause-value
unfolding rates_with
returns-in-Err-clause-value c =
    let head = c.args.head.now in
    let R : Result MachineNumbers FigureRefusal → Result MachineNumbers WrittenRefusal = λ r. refused_as refusals.Figure r in
    let figures : c.figures_of.result ≡ figures_of head (grid_of c.args.motors.now) = c.figures_of.ensures ∙ ap (λ g. figures_of head g) c.grid_of.ensures.value in
    ap R (c.in-Err.ensures.value ∙ ap numbers_of figures)
