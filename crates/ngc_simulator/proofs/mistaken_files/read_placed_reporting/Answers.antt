use Rattle.std.proofs.Common.{inl, subst, sym}
use Rattle.ngc_file_figures.specs.Files.{stored}
use Rattle.ngc_file_figures.specs.declared.figures.StoredFigures.{StoredFigures}
use Rattle.ngc_inputs.specs.Setups.{AreFiguresIn}
use Rattle.std.specs.Prelude.{Some, option_map}
use Rattle.ngc_inputs.proofs.SetupLaws.{changes_refused, shop_placed}
use Rattle.ngc_simulator.proofs.PlacedRefusals.{kept_output, report_refused}
use Rattle.ngc_simulator.proofs.mistaken_files.read_placed_reporting.Goals as goal

pub returns-in-Ok-with_changes-clause-said : goal.returns-in-Ok-with_changes-clause-said
returns-in-Ok-with_changes-clause-said g c = (
  shop_placed (g.F.Files.bytes c.args.files.now) (Some c.args.machine.now) (option_map (λ n. n.now) c.args.tools) c.args.changes.now
      c.in-Ok.shop c.in-Ok-with_changes.changed c.in-Ok.ensures.said.0 c.in-Ok-with_changes.ensures.machine c.in-Ok-with_changes.ensures.tools,
  c.in-Ok.ensures.said.1,
)

pub returns-in-Err-with_changes-clause-said : goal.returns-in-Err-with_changes-clause-said
returns-in-Err-with_changes-clause-said g c = (
  changes_refused (g.F.Files.bytes c.args.files.now) (Some c.args.machine.now) (option_map (λ n. n.now) c.args.tools) c.args.changes.now
      c.in-Ok.shop c.in-Err-with_changes.fault c.in-Ok.ensures.said.0 c.in-Err-with_changes.ensures.machine,
  inl (kept_output _ _ c.in-Ok.ensures.said.1),
)

pub returns-in-Err-clause-said : goal.returns-in-Err-clause-said
returns-in-Err-clause-said g c =
    report_refused c.args.form (g.F.Files.bytes c.args.files.now) (Some c.args.machine.now) (option_map (λ n. n.now) c.args.tools) c.args.changes.now
    (g.W.Sink.written c.args.output.now) (g.W.Sink.written c.read_shop_reporting.new.output) c.in-Err.fault c.in-Err.ensures.said

pub returns-in-Ok-with_changes-clause-figures : goal.returns-in-Ok-with_changes-clause-figures
returns-in-Ok-with_changes-clause-figures g c =
    subst (λ (f : StoredFigures). AreFiguresIn (g.F.Files.bytes c.args.files.now) (Some c.args.machine.now)
    (option_map (λ n. n.now) c.args.tools) (stored f)) (sym c.in-Ok-with_changes.ensures.figures) c.in-Ok.ensures.figures
