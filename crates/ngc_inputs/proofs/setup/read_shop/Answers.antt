use Rattle.std.specs.Prelude.{◌≡◌, [], option_map}
use Rattle.ngc_machine_files.specs.Machine.{file_of}
use Rattle.ngc_inputs.specs.Unread.{OfMachine, OfTools, SourceFails, setup_input, shop_inputs, unread_by}
use Rattle.ngc_report.proofs.Converted.{turned}
use Rattle.ngc_written_tools.specs.Reading.{any_limits}
use Rattle.ngc_inputs.proofs.SetupLaws.{kept_said, refused_machine, refused_tools}
use Rattle.ngc_inputs.proofs.UnreadLaws.{machine_read, reported_before, tools_told, unread_told}
use Rattle.ngc_inputs.specs.Shops.{ShopResultIs}
use Rattle.ngc_inputs.proofs.setup.read_shop.Goals as goal

pub returns-in_err-written-clause-said : goal.returns-in_err-written-clause-said
returns-in_err-written-clause-said g c =
    turned _ c.in_err-written.field-0.0
    (ShopResultIs (g.F.Files.bytes c.args.files.now) (option_map (λ n. n.now) c.args.machine) (option_map (λ n. n.now) c.args.tools)) c.from_residual.ensures.1
    (refused_machine (g.F.Files.bytes c.args.files.now) (option_map (λ n. n.now) c.args.machine)
    (option_map (λ n. n.now) c.args.tools) c.in_err-written.field-0.0 c.in_err-written.ensures.said)

pub returns-in_err-table-clause-said : goal.returns-in_err-table-clause-said
returns-in_err-table-clause-said g c =
    turned _ c.in_err-table.field-0.0
    (ShopResultIs (g.F.Files.bytes c.args.files.now) (option_map (λ n. n.now) c.args.machine) (option_map (λ n. n.now) c.args.tools))
    c.from_residual-in_err-table.ensures.1
    (refused_tools (g.F.Files.bytes c.args.files.now) (g.F.Files.bytes c.read_machine.new.files) (option_map (λ n. n.now) c.args.machine)
    (option_map (λ n. n.now) c.args.tools) (file_of c.in_ok-written.written.machine) c.in_err-table.field-0.0
    c.in_ok-written.ensures.said c.read_machine.ensures.keeps c.in_err-table.ensures.said)

pub returns-in_err-written-clause-unread : goal.returns-in_err-written-clause-unread
returns-in_err-written-clause-unread g c =
    unread_told (SourceFails g.F.R.Source.remaining g.F.R.Source.failures) (g.F.Files.bytes c.args.files.now)
    (shop_inputs (option_map (λ n. n.now) c.args.machine) (option_map (λ n. n.now) c.args.tools)) _ _ _ c.in_err-written.field-0.0 c.from_residual.ensures.1
    (reported_before (SourceFails g.F.R.Source.remaining g.F.R.Source.failures) (g.F.Files.bytes c.args.files.now)
    (setup_input OfMachine (option_map (λ n. n.now) c.args.machine)) (setup_input OfTools (option_map (λ n. n.now) c.args.tools)) _ _
    (unread_by c.in_err-written.field-0.0) c.in_err-written.ensures.unread)

pub returns-in_err-table-clause-unread : goal.returns-in_err-table-clause-unread
returns-in_err-table-clause-unread g c =
    unread_told (SourceFails g.F.R.Source.remaining g.F.R.Source.failures) (g.F.Files.bytes c.args.files.now)
    (shop_inputs (option_map (λ n. n.now) c.args.machine) (option_map (λ n. n.now) c.args.tools)) _ _ _ c.in_err-table.field-0.0
    c.from_residual-in_err-table.ensures.1
    (tools_told (SourceFails g.F.R.Source.remaining g.F.R.Source.failures) (g.F.Files.bytes c.args.files.now) (g.F.Files.bytes c.read_machine.new.files)
    (option_map (λ n. n.now) c.args.machine) (option_map (λ n. n.now) c.args.tools) _ _ _ (unread_by c.in_err-table.field-0.0)
    (machine_read _ _ (file_of c.in_ok-written.written.machine) c.in_ok-written.ensures.said) c.read_machine.ensures.keeps c.in_ok-written.ensures.unread
    c.in_err-table.ensures.unread)

pub returns-clause-figures : goal.returns-clause-figures
returns-clause-figures g c = record {
  machine = c.in_ok-written.ensures.figures;
  tools = kept_said any_limits [] (g.F.Files.bytes c.args.files.now) (g.F.Files.bytes c.read_machine.new.files) (option_map (λ n. n.now) c.args.tools)
      (λ l. c.in_ok-table.table.limits.items ≡ l) c.read_machine.ensures.keeps c.in_ok-table.ensures.limits;
}
