use Rattle.std.proofs.Common.{ℕ, List, Option, Some, Result, inl, subst}
use Rattle.std.specs.Prelude.{option_map}
use Rattle.ngc_canonical.specs.Interpreter.{setup_of}
use Rattle.ngc_file_figures.specs.Files.{stored}
use Rattle.ngc_report.proofs.Converted.{turned}
use Rattle.ngc_inputs.proofs.JobLaws.{keeps_same}
use Rattle.ngc_inputs.proofs.UnreadLaws.{unread_told}
use Rattle.ngc_inputs.specs.Setups.{FileBytes}
use Rattle.ngc_inputs.specs.Unread.{SourceFails}
use Rattle.ngc_inputs.specs.declared.fault.AnswerFault.{AnswerFault}
use Rattle.ngc_simulator.specs.Answers.{DialectMapResult, DialectMapsFrom, map_cells, map_inputs_in}
use Rattle.ngc_simulator.specs.Dialects.{StopsDialect}
use Rattle.ngc_simulator.specs.Mapping.{MapsDialect}
use Rattle.ngc_simulator.proofs.DialectLaws.{all_were_read, dialect_comes, on_dialect}
use Rattle.ngc_simulator.proofs.MapLaws.{map_read}
use Rattle.ngc_simulator.proofs.mapping.map_dialect.Goals as goal

pub returns-in_err-sent-clause-comes : goal.returns-in_err-sent-clause-comes
returns-in_err-sent-clause-comes g c =
    turned _ c.in_err-sent.field-0.0
    (DialectMapResult c.args.control.now (g.F.Files.bytes c.args.files.now) c.args.options.now (g.W.Sink.written c.args.output.now)
    (g.W.Sink.written c.args.output.now)) c.from_residual.ensures.1 (inl (c.in_err-sent.ensures.stops, keeps_same _))

pub returns-in_err-sent-clause-unread : goal.returns-in_err-sent-clause-unread
returns-in_err-sent-clause-unread g c =
    unread_told (SourceFails g.F.R.Source.remaining g.F.R.Source.failures) (g.F.Files.bytes c.args.files.now)
    (map_inputs_in (Some c.args.control.now) c.args.options.now) _ _ _ c.in_err-sent.field-0.0 c.from_residual.ensures.1 c.in_err-sent.ensures.unread

pub returns-clause-comes : goal.returns-clause-comes
returns-clause-comes g c =
    let old : Option (List ℕ) = g.W.Sink.written c.args.output.now in
    let new : Option (List ℕ) = g.W.Sink.written c.map_sent.new.output in
    let options = c.args.options.now in
    let bytes : FileBytes = g.F.Files.bytes c.args.files.now in
    let sent = c.in_ok-sent.sent in
    let table = sent.shop.figures.tools.items in
    let outcome = c.map_sent.result in
    dialect_comes (StopsDialect c.args.control.now bytes (Some options.machine.now) (Some options.tools.now) options.changes)
    (DialectMapsFrom c.args.control.now bytes options old new) old new outcome (
      stored sent.shop.figures,
      c.in_ok-sent.ensures.figures,
      on_dialect _ bytes sent (λ d s source. MapsDialect (map_cells options) table d s options.delete source old new outcome) c.in_ok-sent.ensures.sent
          (subst (λ (most : ℕ). MapsDialect most table sent.dialect (setup_of sent.shop.machine sent.shop.tools) options.delete sent.text.items old new outcome)
          c.cells_of-most.ensures c.map_sent.ensures.maps),
    )

pub returns-clause-unread : goal.returns-clause-unread
returns-clause-unread g c =
    let sent = c.in_ok-sent.sent in
    all_were_read (SourceFails g.F.R.Source.remaining g.F.R.Source.failures) (g.F.Files.bytes c.args.files.now)
    (map_inputs_in (Some c.args.control.now) c.args.options.now) _ _ c.map_sent.result c.in_ok-sent.ensures.unread
    (map_read c.cells_of-most.result sent.shop.figures.tools.items sent.dialect (setup_of sent.shop.machine sent.shop.tools) c.args.options.now.delete
    sent.text.items _ _ c.map_sent.result c.map_sent.ensures.maps)
