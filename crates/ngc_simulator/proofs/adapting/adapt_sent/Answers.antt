use Rattle.std.proofs.Common.{None, Ok, Err, subst}
use Rattle.ngc_canonical.specs.Interpreter.{setup_of}
use Rattle.ngc_plain_program.specs.Programs.{lines_of}
use Rattle.ngc_report.proofs.Converted.{turned}
use Rattle.ngc_simulator.specs.Adapting.{AdaptsDialect, PrintsLines, everything}
use Rattle.ngc_simulator.specs.DialectReports.{IsTraced}
use Rattle.ngc_simulator.specs.Dialects.{NotesFault}
use Rattle.ngc_simulator.proofs.AdaptLaws.{adapts, adapts_not, are_noted, are_plain, of_ok}
use Rattle.ngc_simulator.proofs.adapting.adapt_sent.Goals as goal

pub returns-in_err-told-clause-adapts : goal.returns-in_err-told-clause-adapts
returns-in_err-told-clause-adapts g c =
    let d = c.args.sent.now.dialect in
    let setup = setup_of c.args.sent.now.shop.machine c.args.sent.now.shop.tools in
    let delete = c.args.block_delete in
    let source = c.args.sent.now.text.items in
    let text = c.as_slice-text.result.now in
    let old = g.W.Sink.written c.args.output.now in
    let new = g.W.Sink.written c.print_lines.new.output in
    let t = c.in-Ok.traced in
    let fault = c.in_err-told.field-0.0 in
    let traced = of_ok (IsTraced everything d setup delete text) (NotesFault d setup delete text None) c.in_ok-traced.field-0 t c.in-Ok.is
    c.in_ok-traced.ensures.executed in
    turned _ fault (AdaptsDialect d setup delete source old new) c.from_residual-in_err-told.ensures.1
    (adapts_not d setup delete source (lines_of c.in-Some.lines.items) t.notes old new fault
    (are_plain d setup delete source text t c.in-Some.lines c.as_slice-text.ensures.value traced c.in-Some.is)
    (are_noted d setup delete source text t c.as_slice-text.ensures.value traced)
    (subst (λ ls. PrintsLines (lines_of ls) t.notes old new (Err fault)) c.as_slice.ensures.value c.in_err-told.ensures.prints))

pub returns-clause-adapts : goal.returns-clause-adapts
returns-clause-adapts g c =
    let d = c.args.sent.now.dialect in
    let setup = setup_of c.args.sent.now.shop.machine c.args.sent.now.shop.tools in
    let delete = c.args.block_delete in
    let source = c.args.sent.now.text.items in
    let text = c.as_slice-text.result.now in
    let old = g.W.Sink.written c.args.output.now in
    let new = g.W.Sink.written c.print_lines.new.output in
    let t = c.in-Ok.traced in
    let traced = of_ok (IsTraced everything d setup delete text) (NotesFault d setup delete text None) c.in_ok-traced.field-0 t c.in-Ok.is
    c.in_ok-traced.ensures.executed in
    adapts d setup delete source (lines_of c.in-Some.lines.items) t.notes old new c.in_ok-told.told
    (are_plain d setup delete source text t c.in-Some.lines c.as_slice-text.ensures.value traced c.in-Some.is)
    (are_noted d setup delete source text t c.as_slice-text.ensures.value traced)
    (subst (λ ls. PrintsLines (lines_of ls) t.notes old new (Ok c.in_ok-told.told)) c.as_slice.ensures.value c.in_ok-told.ensures.prints)
