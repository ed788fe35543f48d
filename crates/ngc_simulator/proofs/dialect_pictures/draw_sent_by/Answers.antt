use Rattle.std.proofs.Common.{ℕ, List, [], ◌∷◌, Option, Some}
use Rattle.std.specs.contracts.alloc.Global
use Rattle.ngc_canonical.specs.Interpreter.{setup_of}
use Rattle.ngc_certificate_text.specs.Contents.{certificate_data}
use Rattle.ngc_program_report.specs.Framed.{history_in}
use Rattle.ngc_report.proofs.Converted.{turned}
use Rattle.ngc_inputs.proofs.JobLaws.{if_known}
use Rattle.ngc_inputs.proofs.UnreadLaws.{draw_told, unread_told}
use Rattle.ngc_inputs.specs.Jobs.{IsNoCertificate}
use Rattle.ngc_inputs.specs.Unread.{SourceFails}
use Rattle.ngc_inputs.specs.declared.fault.AnswerFault.TheVariants as answers
use Rattle.ngc_simulator.specs.Answers.{certificate_input}
use Rattle.ngc_simulator.specs.DialectPictures.{DrawsDialectBy}
use Rattle.ngc_simulator.proofs.DialectPictureLaws.{dialect_undrawn_by, drawn_dialect_by, no_certificate_by}
use Rattle.ngc_simulator.proofs.RunLaws.{no_certificate}
use Rattle.ngc_simulator.proofs.dialect_pictures.draw_sent_by.Goals as goal

pub returns-in_err-certificate-clause-draws : goal.returns-in_err-certificate-clause-draws
returns-in_err-certificate-clause-draws g c =
    let sent = c.args.sent.now in
    let setup = setup_of sent.shop.machine sent.shop.tools in
    let old : Option (List ℕ) = g.W.Sink.written c.args.output.now in
    let known : Option (List ℕ) = g.F.Files.bytes c.args.files.now (Some c.args.certificate.now) in
    let fault = c.in_err-certificate.field-0.0 in
    let (means, framed) = rw (c.in-Ok.is, c.as_slice-text.ensures.value) at c.in_ok-framed.ensures.executed in
    turned _ (answers.Certificate fault) (DrawsDialectBy sent.dialect setup c.args.block_delete sent.text.items c.args.look known old old)
    c.from_residual-in_err-certificate.ensures.1
    (no_certificate_by sent.dialect setup c.args.block_delete sent.text.items c.args.look known c.in-Ok.framed.commands.items old fault means
    (if_known known _ (λ text. IsNoCertificate text fault) (λ text says. no_certificate Global.the_row.Denot certificate_data text fault says)
    c.in_err-certificate.ensures.said))

pub returns-in_err-certificate-clause-unread : goal.returns-in_err-certificate-clause-unread
returns-in_err-certificate-clause-unread g c =
    unread_told (SourceFails g.F.R.Source.remaining g.F.R.Source.failures) (g.F.Files.bytes c.args.files.now) (certificate_input c.args.certificate.now ∷ []) _ _ _
    (answers.Certificate c.in_err-certificate.field-0.0) c.from_residual-in_err-certificate.ensures.1 c.in_err-certificate.ensures.unread

pub returns-in_err-draw_commands_by-clause-draws : goal.returns-in_err-draw_commands_by-clause-draws
returns-in_err-draw_commands_by-clause-draws g c =
    let sent = c.args.sent.now in
    let setup = setup_of sent.shop.machine sent.shop.tools in
    let old : Option (List ℕ) = g.W.Sink.written c.args.output.now in
    let new : Option (List ℕ) = g.W.Sink.written c.draw_commands_by.new.output in
    let known : Option (List ℕ) = g.F.Files.bytes c.args.files.now (Some c.args.certificate.now) in
    let fault = c.in_err-draw_commands_by.field-0.0 in
    let (means, framed) = rw (c.in-Ok.is, c.as_slice-text.ensures.value) at c.in_ok-framed.ensures.executed in
    turned _ fault (DrawsDialectBy sent.dialect setup c.args.block_delete sent.text.items c.args.look known old new)
    c.from_residual-in_err-draw_commands_by.ensures.1
    (dialect_undrawn_by sent.dialect setup c.args.block_delete sent.text.items c.args.look known (history_in c.in-Ok.framed.frames)
    c.in-Ok.framed.commands.items (certificate_data c.in_ok-certificate.certificate) old new fault means framed.0 c.in_ok-certificate.ensures.said
    c.in_err-draw_commands_by.ensures.draws)

pub returns-in_err-draw_commands_by-clause-unread : goal.returns-in_err-draw_commands_by-clause-unread
returns-in_err-draw_commands_by-clause-unread g c =
    let bytes = g.F.Files.bytes c.args.files.now in
    let files = certificate_input c.args.certificate.now ∷ [] in
    unread_told (SourceFails g.F.R.Source.remaining g.F.R.Source.failures) bytes files _ _ _ c.in_err-draw_commands_by.field-0.0
    c.from_residual-in_err-draw_commands_by.ensures.1
    (draw_told (SourceFails g.F.R.Source.remaining g.F.R.Source.failures) bytes files _ _ c.in_err-draw_commands_by.field-0.0
    c.in_err-draw_commands_by.ensures.faults c.in_ok-certificate.ensures.unread)

pub returns-clause-draws : goal.returns-clause-draws
returns-clause-draws g c =
    let sent = c.args.sent.now in
    let known : Option (List ℕ) = g.F.Files.bytes c.args.files.now (Some c.args.certificate.now) in
    let (means, framed) = rw (c.in-Ok.is, c.as_slice-text.ensures.value) at c.in_ok-framed.ensures.executed in
    drawn_dialect_by sent.dialect (setup_of sent.shop.machine sent.shop.tools) c.args.block_delete sent.text.items c.args.look known
    (history_in c.in-Ok.framed.frames) c.in-Ok.framed.commands.items (certificate_data c.in_ok-certificate.certificate)
    (g.W.Sink.written c.args.output.now) (g.W.Sink.written c.draw_commands_by.new.output) means framed.0 c.in_ok-certificate.ensures.said
    c.in_ok-draw_commands_by.ensures.draws
