use Rattle.std.proofs.Common.{[], ◌∷◌, ◌++◌, Some, Ok, Err, refl, ◌∙◌, List, inl, inr, subst}
use Rattle.std.specs.contracts.alloc.Global
use Rattle.std.specs.Prelude.{option_map}
use Rattle.ngc_certificate_text.specs.Contents.{certificate_data}
use Rattle.ngc_line_reader.specs.ProgramText.{program_of}
use Rattle.ngc_inputs.specs.declared.fault.AnswerFault.TheVariants as answers
use Rattle.ngc_canonical.specs.Interpreter.{setup_of}
use Rattle.ngc_picture_shapes.specs.declared.look.Look.{Look}
use Rattle.ngc_simulator.specs.Drawing.{DrawsNamed}
use Rattle.ngc_simulator.specs.Answers.{OwnDrawResult, certificate_inputs, own_draw_inputs, program_input}
use Rattle.ngc_inputs.specs.Faults.{OfDrawing}
use Rattle.ngc_inputs.specs.Unread.{Input, OfCertificate, OfProgram, SourceFails, certificate_unread, program_unread, shop_inputs, unread_by}
use Rattle.ngc_simulator.proofs.DrawLaws.{given_files, with_certificate}
use Rattle.ngc_simulator.proofs.FileLaws.{all_known, or_of_reading}
use Rattle.ngc_report.proofs.Converted.{turned}
use Rattle.ngc_inputs.proofs.JobLaws.{keeps_same}
use Rattle.ngc_simulator.proofs.RunLaws.{no_certificate}
use Rattle.ngc_inputs.proofs.UnreadLaws.{ReportsIfUnread, all_read, draw_told, is_read, placed_read, reported_before, told_behind, unread_told}
use Rattle.ngc_simulator.proofs.drawing_files.draw_with.Goals as goal

pub returns-in_err-shop-clause-comes : goal.returns-in_err-shop-clause-comes
returns-in_err-shop-clause-comes g c =
    turned _ c.in_err-shop.field-0.0
    (OwnDrawResult (g.F.Files.bytes c.args.files.now) c.args.options.now c.args.view (g.W.Sink.written c.args.output.now)
    (g.W.Sink.written c.args.output.now)) c.from_residual.ensures.1 (inl (c.in_err-shop.ensures.said, keeps_same _))

pub returns-in_err-program-clause-comes : goal.returns-in_err-program-clause-comes
returns-in_err-program-clause-comes g c =
    let fault = answers.Read c.in_err-program.field-0.0 in
    turned _ fault (OwnDrawResult (g.F.Files.bytes c.args.files.now) c.args.options.now c.args.view (g.W.Sink.written c.args.output.now)
    (g.W.Sink.written c.args.output.now)) c.from_residual-in_err-program.ensures.1
    (inr (
      tt,
      given_files (g.F.Files.bytes c.args.files.now) (g.F.Files.bytes c.read_placed.new.files)
          (g.F.Files.bytes c.read_placed.new.files) c.args.options.now c.args.certificate.now c.args.view c.in_ok-shop.shop _ _ (Err fault) _ (λ b. Unit {0})
          c.requires c.in_ok-shop.ensures.said c.read_placed.ensures.keeps (λ name. refl)
          c.in_err-program.ensures.text (all_known _ _ (λ b. tt))
          (λ a b fault_is q. (fault_is, keeps_same _)),
    ))

pub returns-in_err-certificate-clause-comes : goal.returns-in_err-certificate-clause-comes
returns-in_err-certificate-clause-comes g c =
    let fault = answers.Certificate c.in_err-certificate.field-0.0 in
    turned _ fault (OwnDrawResult (g.F.Files.bytes c.args.files.now) c.args.options.now c.args.view (g.W.Sink.written c.args.output.now)
    (g.W.Sink.written c.args.output.now)) c.from_residual-in_err-certificate.ensures.1
    (inr (
      tt,
      given_files (g.F.Files.bytes c.args.files.now) (g.F.Files.bytes c.read_placed.new.files)
          (g.F.Files.bytes c.read_program.new.files) c.args.options.now c.args.certificate.now c.args.view c.in_ok-shop.shop _ _ (Err fault) (λ a. Unit {0}) _
          c.requires c.in_ok-shop.ensures.said c.read_placed.ensures.keeps c.read_program.ensures.named
          (all_known _ _ (λ a. tt)) c.in_err-certificate.ensures.said
          (λ a b p says. (no_certificate Global.the_row.Denot certificate_data b c.in_err-certificate.field-0.0 says, keeps_same _)),
    ))

pub returns-clause-comes : goal.returns-clause-comes
returns-clause-comes g c =
    given_files (g.F.Files.bytes c.args.files.now) (g.F.Files.bytes c.read_placed.new.files)
    (g.F.Files.bytes c.read_program.new.files) c.args.options.now c.args.certificate.now c.args.view c.in_ok-shop.shop (g.W.Sink.written c.args.output.now)
    (g.W.Sink.written c.draw_certified.new.output) (Ok tt) _ _
    c.requires c.in_ok-shop.ensures.said c.read_placed.ensures.keeps c.read_program.ensures.named
    c.in_ok-program.ensures.text c.in_ok-certificate.ensures.said
    (λ a b is_text said. subst (λ (look : Look). DrawsNamed (setup_of c.in_ok-shop.shop.machine c.in_ok-shop.shop.tools) a b c.args.options.now.delete look
    (g.W.Sink.written c.args.output.now) (g.W.Sink.written c.draw_certified.new.output) (Ok tt)) c.look_of.ensures
    (c.in_ok-draw_certified.ensures.draws a b is_text c.in_ok-program.ensures.readings said))

pub returns-in_err-draw_certified-clause-comes : goal.returns-in_err-draw_certified-clause-comes
returns-in_err-draw_certified-clause-comes g c =
    let fault = c.in_err-draw_certified.field-0.0 in
    turned _ fault (OwnDrawResult (g.F.Files.bytes c.args.files.now) c.args.options.now c.args.view (g.W.Sink.written c.args.output.now)
    (g.W.Sink.written c.draw_certified.new.output)) c.from_residual-in_err-draw_certified.ensures.1
    (inr (
      or_of_reading OfDrawing fault c.in_err-draw_certified.ensures.faults,
      given_files (g.F.Files.bytes c.args.files.now) (g.F.Files.bytes c.read_placed.new.files)
          (g.F.Files.bytes c.read_program.new.files) c.args.options.now c.args.certificate.now c.args.view c.in_ok-shop.shop
          (g.W.Sink.written c.args.output.now) (g.W.Sink.written c.draw_certified.new.output) (Err fault) _ _
          c.requires c.in_ok-shop.ensures.said c.read_placed.ensures.keeps c.read_program.ensures.named
          c.in_ok-program.ensures.text c.in_ok-certificate.ensures.said
          (λ a b is_text said. subst (λ (look : Look). DrawsNamed (setup_of c.in_ok-shop.shop.machine c.in_ok-shop.shop.tools) a b c.args.options.now.delete look
          (g.W.Sink.written c.args.output.now) (g.W.Sink.written c.draw_certified.new.output) (Err fault)) c.look_of.ensures
          (c.in_err-draw_certified.ensures.draws a b is_text c.in_ok-program.ensures.readings said)),
    ))

pub returns-in_err-shop-clause-unread : goal.returns-in_err-shop-clause-unread
returns-in_err-shop-clause-unread g c =
    unread_told (SourceFails g.F.R.Source.remaining g.F.R.Source.failures) (g.F.Files.bytes c.args.files.now)
    (own_draw_inputs c.args.options.now) _ _ _ c.in_err-shop.field-0.0 c.from_residual.ensures.1
    (reported_before (SourceFails g.F.R.Source.remaining g.F.R.Source.failures) (g.F.Files.bytes c.args.files.now)
    (shop_inputs (Some c.args.options.now.machine.now) (Some c.args.options.now.tools.now))
    (program_input (option_map (λ n. n.now) c.args.options.now.program) ∷ certificate_inputs (option_map (λ n. n.now) c.args.options.now.certificate)) _ _
    (unread_by c.in_err-shop.field-0.0) c.in_err-shop.ensures.unread)

pub returns-in_err-program-clause-unread : goal.returns-in_err-program-clause-unread
returns-in_err-program-clause-unread g c =
    unread_told (SourceFails g.F.R.Source.remaining g.F.R.Source.failures) (g.F.Files.bytes c.args.files.now)
    (own_draw_inputs c.args.options.now) _ _ _ (answers.Read c.in_err-program.field-0.0) c.from_residual-in_err-program.ensures.1
    (told_behind (SourceFails g.F.R.Source.remaining g.F.R.Source.failures) (g.F.Files.bytes c.args.files.now) (g.F.Files.bytes c.read_placed.new.files)
    (shop_inputs (Some c.args.options.now.machine.now) (Some c.args.options.now.tools.now)) OfProgram (option_map (λ n. n.now) c.args.options.now.program)
    (certificate_inputs (option_map (λ n. n.now) c.args.options.now.certificate)) _ _ _ (program_unread c.in_err-program.field-0.0)
    (placed_read (g.F.Files.bytes c.args.files.now) (Some c.args.options.now.machine.now)
    (Some c.args.options.now.tools.now) c.args.options.now.changes c.in_ok-shop.shop c.in_ok-shop.ensures.said)
    (c.read_placed.ensures.keeps (option_map (λ n. n.now) c.args.options.now.program)) c.in_ok-shop.ensures.unread c.in_err-program.ensures.unread)

pub returns-in_err-certificate-clause-unread : goal.returns-in_err-certificate-clause-unread
returns-in_err-certificate-clause-unread g c =
    unread_told (SourceFails g.F.R.Source.remaining g.F.R.Source.failures) (g.F.Files.bytes c.args.files.now)
    (own_draw_inputs c.args.options.now) _ _ _ (answers.Certificate c.in_err-certificate.field-0.0)
    c.from_residual-in_err-certificate.ensures.1
    (with_certificate (λ (files : List Input). ReportsIfUnread (SourceFails g.F.R.Source.remaining g.F.R.Source.failures) (g.F.Files.bytes c.args.files.now) files
    (g.F.Files.failures c.args.files.now) (g.F.Files.failures c.read_certificate.new.files)
    (certificate_unread c.in_err-certificate.field-0.0)) c.args.options.now c.args.certificate.now c.requires
    (told_behind (SourceFails g.F.R.Source.remaining g.F.R.Source.failures) (g.F.Files.bytes c.args.files.now) (g.F.Files.bytes c.read_program.new.files)
    (shop_inputs (Some c.args.options.now.machine.now) (Some c.args.options.now.tools.now)
    ++ program_input (option_map (λ n. n.now) c.args.options.now.program)
    ∷ []) OfCertificate (Some c.args.certificate.now) ([]) _ _ _ (certificate_unread c.in_err-certificate.field-0.0)
    (all_read (g.F.Files.bytes c.args.files.now) (shop_inputs (Some c.args.options.now.machine.now) (Some c.args.options.now.tools.now))
    (program_input (option_map (λ n. n.now) c.args.options.now.program) ∷ [])
    (placed_read (g.F.Files.bytes c.args.files.now) (Some c.args.options.now.machine.now)
    (Some c.args.options.now.tools.now) c.args.options.now.changes c.in_ok-shop.shop c.in_ok-shop.ensures.said) (
      is_read program_of _ (g.F.Files.bytes c.args.files.now (option_map (λ n. n.now) c.args.options.now.program))
          (g.F.Files.bytes c.read_placed.new.files (option_map (λ n. n.now) c.args.options.now.program))
          (c.read_placed.ensures.keeps (option_map (λ n. n.now) c.args.options.now.program)) c.in_ok-program.ensures.text,
      tt,
    ))
    (c.read_program.ensures.named c.args.certificate.now ∙ c.read_placed.ensures.keeps (Some c.args.certificate.now))
    (c.in_ok-program.ensures.unread ∙ c.in_ok-shop.ensures.unread) c.in_err-certificate.ensures.unread))

pub returns-in_err-draw_certified-clause-unread : goal.returns-in_err-draw_certified-clause-unread
returns-in_err-draw_certified-clause-unread g c =
    unread_told (SourceFails g.F.R.Source.remaining g.F.R.Source.failures) (g.F.Files.bytes c.args.files.now)
    (own_draw_inputs c.args.options.now) _ _ _ c.in_err-draw_certified.field-0.0 c.from_residual-in_err-draw_certified.ensures.1
    (draw_told (SourceFails g.F.R.Source.remaining g.F.R.Source.failures) (g.F.Files.bytes c.args.files.now)
    (own_draw_inputs c.args.options.now) _ _ c.in_err-draw_certified.field-0.0 c.in_err-draw_certified.ensures.faults
    (c.in_ok-certificate.ensures.unread ∙ c.in_ok-program.ensures.unread ∙ c.in_ok-shop.ensures.unread))
