use Rattle.std.proofs.Common.{[], ◌∷◌, ◌++◌, Some, Ok, Err, ap, refl, ◌∙◌, inl, inr}
use Rattle.ngc_simulator.proofs.FileLaws.{checked_files, unread_files}
use Rattle.ngc_report.proofs.Converted.{turned}
use Rattle.ngc_inputs.proofs.JobLaws.{if_known, keeps_same}
use Rattle.ngc_simulator.specs.Answers.{certificate_input, program_input, OwnCheckResult, own_check_inputs}
use Rattle.ngc_inputs.specs.Faults.{OfChecking}
use Rattle.ngc_inputs.specs.Unread.{OfCertificate, OfProgram, SourceFails, program_unread, shop_inputs, unread_by}
use Rattle.ngc_inputs.specs.declared.fault.AnswerFault.TheVariants as answers
use Rattle.ngc_simulator.proofs.FileLaws.{or_of_reading}
use Rattle.ngc_inputs.proofs.UnreadLaws.{all_read, check_told, is_read, placed_read, reported_before, told_behind, unopened, unread_told}
use Rattle.std.specs.Prelude.{option_map}
use Rattle.ngc_line_reader.specs.ProgramText.{program_of}
use Rattle.ngc_simulator.proofs.checking.check_own.Goals as goal

pub returns-in_err-shop-clause-comes : goal.returns-in_err-shop-clause-comes
returns-in_err-shop-clause-comes g c =
    turned _ c.in_err-shop.field-0.0
    (OwnCheckResult (g.F.Files.bytes c.args.files.now) c.args.options.now (g.W.Sink.written c.args.output.now) (g.W.Sink.written c.args.output.now))
    c.from_residual.ensures.1 (inl (c.in_err-shop.ensures.said, keeps_same _))

pub returns-in_err-program-clause-comes : goal.returns-in_err-program-clause-comes
returns-in_err-program-clause-comes g c =
    turned _ (answers.Read c.in_err-program.field-0.0)
    (OwnCheckResult (g.F.Files.bytes c.args.files.now) c.args.options.now (g.W.Sink.written c.args.output.now) (g.W.Sink.written c.args.output.now))
    c.from_residual-in_err-program.ensures.1
    (inr (
      tt,
      unread_files (g.F.Files.bytes c.args.files.now) (g.F.Files.bytes c.read_placed.new.files) c.args.options.now c.in_ok-shop.shop _
          (g.W.Sink.written c.args.output.now) c.in_err-program.field-0.0
          c.in_ok-shop.ensures.said c.read_placed.ensures.keeps refl c.in_err-program.ensures.text,
    ))

pub returns-in_err-certificate-clause-comes : goal.returns-in_err-certificate-clause-comes
returns-in_err-certificate-clause-comes g c =
    turned _ (answers.Input c.in_err-certificate.field-0.0)
    (OwnCheckResult (g.F.Files.bytes c.args.files.now) c.args.options.now (g.W.Sink.written c.args.output.now) (g.W.Sink.written c.args.output.now))
    c.from_residual-in_err-certificate.ensures.1 (inl (tt, keeps_same _))

pub returns-clause-comes : goal.returns-clause-comes
returns-clause-comes g c =
    checked_files (g.F.Files.bytes c.args.files.now) (g.F.Files.bytes c.read_placed.new.files)
    (g.F.Files.bytes c.read_program.new.files) c.args.options.now c.in_ok-shop.shop _ _ (g.W.Sink.written c.args.output.now)
    (g.W.Sink.written c.check_program.new.output) (Ok tt)
    c.in_ok-shop.ensures.said c.read_placed.ensures.keeps c.read_program.ensures.named refl c.in_ok-certificate.ensures.bytes
    (if_known _ _ _ (λ bytes is_text. c.in_ok-check_program.ensures.checks bytes is_text c.in_ok-program.ensures.readings) c.in_ok-program.ensures.text)

pub returns-in_err-check_program-clause-comes : goal.returns-in_err-check_program-clause-comes
returns-in_err-check_program-clause-comes g c =
    let fault = c.in_err-check_program.field-0.0 in
    turned _ fault (OwnCheckResult (g.F.Files.bytes c.args.files.now) c.args.options.now (g.W.Sink.written c.args.output.now)
    (g.W.Sink.written c.check_program.new.output)) c.from_residual-in_err-check_program.ensures.1
    (inr (
      or_of_reading OfChecking fault c.in_err-check_program.ensures.faults,
      checked_files (g.F.Files.bytes c.args.files.now) (g.F.Files.bytes c.read_placed.new.files)
          (g.F.Files.bytes c.read_program.new.files) c.args.options.now c.in_ok-shop.shop _ _ (g.W.Sink.written c.args.output.now)
          (g.W.Sink.written c.check_program.new.output) (Err fault)
          c.in_ok-shop.ensures.said c.read_placed.ensures.keeps c.read_program.ensures.named refl c.in_ok-certificate.ensures.bytes
          (if_known _ _ _ (λ bytes is_text. c.in_err-check_program.ensures.checks bytes is_text c.in_ok-program.ensures.readings) c.in_ok-program.ensures.text),
    ))

pub returns-in_err-shop-clause-unread : goal.returns-in_err-shop-clause-unread
returns-in_err-shop-clause-unread g c =
    unread_told (SourceFails g.F.R.Source.remaining g.F.R.Source.failures) (g.F.Files.bytes c.args.files.now)
    (own_check_inputs c.args.options.now) _ _ _ c.in_err-shop.field-0.0 c.from_residual.ensures.1
    (reported_before (SourceFails g.F.R.Source.remaining g.F.R.Source.failures) (g.F.Files.bytes c.args.files.now)
    (shop_inputs (Some c.args.options.now.machine.now) (Some c.args.options.now.tools.now))
    (program_input (option_map (λ n. n.now) c.args.options.now.program) ∷ certificate_input c.args.options.now.certificate.now ∷ []) _ _
    (unread_by c.in_err-shop.field-0.0) c.in_err-shop.ensures.unread)

pub returns-in_err-program-clause-unread : goal.returns-in_err-program-clause-unread
returns-in_err-program-clause-unread g c =
    unread_told (SourceFails g.F.R.Source.remaining g.F.R.Source.failures) (g.F.Files.bytes c.args.files.now) (own_check_inputs c.args.options.now) _ _ _
    (answers.Read c.in_err-program.field-0.0) c.from_residual-in_err-program.ensures.1
    (told_behind (SourceFails g.F.R.Source.remaining g.F.R.Source.failures) (g.F.Files.bytes c.args.files.now) (g.F.Files.bytes c.read_placed.new.files)
    (shop_inputs (Some c.args.options.now.machine.now) (Some c.args.options.now.tools.now)) OfProgram (option_map (λ n. n.now) c.args.options.now.program)
    (certificate_input c.args.options.now.certificate.now ∷ []) _ _ _ (program_unread c.in_err-program.field-0.0)
    (placed_read (g.F.Files.bytes c.args.files.now) (Some c.args.options.now.machine.now)
    (Some c.args.options.now.tools.now) c.args.options.now.changes c.in_ok-shop.shop c.in_ok-shop.ensures.said)
    (c.read_placed.ensures.keeps (option_map (λ n. n.now) c.args.options.now.program)) c.in_ok-shop.ensures.unread c.in_err-program.ensures.unread)

pub returns-in_err-certificate-clause-unread : goal.returns-in_err-certificate-clause-unread
returns-in_err-certificate-clause-unread g c =
    unread_told (SourceFails g.F.R.Source.remaining g.F.R.Source.failures) (g.F.Files.bytes c.args.files.now) (own_check_inputs c.args.options.now) _ _ _
    (answers.Input c.in_err-certificate.field-0.0) c.from_residual-in_err-certificate.ensures.1
    (unopened (SourceFails g.F.R.Source.remaining g.F.R.Source.failures) (g.F.Files.bytes c.args.files.now)
    (shop_inputs (Some c.args.options.now.machine.now) (Some c.args.options.now.tools.now)
    ++ program_input (option_map (λ n. n.now) c.args.options.now.program)
    ∷ []) OfCertificate (Some c.args.options.now.certificate.now) [] _ _ _ c.in_err-certificate.field-0.0 c.in_err-certificate.ensures.fault
    (all_read (g.F.Files.bytes c.args.files.now) (shop_inputs (Some c.args.options.now.machine.now) (Some c.args.options.now.tools.now))
    (program_input (option_map (λ n. n.now) c.args.options.now.program) ∷ [])
    (placed_read (g.F.Files.bytes c.args.files.now) (Some c.args.options.now.machine.now)
    (Some c.args.options.now.tools.now) c.args.options.now.changes c.in_ok-shop.shop c.in_ok-shop.ensures.said) (
      is_read program_of _ (g.F.Files.bytes c.args.files.now (option_map (λ n. n.now) c.args.options.now.program))
          (g.F.Files.bytes c.read_placed.new.files (option_map (λ n. n.now) c.args.options.now.program))
          (c.read_placed.ensures.keeps (option_map (λ n. n.now) c.args.options.now.program)) c.in_ok-program.ensures.text,
      tt,
    )) (c.in_ok-program.ensures.unread ∙ c.in_ok-shop.ensures.unread) c.in_err-certificate.ensures.counts)

pub returns-in_err-check_program-clause-unread : goal.returns-in_err-check_program-clause-unread
returns-in_err-check_program-clause-unread g c =
    unread_told (SourceFails g.F.R.Source.remaining g.F.R.Source.failures) (g.F.Files.bytes c.args.files.now)
    (own_check_inputs c.args.options.now) _ _ _ c.in_err-check_program.field-0.0 c.from_residual-in_err-check_program.ensures.1
    (check_told (SourceFails g.F.R.Source.remaining g.F.R.Source.failures) (g.F.Files.bytes c.args.files.now)
    (shop_inputs (Some c.args.options.now.machine.now) (Some c.args.options.now.tools.now)
    ++ program_input (option_map (λ n. n.now) c.args.options.now.program)
    ∷ []) (Some c.args.options.now.certificate.now) _ _ c.in_err-check_program.field-0.0 c.in_err-check_program.ensures.faults
    (all_read (g.F.Files.bytes c.args.files.now) (shop_inputs (Some c.args.options.now.machine.now) (Some c.args.options.now.tools.now))
    (program_input (option_map (λ n. n.now) c.args.options.now.program) ∷ [])
    (placed_read (g.F.Files.bytes c.args.files.now) (Some c.args.options.now.machine.now)
    (Some c.args.options.now.tools.now) c.args.options.now.changes c.in_ok-shop.shop c.in_ok-shop.ensures.said) (
      is_read program_of _ (g.F.Files.bytes c.args.files.now (option_map (λ n. n.now) c.args.options.now.program))
          (g.F.Files.bytes c.read_placed.new.files (option_map (λ n. n.now) c.args.options.now.program))
          (c.read_placed.ensures.keeps (option_map (λ n. n.now) c.args.options.now.program)) c.in_ok-program.ensures.text,
      tt,
    ))
    (c.in_ok-certificate.ensures.counts ∙ c.in_ok-program.ensures.unread ∙ c.in_ok-shop.ensures.unread)
    (λ is. record {
      opened = c.in_ok-certificate.certificate;
      left = c.check_program.new.certificate;
      gave = c.in_ok-certificate.ensures.bytes ∙ c.read_program.ensures.named c.args.options.now.certificate.now
          ∙ c.read_placed.ensures.keeps (Some c.args.options.now.certificate.now);
      fails = c.in_err-check_program.ensures.source (ap Err is);
    }))
