use Rattle.std.proofs.Common.{[], ◌∷◌, ◌++◌, Some, Ok, Err, inl, inr, refl, ◌∙◌}
use Rattle.ngc_canonical.specs.Interpreter.{setup_of}
use Rattle.ngc_inputs.specs.declared.fault.AnswerFault.TheVariants as answers
use Rattle.ngc_simulator.proofs.FileLaws.{all_known, or_of_reading}
use Rattle.ngc_report.proofs.Converted.{turned}
use Rattle.ngc_inputs.proofs.JobLaws.{keeps_same}
use Rattle.ngc_simulator.proofs.RunLaws.{run_timed, went_files}
use Rattle.ngc_inputs.specs.Faults.{OfRunning}
use Rattle.ngc_simulator.specs.Answers.{OwnRunThroughResult, certificate_input, own_run_through_inputs, program_input}
use Rattle.ngc_inputs.specs.Unread.{OfCertificate, OfProgram, SourceFails, certificate_unread, program_unread, shop_inputs, unread_by}
use Rattle.ngc_inputs.proofs.UnreadLaws.{all_read, is_read, run_told, placed_read, reported_before, told_behind, unread_told}
use Rattle.std.specs.Prelude.{option_map}
use Rattle.ngc_line_reader.specs.ProgramText.{program_of}
use Rattle.ngc_line_reader.specs.ProgramView.{text_in}
use Rattle.ngc_inputs.proofs.JudgingLaws.{verdict_on}
use Rattle.ngc_simulator.proofs.through.run_through_own.Goals as goal

pub returns-in_err-shop-clause-comes : goal.returns-in_err-shop-clause-comes
returns-in_err-shop-clause-comes g c =
    turned _ c.in_err-shop.field-0.0
    (OwnRunThroughResult (g.F.Files.bytes c.args.files.now) c.args.options.now c.args.writing (g.W.Sink.written c.args.output.now) (g.W.Sink.written c.args.output.now))
    c.from_residual.ensures.1 (inl (c.in_err-shop.ensures.said, keeps_same _))

pub returns-in_err-program-clause-comes : goal.returns-in_err-program-clause-comes
returns-in_err-program-clause-comes g c =
    let fault = answers.Read c.in_err-program.field-0.0 in
    turned _ fault (OwnRunThroughResult (g.F.Files.bytes c.args.files.now) c.args.options.now c.args.writing (g.W.Sink.written c.args.output.now)
    (g.W.Sink.written c.args.output.now)) c.from_residual-in_err-program.ensures.1
    (inr (
      tt,
      went_files (g.F.Files.bytes c.args.files.now) (g.F.Files.bytes c.read_placed.new.files)
          (g.F.Files.bytes c.read_placed.new.files) c.args.options.now c.args.writing c.in_ok-shop.shop _ _ (Err fault) _ (λ b. Unit {0})
          c.in_ok-shop.ensures.said c.read_placed.ensures.keeps (λ name. refl)
          c.in_err-program.ensures.text (all_known _ _ (λ b. tt))
          (λ a b fault_is q. (fault_is, keeps_same _)),
    ))

pub returns-in_err-verdict-clause-comes : goal.returns-in_err-verdict-clause-comes
returns-in_err-verdict-clause-comes g c =
    let fault = answers.Certificate c.in_err-verdict.field-0.0 in
    turned _ fault (OwnRunThroughResult (g.F.Files.bytes c.args.files.now) c.args.options.now c.args.writing (g.W.Sink.written c.args.output.now)
    (g.W.Sink.written c.args.output.now)) c.from_residual-in_err-verdict.ensures.1
    (inr (
      tt,
      went_files (g.F.Files.bytes c.args.files.now) (g.F.Files.bytes c.read_placed.new.files)
          (g.F.Files.bytes c.read_program.new.files) c.args.options.now c.args.writing c.in_ok-shop.shop _ _ (Err fault) (λ a. Unit {0}) _
          c.in_ok-shop.ensures.said c.read_placed.ensures.keeps c.read_program.ensures.named
          (all_known _ _ (λ a. tt))
          (c.in_err-verdict.ensures.judges c.in_ok-program.ensures.readings.readings c.in_ok-program.ensures.readings.are)
          (λ a b p none. (none, keeps_same _)),
    ))

pub returns-clause-comes : goal.returns-clause-comes
returns-clause-comes g c = (
  c.in_ok-report.report,
  went_files (g.F.Files.bytes c.args.files.now) (g.F.Files.bytes c.read_placed.new.files)
      (g.F.Files.bytes c.read_program.new.files) c.args.options.now c.args.writing c.in_ok-shop.shop (g.W.Sink.written c.args.output.now)
      (g.W.Sink.written c.run_program_through.new.output) (Ok c.in_ok-report.report) _ _
      c.in_ok-shop.ensures.said c.read_placed.ensures.keeps c.read_program.ensures.named
      c.in_ok-program.ensures.text
      (c.in_ok-verdict.ensures.judges c.in_ok-program.ensures.readings.readings c.in_ok-program.ensures.readings.are)
      (λ a b is_text judges.
      c.in_ok-report.ensures.runs (setup_of c.in_ok-shop.shop.machine c.in_ok-shop.shop.tools) a b
      (verdict_on (setup_of c.in_ok-shop.shop.machine c.in_ok-shop.shop.tools) a b (text_in c.in_ok-program.program) c.in_ok-verdict.verdict
      is_text c.in_ok-program.ensures.readings judges)),
  run_timed (g.F.Files.bytes c.args.files.now) c.args.options.now c.in_ok-shop.shop c.in_ok-report.report _ c.in_ok-shop.ensures.said refl refl,
)

pub returns-in_err-report-clause-comes : goal.returns-in_err-report-clause-comes
returns-in_err-report-clause-comes g c =
    let fault = c.in_err-report.field-0.0 in
    turned _ fault (OwnRunThroughResult (g.F.Files.bytes c.args.files.now) c.args.options.now c.args.writing (g.W.Sink.written c.args.output.now)
    (g.W.Sink.written c.run_program_through.new.output)) c.from_residual-in_err-report.ensures.1
    (inr (
      or_of_reading OfRunning fault c.in_err-report.ensures.faults,
      went_files (g.F.Files.bytes c.args.files.now) (g.F.Files.bytes c.read_placed.new.files)
          (g.F.Files.bytes c.read_program.new.files) c.args.options.now c.args.writing c.in_ok-shop.shop (g.W.Sink.written c.args.output.now)
          (g.W.Sink.written c.run_program_through.new.output) (Err fault) _ _
          c.in_ok-shop.ensures.said c.read_placed.ensures.keeps c.read_program.ensures.named
          c.in_ok-program.ensures.text
          (c.in_ok-verdict.ensures.judges c.in_ok-program.ensures.readings.readings c.in_ok-program.ensures.readings.are)
          (λ a b is_text judges.
          c.in_err-report.ensures.runs (setup_of c.in_ok-shop.shop.machine c.in_ok-shop.shop.tools) a b
          (verdict_on (setup_of c.in_ok-shop.shop.machine c.in_ok-shop.shop.tools) a b (text_in c.in_ok-program.program) c.in_ok-verdict.verdict
          is_text c.in_ok-program.ensures.readings judges)),
    ))

pub returns-in_err-shop-clause-unread : goal.returns-in_err-shop-clause-unread
returns-in_err-shop-clause-unread g c =
    unread_told (SourceFails g.F.R.Source.remaining g.F.R.Source.failures) (g.F.Files.bytes c.args.files.now)
    (own_run_through_inputs c.args.options.now) _ _ _ c.in_err-shop.field-0.0 c.from_residual.ensures.1
    (reported_before (SourceFails g.F.R.Source.remaining g.F.R.Source.failures) (g.F.Files.bytes c.args.files.now)
    (shop_inputs (Some c.args.options.now.machine.now) (Some c.args.options.now.tools.now))
    (program_input (option_map (λ n. n.now) c.args.options.now.program) ∷ certificate_input c.args.options.now.certificate.now ∷ []) _ _
    (unread_by c.in_err-shop.field-0.0) c.in_err-shop.ensures.unread)

pub returns-in_err-program-clause-unread : goal.returns-in_err-program-clause-unread
returns-in_err-program-clause-unread g c =
    unread_told (SourceFails g.F.R.Source.remaining g.F.R.Source.failures) (g.F.Files.bytes c.args.files.now) (own_run_through_inputs c.args.options.now) _ _ _
    (answers.Read c.in_err-program.field-0.0) c.from_residual-in_err-program.ensures.1
    (told_behind (SourceFails g.F.R.Source.remaining g.F.R.Source.failures) (g.F.Files.bytes c.args.files.now) (g.F.Files.bytes c.read_placed.new.files)
    (shop_inputs (Some c.args.options.now.machine.now) (Some c.args.options.now.tools.now)) OfProgram (option_map (λ n. n.now) c.args.options.now.program)
    (certificate_input c.args.options.now.certificate.now ∷ []) _ _ _ (program_unread c.in_err-program.field-0.0)
    (placed_read (g.F.Files.bytes c.args.files.now) (Some c.args.options.now.machine.now)
    (Some c.args.options.now.tools.now) c.args.options.now.changes c.in_ok-shop.shop c.in_ok-shop.ensures.said)
    (c.read_placed.ensures.keeps (option_map (λ n. n.now) c.args.options.now.program)) c.in_ok-shop.ensures.unread c.in_err-program.ensures.unread)

pub returns-in_err-verdict-clause-unread : goal.returns-in_err-verdict-clause-unread
returns-in_err-verdict-clause-unread g c =
    unread_told (SourceFails g.F.R.Source.remaining g.F.R.Source.failures) (g.F.Files.bytes c.args.files.now) (own_run_through_inputs c.args.options.now) _ _ _
    (answers.Certificate c.in_err-verdict.field-0.0) c.from_residual-in_err-verdict.ensures.1
    (told_behind (SourceFails g.F.R.Source.remaining g.F.R.Source.failures) (g.F.Files.bytes c.args.files.now) (g.F.Files.bytes c.read_program.new.files)
    (shop_inputs (Some c.args.options.now.machine.now) (Some c.args.options.now.tools.now)
    ++ program_input (option_map (λ n. n.now) c.args.options.now.program)
    ∷ []) OfCertificate (Some c.args.options.now.certificate.now) ([]) _ _ _ (certificate_unread c.in_err-verdict.field-0.0)
    (all_read (g.F.Files.bytes c.args.files.now) (shop_inputs (Some c.args.options.now.machine.now) (Some c.args.options.now.tools.now))
    (program_input (option_map (λ n. n.now) c.args.options.now.program) ∷ [])
    (placed_read (g.F.Files.bytes c.args.files.now) (Some c.args.options.now.machine.now)
    (Some c.args.options.now.tools.now) c.args.options.now.changes c.in_ok-shop.shop c.in_ok-shop.ensures.said) (
      is_read program_of _ (g.F.Files.bytes c.args.files.now (option_map (λ n. n.now) c.args.options.now.program))
          (g.F.Files.bytes c.read_placed.new.files (option_map (λ n. n.now) c.args.options.now.program))
          (c.read_placed.ensures.keeps (option_map (λ n. n.now) c.args.options.now.program)) c.in_ok-program.ensures.text,
      tt,
    ))
    (c.read_program.ensures.named c.args.options.now.certificate.now ∙ c.read_placed.ensures.keeps (Some c.args.options.now.certificate.now))
    (c.in_ok-program.ensures.unread ∙ c.in_ok-shop.ensures.unread) c.in_err-verdict.ensures.unread)

pub returns-in_err-report-clause-unread : goal.returns-in_err-report-clause-unread
returns-in_err-report-clause-unread g c =
    unread_told (SourceFails g.F.R.Source.remaining g.F.R.Source.failures) (g.F.Files.bytes c.args.files.now)
    (own_run_through_inputs c.args.options.now) _ _ _ c.in_err-report.field-0.0 c.from_residual-in_err-report.ensures.1
    (run_told (SourceFails g.F.R.Source.remaining g.F.R.Source.failures) (g.F.Files.bytes c.args.files.now)
    (own_run_through_inputs c.args.options.now) _ _ c.in_err-report.field-0.0 c.in_err-report.ensures.faults
    (c.in_ok-verdict.ensures.unread ∙ c.in_ok-program.ensures.unread ∙ c.in_ok-shop.ensures.unread))
