use Rattle.std.proofs.Common.{[], ◌∷◌, ◌++◌, Some, Ok, Err, inl, refl, ◌∙◌, inr}
use Rattle.ngc_canonical.specs.Interpreter.{setup_of}
use Rattle.ngc_inputs.specs.declared.fault.AnswerFault.TheVariants as answers
use Rattle.ngc_simulator.proofs.FileLaws.{all_known, or_of_reading}
use Rattle.ngc_report.proofs.Converted.{turned}
use Rattle.ngc_inputs.proofs.JobLaws.{keeps_same}
use Rattle.ngc_simulator.proofs.RunLaws.{ran_files, run_over}
use Rattle.ngc_inputs.specs.Faults.{OfRunning}
use Rattle.ngc_simulator.specs.Answers.{certificate_input, events_input, program_input, own_run_inputs, OwnRunResult}
use Rattle.ngc_inputs.specs.Unread.{OfCertificate, OfEvents, OfProgram, SourceFails, certificate_unread, program_unread, shop_inputs, unread_by}
use Rattle.ngc_inputs.proofs.UnreadLaws.{all_read, is_read, run_told, placed_read, reported_before, told_behind, unread_told}
use Rattle.std.specs.Prelude.{option_map}
use Rattle.ngc_line_reader.specs.ProgramText.{program_of}
use Rattle.ngc_line_reader.specs.ProgramView.{text_in}
use Rattle.ngc_inputs.proofs.JudgingLaws.{judged_is_read, verdict_on}
use Rattle.ngc_simulator.proofs.running.run_own.Goals as goal

pub returns-in_err-shop-clause-comes : goal.returns-in_err-shop-clause-comes
returns-in_err-shop-clause-comes g c =
    turned _ c.in_err-shop.field-0.0
    (OwnRunResult (g.F.Files.bytes c.args.files.now) c.args.options.now c.args.writing (g.W.Sink.written c.args.output.now) (g.W.Sink.written c.args.output.now))
    c.from_residual.ensures.1 (inl (c.in_err-shop.ensures.said, keeps_same _))

pub returns-in_err-program-clause-comes : goal.returns-in_err-program-clause-comes
returns-in_err-program-clause-comes g c =
    let fault = answers.Read c.in_err-program.field-0.0 in
    turned _ fault (OwnRunResult (g.F.Files.bytes c.args.files.now) c.args.options.now c.args.writing (g.W.Sink.written c.args.output.now) (g.W.Sink.written c.args.output.now))
    c.from_residual-in_err-program.ensures.1
    (inr (
      tt,
      ran_files (g.F.Files.bytes c.args.files.now) (g.F.Files.bytes c.read_placed.new.files) (g.F.Files.bytes c.read_placed.new.files)
          (g.F.Files.bytes c.read_placed.new.files) c.args.options.now c.args.writing c.in_ok-shop.shop _ _ (Err fault) _ (λ b. Unit {0}) (λ e. Unit {0})
          c.in_ok-shop.ensures.said c.read_placed.ensures.keeps (λ name. refl) (λ name. refl)
          c.in_err-program.ensures.text (all_known _ _ (λ b. tt)) (all_known _ _ (λ e. tt))
          (λ a b e fault_is q r. (fault_is, keeps_same _)),
    ))

pub returns-in_err-verdict-clause-comes : goal.returns-in_err-verdict-clause-comes
returns-in_err-verdict-clause-comes g c =
    let fault = answers.Certificate c.in_err-verdict.field-0.0 in
    turned _ fault (OwnRunResult (g.F.Files.bytes c.args.files.now) c.args.options.now c.args.writing (g.W.Sink.written c.args.output.now) (g.W.Sink.written c.args.output.now))
    c.from_residual-in_err-verdict.ensures.1
    (inr (
      tt,
      ran_files (g.F.Files.bytes c.args.files.now) (g.F.Files.bytes c.read_placed.new.files) (g.F.Files.bytes c.read_program.new.files)
          (g.F.Files.bytes c.read_program.new.files) c.args.options.now c.args.writing c.in_ok-shop.shop _ _ (Err fault) (λ a. Unit {0}) _ (λ e. Unit {0})
          c.in_ok-shop.ensures.said c.read_placed.ensures.keeps c.read_program.ensures.named (λ name. refl)
          (all_known _ _ (λ a. tt)) (c.in_err-verdict.ensures.judges c.in_ok-program.ensures.readings.readings c.in_ok-program.ensures.readings.are)
          (all_known _ _ (λ e. tt)) (λ a b e p none r. (none, keeps_same _)),
    ))

pub returns-in_err-events-clause-comes : goal.returns-in_err-events-clause-comes
returns-in_err-events-clause-comes g c =
    turned _ (answers.Input c.in_err-events.field-0.0)
    (OwnRunResult (g.F.Files.bytes c.args.files.now) c.args.options.now c.args.writing (g.W.Sink.written c.args.output.now) (g.W.Sink.written c.args.output.now))
    c.from_residual-in_err-events.ensures.1 (inl (tt, keeps_same _))

pub returns-clause-comes : goal.returns-clause-comes
returns-clause-comes g c = (
  c.in_ok-run_program.field-0,
  ran_files (g.F.Files.bytes c.args.files.now) (g.F.Files.bytes c.read_placed.new.files) (g.F.Files.bytes c.read_program.new.files)
      (g.F.Files.bytes c.judge_file.new.files) c.args.options.now c.args.writing c.in_ok-shop.shop (g.W.Sink.written c.args.output.now)
      (g.W.Sink.written c.run_program.new.output) (Ok c.in_ok-run_program.field-0) _ _ _
      c.in_ok-shop.ensures.said c.read_placed.ensures.keeps c.read_program.ensures.named c.judge_file.ensures.keeps
      c.in_ok-program.ensures.text
      (c.in_ok-verdict.ensures.judges c.in_ok-program.ensures.readings.readings c.in_ok-program.ensures.readings.are) c.in_ok-events.ensures.value
      (λ a b e is_text judges read.
      run_over c.args.writing (setup_of c.in_ok-shop.shop.machine c.in_ok-shop.shop.tools) a b e c.as_slice.result.now c.in_ok-events.events.items
      c.args.options.now.delete _ _ (Ok c.in_ok-run_program.field-0) c.as_slice.ensures.value read
      (c.in_ok-run_program.ensures.runs (setup_of c.in_ok-shop.shop.machine c.in_ok-shop.shop.tools) a b
      (verdict_on (setup_of c.in_ok-shop.shop.machine c.in_ok-shop.shop.tools) a b (text_in c.in_ok-program.program) c.in_ok-verdict.verdict
      is_text c.in_ok-program.ensures.readings judges))),
)

pub returns-in_err-run_program-clause-comes : goal.returns-in_err-run_program-clause-comes
returns-in_err-run_program-clause-comes g c =
    let fault = c.in_err-run_program.field-0.0 in
    turned _ fault (OwnRunResult (g.F.Files.bytes c.args.files.now) c.args.options.now c.args.writing (g.W.Sink.written c.args.output.now)
    (g.W.Sink.written c.run_program.new.output)) c.from_residual-in_err-run_program.ensures.1
    (inr (
      or_of_reading OfRunning fault c.in_err-run_program.ensures.faults,
      ran_files (g.F.Files.bytes c.args.files.now) (g.F.Files.bytes c.read_placed.new.files) (g.F.Files.bytes c.read_program.new.files)
          (g.F.Files.bytes c.judge_file.new.files) c.args.options.now c.args.writing c.in_ok-shop.shop (g.W.Sink.written c.args.output.now)
          (g.W.Sink.written c.run_program.new.output) (Err fault) _ _ _
          c.in_ok-shop.ensures.said c.read_placed.ensures.keeps c.read_program.ensures.named c.judge_file.ensures.keeps
          c.in_ok-program.ensures.text
          (c.in_ok-verdict.ensures.judges c.in_ok-program.ensures.readings.readings c.in_ok-program.ensures.readings.are) c.in_ok-events.ensures.value
          (λ a b e is_text judges read.
          run_over c.args.writing (setup_of c.in_ok-shop.shop.machine c.in_ok-shop.shop.tools) a b e c.as_slice.result.now
          c.in_ok-events.events.items c.args.options.now.delete _ _ (Err fault) c.as_slice.ensures.value read
          (c.in_err-run_program.ensures.runs (setup_of c.in_ok-shop.shop.machine c.in_ok-shop.shop.tools) a b
          (verdict_on (setup_of c.in_ok-shop.shop.machine c.in_ok-shop.shop.tools) a b (text_in c.in_ok-program.program) c.in_ok-verdict.verdict
          is_text c.in_ok-program.ensures.readings judges))),
    ))

pub returns-in_err-shop-clause-unread : goal.returns-in_err-shop-clause-unread
returns-in_err-shop-clause-unread g c =
    unread_told (SourceFails g.F.R.Source.remaining g.F.R.Source.failures) (g.F.Files.bytes c.args.files.now)
    (own_run_inputs c.args.options.now) _ _ _ c.in_err-shop.field-0.0 c.from_residual.ensures.1
    (reported_before (SourceFails g.F.R.Source.remaining g.F.R.Source.failures) (g.F.Files.bytes c.args.files.now)
    (shop_inputs (Some c.args.options.now.machine.now) (Some c.args.options.now.tools.now))
    (program_input (option_map (λ n. n.now) c.args.options.now.program) ∷ certificate_input c.args.options.now.certificate.now
    ∷ events_input c.args.options.now.events.now ∷ []) _ _ (unread_by c.in_err-shop.field-0.0) c.in_err-shop.ensures.unread)

pub returns-in_err-program-clause-unread : goal.returns-in_err-program-clause-unread
returns-in_err-program-clause-unread g c =
    unread_told (SourceFails g.F.R.Source.remaining g.F.R.Source.failures) (g.F.Files.bytes c.args.files.now) (own_run_inputs c.args.options.now) _ _ _
    (answers.Read c.in_err-program.field-0.0) c.from_residual-in_err-program.ensures.1
    (told_behind (SourceFails g.F.R.Source.remaining g.F.R.Source.failures) (g.F.Files.bytes c.args.files.now) (g.F.Files.bytes c.read_placed.new.files)
    (shop_inputs (Some c.args.options.now.machine.now) (Some c.args.options.now.tools.now)) OfProgram (option_map (λ n. n.now) c.args.options.now.program)
    (certificate_input c.args.options.now.certificate.now ∷ events_input c.args.options.now.events.now ∷ []) _ _ _
    (program_unread c.in_err-program.field-0.0)
    (placed_read (g.F.Files.bytes c.args.files.now) (Some c.args.options.now.machine.now)
    (Some c.args.options.now.tools.now) c.args.options.now.changes c.in_ok-shop.shop c.in_ok-shop.ensures.said)
    (c.read_placed.ensures.keeps (option_map (λ n. n.now) c.args.options.now.program)) c.in_ok-shop.ensures.unread c.in_err-program.ensures.unread)

pub returns-in_err-verdict-clause-unread : goal.returns-in_err-verdict-clause-unread
returns-in_err-verdict-clause-unread g c =
    unread_told (SourceFails g.F.R.Source.remaining g.F.R.Source.failures) (g.F.Files.bytes c.args.files.now) (own_run_inputs c.args.options.now) _ _ _
    (answers.Certificate c.in_err-verdict.field-0.0) c.from_residual-in_err-verdict.ensures.1
    (told_behind (SourceFails g.F.R.Source.remaining g.F.R.Source.failures) (g.F.Files.bytes c.args.files.now) (g.F.Files.bytes c.read_program.new.files)
    (shop_inputs (Some c.args.options.now.machine.now) (Some c.args.options.now.tools.now)
    ++ program_input (option_map (λ n. n.now) c.args.options.now.program)
    ∷ []) OfCertificate (Some c.args.options.now.certificate.now) (events_input c.args.options.now.events.now ∷ []) _ _ _
    (certificate_unread c.in_err-verdict.field-0.0)
    (all_read (g.F.Files.bytes c.args.files.now) (shop_inputs (Some c.args.options.now.machine.now) (Some c.args.options.now.tools.now))
    (program_input (option_map (λ n. n.now) c.args.options.now.program) ∷ [])
    (placed_read (g.F.Files.bytes c.args.files.now) (Some c.args.options.now.machine.now)
    (Some c.args.options.now.tools.now) c.args.options.now.changes c.in_ok-shop.shop c.in_ok-shop.ensures.said) (
      is_read program_of _ (g.F.Files.bytes c.args.files.now (option_map (λ n. n.now) c.args.options.now.program))
          (g.F.Files.bytes c.read_placed.new.files (option_map (λ n. n.now) c.args.options.now.program))
          (c.read_placed.ensures.keeps (option_map (λ n. n.now) c.args.options.now.program)) c.in_ok-program.ensures.text,
      tt,
    ))
    (c.read_program.ensures.named c.args.options.now.certificate.now ∙ c.read_placed.ensures.keeps (Some c.args.options.now.certificate.now))
    (c.in_ok-program.ensures.unread ∙ c.in_ok-shop.ensures.unread) c.in_err-verdict.ensures.unread)

pub returns-in_err-events-clause-unread : goal.returns-in_err-events-clause-unread
returns-in_err-events-clause-unread g c =
    unread_told (SourceFails g.F.R.Source.remaining g.F.R.Source.failures) (g.F.Files.bytes c.args.files.now) (own_run_inputs c.args.options.now) _ _ _
    (answers.Input c.in_err-events.field-0.0) c.from_residual-in_err-events.ensures.1
    (told_behind (SourceFails g.F.R.Source.remaining g.F.R.Source.failures) (g.F.Files.bytes c.args.files.now) (g.F.Files.bytes c.judge_file.new.files)
    (shop_inputs (Some c.args.options.now.machine.now) (Some c.args.options.now.tools.now)
    ++ program_input (option_map (λ n. n.now) c.args.options.now.program) ∷ certificate_input c.args.options.now.certificate.now
    ∷ []) OfEvents (Some c.args.options.now.events.now) [] _ _ _ (Some c.in_err-events.field-0.0)
    (all_read (g.F.Files.bytes c.args.files.now)
    (shop_inputs (Some c.args.options.now.machine.now) (Some c.args.options.now.tools.now)
    ++ program_input (option_map (λ n. n.now) c.args.options.now.program)
    ∷ []) (certificate_input c.args.options.now.certificate.now ∷ [])
    (all_read (g.F.Files.bytes c.args.files.now) (shop_inputs (Some c.args.options.now.machine.now) (Some c.args.options.now.tools.now))
    (program_input (option_map (λ n. n.now) c.args.options.now.program) ∷ [])
    (placed_read (g.F.Files.bytes c.args.files.now) (Some c.args.options.now.machine.now)
    (Some c.args.options.now.tools.now) c.args.options.now.changes c.in_ok-shop.shop c.in_ok-shop.ensures.said) (
      is_read program_of _ (g.F.Files.bytes c.args.files.now (option_map (λ n. n.now) c.args.options.now.program))
          (g.F.Files.bytes c.read_placed.new.files (option_map (λ n. n.now) c.args.options.now.program))
          (c.read_placed.ensures.keeps (option_map (λ n. n.now) c.args.options.now.program)) c.in_ok-program.ensures.text,
      tt,
    )) (
      judged_is_read _ _ c.in_ok-verdict.verdict (g.F.Files.bytes c.args.files.now (Some c.args.options.now.certificate.now))
          (g.F.Files.bytes c.read_program.new.files (Some c.args.options.now.certificate.now))
          (c.read_program.ensures.named c.args.options.now.certificate.now ∙ c.read_placed.ensures.keeps (Some c.args.options.now.certificate.now))
          (c.in_ok-verdict.ensures.judges c.in_ok-program.ensures.readings.readings c.in_ok-program.ensures.readings.are),
      tt,
    ))
    (c.judge_file.ensures.keeps (Some c.args.options.now.events.now) ∙ c.read_program.ensures.named c.args.options.now.events.now
    ∙ c.read_placed.ensures.keeps (Some c.args.options.now.events.now))
    (c.in_ok-verdict.ensures.unread ∙ c.in_ok-program.ensures.unread ∙ c.in_ok-shop.ensures.unread) (inl c.in_err-events.ensures.unread))

pub returns-in_err-run_program-clause-unread : goal.returns-in_err-run_program-clause-unread
returns-in_err-run_program-clause-unread g c =
    unread_told (SourceFails g.F.R.Source.remaining g.F.R.Source.failures) (g.F.Files.bytes c.args.files.now)
    (own_run_inputs c.args.options.now) _ _ _ c.in_err-run_program.field-0.0 c.from_residual-in_err-run_program.ensures.1
    (run_told (SourceFails g.F.R.Source.remaining g.F.R.Source.failures) (g.F.Files.bytes c.args.files.now)
    (own_run_inputs c.args.options.now) _ _ c.in_err-run_program.field-0.0 c.in_err-run_program.ensures.faults
    (c.in_ok-events.ensures.counts ∙ c.in_ok-verdict.ensures.unread ∙ c.in_ok-program.ensures.unread ∙ c.in_ok-shop.ensures.unread))
