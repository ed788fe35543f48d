use Rattle.std.proofs.Common.{[], ◌∷◌, ◌++◌, None, Some, Ok, Err, inl, inr, ap, refl, ◌∙◌}
use Rattle.ngc_canonical.specs.Interpreter.{setup_of}
use Rattle.ngc_inputs.specs.declared.fault.AnswerFault.TheVariants as answers
use Rattle.ngc_simulator.proofs.FileLaws.{all_known, or_of_reading}
use Rattle.ngc_report.proofs.Converted.{turned}
use Rattle.ngc_inputs.proofs.JobLaws.{keeps_same}
use Rattle.ngc_simulator.proofs.LiveLaws.{from_input, lived_files}
use Rattle.ngc_inputs.specs.Faults.{OfLiving}
use Rattle.ngc_simulator.specs.Answers.{OwnLiveResult, certificate_input, live_request, own_live_inputs, program_input}
use Rattle.ngc_inputs.specs.Unread.{OfCertificate, OfProgram, OfSource, SourceFails, certificate_unread, program_unread, shop_inputs, unread_by}
use Rattle.ngc_inputs.proofs.UnreadLaws.{all_read, is_read, live_told, placed_read, reported_before, told_behind, unopened, unread_told}
use Rattle.ngc_line_reader.specs.ProgramText.{program_of}
use Rattle.ngc_line_reader.specs.ProgramView.{text_in}
use Rattle.ngc_inputs.proofs.JudgingLaws.{judged_is_read, verdict_on}
use Rattle.ngc_simulator.proofs.living.live_own.Goals as goal

pub returns-in_err-shop-clause-comes : goal.returns-in_err-shop-clause-comes
returns-in_err-shop-clause-comes g c =
    turned _ c.in_err-shop.field-0.0 (OwnLiveResult (g.F.Files.bytes c.args.files.now) c.args.options.now c.args.form (g.W.Sink.written c.args.output.now) (g.W.Sink.written c.args.output.now))
    c.from_residual.ensures.1 (inl (c.in_err-shop.ensures.said, keeps_same _))

pub returns-in_err-program-clause-comes : goal.returns-in_err-program-clause-comes
returns-in_err-program-clause-comes g c =
    let fault = answers.Read c.in_err-program.field-0.0 in
    turned _ fault (OwnLiveResult (g.F.Files.bytes c.args.files.now) c.args.options.now c.args.form (g.W.Sink.written c.args.output.now) (g.W.Sink.written c.args.output.now))
    c.from_residual-in_err-program.ensures.1
    (inr (
      tt,
      lived_files (g.F.Files.bytes c.args.files.now) (g.F.Files.bytes c.read_placed.new.files) (g.F.Files.bytes c.read_placed.new.files) c.args.options.now c.args.form c.in_ok-shop.shop _ _ (Err fault) _ (λ b. Unit {0})
          c.in_ok-shop.ensures.said c.read_placed.ensures.keeps (λ name. refl)
          c.in_err-program.ensures.text (all_known _ _ (λ b. tt))
          (λ a b fault_is q. (None, (fault_is, keeps_same _))),
    ))

pub returns-in_err-verdict-clause-comes : goal.returns-in_err-verdict-clause-comes
returns-in_err-verdict-clause-comes g c =
    let fault = answers.Certificate c.in_err-verdict.field-0.0 in
    turned _ fault (OwnLiveResult (g.F.Files.bytes c.args.files.now) c.args.options.now c.args.form (g.W.Sink.written c.args.output.now) (g.W.Sink.written c.args.output.now))
    c.from_residual-in_err-verdict.ensures.1
    (inr (
      tt,
      lived_files (g.F.Files.bytes c.args.files.now) (g.F.Files.bytes c.read_placed.new.files) (g.F.Files.bytes c.read_program.new.files) c.args.options.now c.args.form c.in_ok-shop.shop _ _ (Err fault) (λ a. Unit {0}) _
          c.in_ok-shop.ensures.said c.read_placed.ensures.keeps c.read_program.ensures.named
          (all_known _ _ (λ a. tt))
          (c.in_err-verdict.ensures.judges c.in_ok-program.ensures.readings.readings c.in_ok-program.ensures.readings.are)
          (λ a b p none. (None, (none, keeps_same _))),
    ))

pub returns-in_err-events-clause-comes : goal.returns-in_err-events-clause-comes
returns-in_err-events-clause-comes g c =
    turned _ (answers.Input c.in_err-events.field-0.0)
    (OwnLiveResult (g.F.Files.bytes c.args.files.now) c.args.options.now c.args.form (g.W.Sink.written c.args.output.now) (g.W.Sink.written c.args.output.now))
    c.from_residual-in_err-events.ensures.1 (inl (tt, keeps_same _))

pub returns-clause-comes : goal.returns-clause-comes
returns-clause-comes g c =
    lived_files (g.F.Files.bytes c.args.files.now) (g.F.Files.bytes c.read_placed.new.files) (g.F.Files.bytes c.read_program.new.files) c.args.options.now c.args.form c.in_ok-shop.shop (g.W.Sink.written c.args.output.now) (g.W.Sink.written c.run_live.new.output) (Ok tt) _ _
    c.in_ok-shop.ensures.said c.read_placed.ensures.keeps c.read_program.ensures.named c.in_ok-program.ensures.text (c.in_ok-verdict.ensures.judges c.in_ok-program.ensures.readings.readings c.in_ok-program.ensures.readings.are)
    (λ a b is_text judges.
    from_input (live_request c.args.options.now c.args.form) (setup_of c.in_ok-shop.shop.machine c.in_ok-shop.shop.tools) a b c.args.options.now.delete _ _ _ _ _ (Ok tt) (c.in_ok-events.ensures.bytes ∙ c.judge_file.ensures.keeps None ∙ c.read_program.ensures.keeps refl None ∙ c.read_placed.ensures.keeps None)
    (c.in_ok-run_live.ensures.lives (setup_of c.in_ok-shop.shop.machine c.in_ok-shop.shop.tools) a b
    (verdict_on (setup_of c.in_ok-shop.shop.machine c.in_ok-shop.shop.tools) a b (text_in c.in_ok-program.program) c.in_ok-verdict.verdict
    is_text c.in_ok-program.ensures.readings judges)))

pub returns-in_err-run_live-clause-comes : goal.returns-in_err-run_live-clause-comes
returns-in_err-run_live-clause-comes g c =
    let fault = c.in_err-run_live.field-0.0 in
    turned _ fault (OwnLiveResult (g.F.Files.bytes c.args.files.now) c.args.options.now c.args.form (g.W.Sink.written c.args.output.now) (g.W.Sink.written c.run_live.new.output))
    c.from_residual-in_err-run_live.ensures.1
    (inr (
      or_of_reading OfLiving fault c.in_err-run_live.ensures.faults,
      lived_files (g.F.Files.bytes c.args.files.now) (g.F.Files.bytes c.read_placed.new.files) (g.F.Files.bytes c.read_program.new.files) c.args.options.now c.args.form c.in_ok-shop.shop (g.W.Sink.written c.args.output.now) (g.W.Sink.written c.run_live.new.output) (Err fault) _ _
          c.in_ok-shop.ensures.said c.read_placed.ensures.keeps c.read_program.ensures.named c.in_ok-program.ensures.text (c.in_ok-verdict.ensures.judges c.in_ok-program.ensures.readings.readings c.in_ok-program.ensures.readings.are)
          (λ a b is_text judges.
          from_input (live_request c.args.options.now c.args.form) (setup_of c.in_ok-shop.shop.machine c.in_ok-shop.shop.tools) a b c.args.options.now.delete _ _ _ _ _ (Err fault) (c.in_ok-events.ensures.bytes ∙ c.judge_file.ensures.keeps None ∙ c.read_program.ensures.keeps refl None ∙ c.read_placed.ensures.keeps None)
          (c.in_err-run_live.ensures.lives (setup_of c.in_ok-shop.shop.machine c.in_ok-shop.shop.tools) a b
          (verdict_on (setup_of c.in_ok-shop.shop.machine c.in_ok-shop.shop.tools) a b (text_in c.in_ok-program.program) c.in_ok-verdict.verdict
          is_text c.in_ok-program.ensures.readings judges))),
    ))

pub returns-in_err-shop-clause-unread : goal.returns-in_err-shop-clause-unread
returns-in_err-shop-clause-unread g c =
    unread_told (SourceFails g.F.R.Source.remaining g.F.R.Source.failures) (g.F.Files.bytes c.args.files.now) (own_live_inputs c.args.options.now) _ _ _ c.in_err-shop.field-0.0 c.from_residual.ensures.1
    (reported_before (SourceFails g.F.R.Source.remaining g.F.R.Source.failures) (g.F.Files.bytes c.args.files.now) (shop_inputs (Some c.args.options.now.machine.now) (Some c.args.options.now.tools.now))
    (program_input (Some c.args.options.now.program.now) ∷ certificate_input c.args.options.now.certificate.now
    ∷ record { kind = OfSource; name = None } ∷ []) _ _ (unread_by c.in_err-shop.field-0.0) c.in_err-shop.ensures.unread)

pub returns-in_err-program-clause-unread : goal.returns-in_err-program-clause-unread
returns-in_err-program-clause-unread g c =
    unread_told (SourceFails g.F.R.Source.remaining g.F.R.Source.failures) (g.F.Files.bytes c.args.files.now) (own_live_inputs c.args.options.now) _ _ _ (answers.Read c.in_err-program.field-0.0) c.from_residual-in_err-program.ensures.1
    (told_behind (SourceFails g.F.R.Source.remaining g.F.R.Source.failures) (g.F.Files.bytes c.args.files.now) (g.F.Files.bytes c.read_placed.new.files) (shop_inputs (Some c.args.options.now.machine.now) (Some c.args.options.now.tools.now)) OfProgram (Some c.args.options.now.program.now)
    (certificate_input c.args.options.now.certificate.now ∷ record { kind = OfSource; name = None } ∷ []) _ _ _
    (program_unread c.in_err-program.field-0.0) (placed_read (g.F.Files.bytes c.args.files.now) (Some c.args.options.now.machine.now)
    (Some c.args.options.now.tools.now) c.args.options.now.changes c.in_ok-shop.shop c.in_ok-shop.ensures.said)
    (c.read_placed.ensures.keeps (Some c.args.options.now.program.now)) c.in_ok-shop.ensures.unread c.in_err-program.ensures.unread)

pub returns-in_err-verdict-clause-unread : goal.returns-in_err-verdict-clause-unread
returns-in_err-verdict-clause-unread g c =
    unread_told (SourceFails g.F.R.Source.remaining g.F.R.Source.failures) (g.F.Files.bytes c.args.files.now) (own_live_inputs c.args.options.now) _ _ _ (answers.Certificate c.in_err-verdict.field-0.0) c.from_residual-in_err-verdict.ensures.1
    (told_behind (SourceFails g.F.R.Source.remaining g.F.R.Source.failures) (g.F.Files.bytes c.args.files.now) (g.F.Files.bytes c.read_program.new.files) ((shop_inputs (Some c.args.options.now.machine.now) (Some c.args.options.now.tools.now)) ++ program_input (Some c.args.options.now.program.now) ∷ []) OfCertificate (Some c.args.options.now.certificate.now) (record { kind = OfSource; name = None } ∷ []) _ _ _
    (certificate_unread c.in_err-verdict.field-0.0) (all_read (g.F.Files.bytes c.args.files.now) (shop_inputs (Some c.args.options.now.machine.now) (Some c.args.options.now.tools.now))
    (program_input (Some c.args.options.now.program.now) ∷ [])
    (placed_read (g.F.Files.bytes c.args.files.now) (Some c.args.options.now.machine.now)
    (Some c.args.options.now.tools.now) c.args.options.now.changes c.in_ok-shop.shop c.in_ok-shop.ensures.said) (
      is_read program_of _ ((g.F.Files.bytes c.args.files.now) (Some c.args.options.now.program.now))
          ((g.F.Files.bytes c.read_placed.new.files) (Some c.args.options.now.program.now))
          (c.read_placed.ensures.keeps (Some c.args.options.now.program.now)) c.in_ok-program.ensures.text,
      tt,
    ))
    (c.read_program.ensures.named c.args.options.now.certificate.now ∙ c.read_placed.ensures.keeps (Some c.args.options.now.certificate.now))
    (c.in_ok-program.ensures.unread ∙ c.in_ok-shop.ensures.unread) c.in_err-verdict.ensures.unread)

pub returns-in_err-events-clause-unread : goal.returns-in_err-events-clause-unread
returns-in_err-events-clause-unread g c =
    unread_told (SourceFails g.F.R.Source.remaining g.F.R.Source.failures) (g.F.Files.bytes c.args.files.now) (own_live_inputs c.args.options.now) _ _ _ (answers.Input c.in_err-events.field-0.0) c.from_residual-in_err-events.ensures.1
    (unopened (SourceFails g.F.R.Source.remaining g.F.R.Source.failures) (g.F.Files.bytes c.args.files.now) ((shop_inputs (Some c.args.options.now.machine.now) (Some c.args.options.now.tools.now)) ++ program_input (Some c.args.options.now.program.now) ∷ certificate_input c.args.options.now.certificate.now ∷ []) OfSource None [] _ _ _
    c.in_err-events.field-0.0 c.in_err-events.ensures.fault
    (all_read (g.F.Files.bytes c.args.files.now)
    ((shop_inputs (Some c.args.options.now.machine.now) (Some c.args.options.now.tools.now)) ++ program_input (Some c.args.options.now.program.now) ∷ []) (certificate_input c.args.options.now.certificate.now ∷ [])
    (all_read (g.F.Files.bytes c.args.files.now) (shop_inputs (Some c.args.options.now.machine.now) (Some c.args.options.now.tools.now))
    (program_input (Some c.args.options.now.program.now) ∷ [])
    (placed_read (g.F.Files.bytes c.args.files.now) (Some c.args.options.now.machine.now)
    (Some c.args.options.now.tools.now) c.args.options.now.changes c.in_ok-shop.shop c.in_ok-shop.ensures.said) (
      is_read program_of _ ((g.F.Files.bytes c.args.files.now) (Some c.args.options.now.program.now))
          ((g.F.Files.bytes c.read_placed.new.files) (Some c.args.options.now.program.now))
          (c.read_placed.ensures.keeps (Some c.args.options.now.program.now)) c.in_ok-program.ensures.text,
      tt,
    )) (
      judged_is_read _ _ c.in_ok-verdict.verdict ((g.F.Files.bytes c.args.files.now) (Some c.args.options.now.certificate.now))
          ((g.F.Files.bytes c.read_program.new.files) (Some c.args.options.now.certificate.now))
          (c.read_program.ensures.named c.args.options.now.certificate.now ∙ c.read_placed.ensures.keeps (Some c.args.options.now.certificate.now))
          (c.in_ok-verdict.ensures.judges c.in_ok-program.ensures.readings.readings c.in_ok-program.ensures.readings.are),
      tt,
    ))
    (c.in_ok-verdict.ensures.unread ∙ c.in_ok-program.ensures.unread ∙ c.in_ok-shop.ensures.unread) c.in_err-events.ensures.counts)

pub returns-in_err-run_live-clause-unread : goal.returns-in_err-run_live-clause-unread
returns-in_err-run_live-clause-unread g c =
    unread_told (SourceFails g.F.R.Source.remaining g.F.R.Source.failures) (g.F.Files.bytes c.args.files.now) (own_live_inputs c.args.options.now) _ _ _ c.in_err-run_live.field-0.0 c.from_residual-in_err-run_live.ensures.1
    (live_told (SourceFails g.F.R.Source.remaining g.F.R.Source.failures) (g.F.Files.bytes c.args.files.now) ((shop_inputs (Some c.args.options.now.machine.now) (Some c.args.options.now.tools.now)) ++ program_input (Some c.args.options.now.program.now) ∷ certificate_input c.args.options.now.certificate.now ∷ []) _ _ c.in_err-run_live.field-0.0
    c.in_err-run_live.ensures.faults (all_read (g.F.Files.bytes c.args.files.now)
    ((shop_inputs (Some c.args.options.now.machine.now) (Some c.args.options.now.tools.now)) ++ program_input (Some c.args.options.now.program.now) ∷ []) (certificate_input c.args.options.now.certificate.now ∷ [])
    (all_read (g.F.Files.bytes c.args.files.now) (shop_inputs (Some c.args.options.now.machine.now) (Some c.args.options.now.tools.now))
    (program_input (Some c.args.options.now.program.now) ∷ [])
    (placed_read (g.F.Files.bytes c.args.files.now) (Some c.args.options.now.machine.now)
    (Some c.args.options.now.tools.now) c.args.options.now.changes c.in_ok-shop.shop c.in_ok-shop.ensures.said) (
      is_read program_of _ ((g.F.Files.bytes c.args.files.now) (Some c.args.options.now.program.now))
          ((g.F.Files.bytes c.read_placed.new.files) (Some c.args.options.now.program.now))
          (c.read_placed.ensures.keeps (Some c.args.options.now.program.now)) c.in_ok-program.ensures.text,
      tt,
    )) (
      judged_is_read _ _ c.in_ok-verdict.verdict ((g.F.Files.bytes c.args.files.now) (Some c.args.options.now.certificate.now))
          ((g.F.Files.bytes c.read_program.new.files) (Some c.args.options.now.certificate.now))
          (c.read_program.ensures.named c.args.options.now.certificate.now ∙ c.read_placed.ensures.keeps (Some c.args.options.now.certificate.now))
          (c.in_ok-verdict.ensures.judges c.in_ok-program.ensures.readings.readings c.in_ok-program.ensures.readings.are),
      tt,
    ))
    (c.in_ok-events.ensures.counts ∙ c.in_ok-verdict.ensures.unread ∙ c.in_ok-program.ensures.unread ∙ c.in_ok-shop.ensures.unread)
    (λ is. record {
      opened = c.in_ok-events.events;
      left = c.run_live.new.source;
      gave = (c.in_ok-events.ensures.bytes ∙ c.judge_file.ensures.keeps None ∙ c.read_program.ensures.keeps refl None ∙ c.read_placed.ensures.keeps None);
      fails = c.in_err-run_live.ensures.source (ap Err is);
    }))
