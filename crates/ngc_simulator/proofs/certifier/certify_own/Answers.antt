use Rattle.std.proofs.Common.{[], ◌∷◌, Some, Ok, Err, ap, ◌∙◌, inl, inr}
use Rattle.ngc_simulator.proofs.FileLaws.{certified_files}
use Rattle.ngc_report.proofs.Converted.{turned}
use Rattle.ngc_inputs.proofs.JobLaws.{keeps_same}
use Rattle.ngc_simulator.specs.Answers.{program_input, OwnCertifyResult, own_certify_inputs}
use Rattle.ngc_inputs.specs.Unread.{OfProgram, SourceFails, shop_inputs, unread_by}
use Rattle.ngc_inputs.specs.declared.fault.AnswerFault.TheVariants as answers
use Rattle.ngc_inputs.proofs.UnreadLaws.{certify_told, placed_read, reported_before, unopened, unread_told}
use Rattle.std.specs.Prelude.{option_map}
use Rattle.ngc_simulator.proofs.certifier.certify_own.Goals as goal

pub returns-in_err-shop-clause-comes : goal.returns-in_err-shop-clause-comes
returns-in_err-shop-clause-comes g c =
    turned _ c.in_err-shop.field-0.0
    (OwnCertifyResult (g.F.Files.bytes c.args.files.now) c.args.options.now (g.W.Sink.written c.args.output.now) (g.W.Sink.written c.args.output.now))
    c.from_residual.ensures.1 (inl (c.in_err-shop.ensures.said, keeps_same _))

pub returns-in_err-source-clause-comes : goal.returns-in_err-source-clause-comes
returns-in_err-source-clause-comes g c =
    turned _ (answers.Input c.in_err-source.field-0.0)
    (OwnCertifyResult (g.F.Files.bytes c.args.files.now) c.args.options.now (g.W.Sink.written c.args.output.now) (g.W.Sink.written c.args.output.now))
    c.from_residual-in_err-source.ensures.1 (inl (tt, keeps_same _))

pub returns-clause-comes : goal.returns-clause-comes
returns-clause-comes g c =
    certified_files (g.F.Files.bytes c.args.files.now) (g.F.Files.bytes c.read_placed.new.files) c.args.options.now c.in_ok-shop.shop _
    (g.W.Sink.written c.args.output.now) (g.W.Sink.written c.certify.new.output) (Ok tt)
    c.in_ok-shop.ensures.said c.read_placed.ensures.keeps c.in_ok-source.ensures.bytes c.in_ok-certify.ensures.certifies

pub returns-in_err-certify-clause-comes : goal.returns-in_err-certify-clause-comes
returns-in_err-certify-clause-comes g c =
    turned _ c.in_err-certify.field-0.0
    (OwnCertifyResult (g.F.Files.bytes c.args.files.now) c.args.options.now (g.W.Sink.written c.args.output.now) (g.W.Sink.written c.certify.new.output))
    c.from_residual-in_err-certify.ensures.1
    (inr (
      c.in_err-certify.ensures.faults,
      certified_files (g.F.Files.bytes c.args.files.now) (g.F.Files.bytes c.read_placed.new.files) c.args.options.now c.in_ok-shop.shop _
          (g.W.Sink.written c.args.output.now) (g.W.Sink.written c.certify.new.output) (Err c.in_err-certify.field-0.0)
          c.in_ok-shop.ensures.said c.read_placed.ensures.keeps c.in_ok-source.ensures.bytes c.in_err-certify.ensures.certifies,
    ))

pub returns-in_err-shop-clause-unread : goal.returns-in_err-shop-clause-unread
returns-in_err-shop-clause-unread g c =
    unread_told (SourceFails g.F.R.Source.remaining g.F.R.Source.failures) (g.F.Files.bytes c.args.files.now)
    (own_certify_inputs c.args.options.now) _ _ _ c.in_err-shop.field-0.0 c.from_residual.ensures.1
    (reported_before (SourceFails g.F.R.Source.remaining g.F.R.Source.failures) (g.F.Files.bytes c.args.files.now)
    (shop_inputs (Some c.args.options.now.machine.now) (Some c.args.options.now.tools.now))
    (program_input (option_map (λ n. n.now) c.args.options.now.program) ∷ []) _ _ (unread_by c.in_err-shop.field-0.0) c.in_err-shop.ensures.unread)

pub returns-in_err-source-clause-unread : goal.returns-in_err-source-clause-unread
returns-in_err-source-clause-unread g c =
    unread_told (SourceFails g.F.R.Source.remaining g.F.R.Source.failures) (g.F.Files.bytes c.args.files.now) (own_certify_inputs c.args.options.now) _ _ _
    (answers.Input c.in_err-source.field-0.0) c.from_residual-in_err-source.ensures.1
    (unopened (SourceFails g.F.R.Source.remaining g.F.R.Source.failures) (g.F.Files.bytes c.args.files.now)
    (shop_inputs (Some c.args.options.now.machine.now) (Some c.args.options.now.tools.now)) OfProgram
    (option_map (λ n. n.now) c.args.options.now.program) [] _ _ _ c.in_err-source.field-0.0 c.in_err-source.ensures.fault
    (placed_read (g.F.Files.bytes c.args.files.now) (Some c.args.options.now.machine.now)
    (Some c.args.options.now.tools.now) c.args.options.now.changes c.in_ok-shop.shop c.in_ok-shop.ensures.said) c.in_ok-shop.ensures.unread c.in_err-source.ensures.counts)

pub returns-in_err-certify-clause-unread : goal.returns-in_err-certify-clause-unread
returns-in_err-certify-clause-unread g c =
    unread_told (SourceFails g.F.R.Source.remaining g.F.R.Source.failures) (g.F.Files.bytes c.args.files.now)
    (own_certify_inputs c.args.options.now) _ _ _ c.in_err-certify.field-0.0 c.from_residual-in_err-certify.ensures.1
    (certify_told (SourceFails g.F.R.Source.remaining g.F.R.Source.failures) (g.F.Files.bytes c.args.files.now)
    (shop_inputs (Some c.args.options.now.machine.now) (Some c.args.options.now.tools.now))
    (option_map (λ n. n.now) c.args.options.now.program) _ _ c.in_err-certify.field-0.0 c.in_err-certify.ensures.faults
    (placed_read (g.F.Files.bytes c.args.files.now) (Some c.args.options.now.machine.now)
    (Some c.args.options.now.tools.now) c.args.options.now.changes c.in_ok-shop.shop c.in_ok-shop.ensures.said) (c.in_ok-source.ensures.counts ∙ c.in_ok-shop.ensures.unread)
    (λ is. record {
      opened = c.in_ok-source.source;
      left = c.certify.new.source;
      gave = c.in_ok-source.ensures.bytes ∙ c.read_placed.ensures.keeps (option_map (λ n. n.now) c.args.options.now.program);
      fails = c.in_err-certify.ensures.source (ap Err is);
    }))
