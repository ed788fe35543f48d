use Rattle.std.proofs.Common.{[], ◌∷◌, Ok, Err, ap, ◌∙◌, inl, inr}
use Rattle.ngc_simulator.proofs.FileLaws.{listed}
use Rattle.ngc_report.proofs.Converted.{turned}
use Rattle.ngc_inputs.proofs.JobLaws.{keeps_same}
use Rattle.ngc_simulator.specs.Answers.{program_input, OwnListResult, own_list_inputs}
use Rattle.ngc_inputs.specs.Unread.{OfProgram, SourceFails, shop_inputs, unread_by}
use Rattle.ngc_inputs.specs.declared.fault.AnswerFault.TheVariants as answers
use Rattle.ngc_inputs.proofs.UnreadLaws.{list_told, placed_read, reported_before, unopened, unread_told}
use Rattle.std.specs.Prelude.{option_map}
use Rattle.ngc_simulator.proofs.lister.list_own.Goals as goal

pub returns-in_err-shop-clause-comes : goal.returns-in_err-shop-clause-comes
returns-in_err-shop-clause-comes g c =
    turned _ c.in_err-shop.field-0.0
    (OwnListResult (g.F.Files.bytes c.args.files.now) c.args.options.now (g.W.Sink.written c.args.output.now) (g.W.Sink.written c.args.output.now))
    c.from_residual.ensures.1 (inl (c.in_err-shop.ensures.said, keeps_same _))

pub returns-in_err-source-clause-comes : goal.returns-in_err-source-clause-comes
returns-in_err-source-clause-comes g c =
    turned _ (answers.Input c.in_err-source.field-0.0)
    (OwnListResult (g.F.Files.bytes c.args.files.now) c.args.options.now (g.W.Sink.written c.args.output.now) (g.W.Sink.written c.args.output.now))
    c.from_residual-in_err-source.ensures.1 (inl (tt, keeps_same _))

pub returns-clause-comes : goal.returns-clause-comes
returns-clause-comes g c =
    listed (g.F.Files.bytes c.args.files.now) (g.F.Files.bytes c.read_placed.new.files) c.args.options.now c.in_ok-shop.shop _
    (g.W.Sink.written c.args.output.now) (g.W.Sink.written c.list.new.output) (Ok tt)
    c.in_ok-shop.ensures.said c.read_placed.ensures.keeps c.in_ok-source.ensures.bytes c.in_ok-list.ensures.lists

pub returns-in_err-list-clause-comes : goal.returns-in_err-list-clause-comes
returns-in_err-list-clause-comes g c =
    turned _ c.in_err-list.field-0.0
    (OwnListResult (g.F.Files.bytes c.args.files.now) c.args.options.now (g.W.Sink.written c.args.output.now) (g.W.Sink.written c.list.new.output))
    c.from_residual-in_err-list.ensures.1
    (inr (
      c.in_err-list.ensures.faults,
      listed (g.F.Files.bytes c.args.files.now) (g.F.Files.bytes c.read_placed.new.files) c.args.options.now c.in_ok-shop.shop _
          (g.W.Sink.written c.args.output.now) (g.W.Sink.written c.list.new.output) (Err c.in_err-list.field-0.0)
          c.in_ok-shop.ensures.said c.read_placed.ensures.keeps c.in_ok-source.ensures.bytes c.in_err-list.ensures.lists,
    ))

pub returns-in_err-shop-clause-unread : goal.returns-in_err-shop-clause-unread
returns-in_err-shop-clause-unread g c =
    unread_told (SourceFails g.F.R.Source.remaining g.F.R.Source.failures) (g.F.Files.bytes c.args.files.now)
    (own_list_inputs c.args.options.now) _ _ _ c.in_err-shop.field-0.0 c.from_residual.ensures.1
    (reported_before (SourceFails g.F.R.Source.remaining g.F.R.Source.failures) (g.F.Files.bytes c.args.files.now)
    (shop_inputs (option_map (λ n. n.now) c.args.options.now.machine) (option_map (λ n. n.now) c.args.options.now.tools))
    (program_input (option_map (λ n. n.now) c.args.options.now.program) ∷ []) _ _ (unread_by c.in_err-shop.field-0.0) c.in_err-shop.ensures.unread)

pub returns-in_err-source-clause-unread : goal.returns-in_err-source-clause-unread
returns-in_err-source-clause-unread g c =
    unread_told (SourceFails g.F.R.Source.remaining g.F.R.Source.failures) (g.F.Files.bytes c.args.files.now) (own_list_inputs c.args.options.now) _ _ _
    (answers.Input c.in_err-source.field-0.0) c.from_residual-in_err-source.ensures.1
    (unopened (SourceFails g.F.R.Source.remaining g.F.R.Source.failures) (g.F.Files.bytes c.args.files.now)
    (shop_inputs (option_map (λ n. n.now) c.args.options.now.machine) (option_map (λ n. n.now) c.args.options.now.tools)) OfProgram
    (option_map (λ n. n.now) c.args.options.now.program) [] _ _ _ c.in_err-source.field-0.0 c.in_err-source.ensures.fault
    (placed_read (g.F.Files.bytes c.args.files.now) (option_map (λ n. n.now) c.args.options.now.machine)
    (option_map (λ n. n.now) c.args.options.now.tools) c.args.options.now.changes c.in_ok-shop.shop c.in_ok-shop.ensures.said) c.in_ok-shop.ensures.unread
    c.in_err-source.ensures.counts)

pub returns-in_err-list-clause-unread : goal.returns-in_err-list-clause-unread
returns-in_err-list-clause-unread g c =
    unread_told (SourceFails g.F.R.Source.remaining g.F.R.Source.failures) (g.F.Files.bytes c.args.files.now)
    (own_list_inputs c.args.options.now) _ _ _ c.in_err-list.field-0.0 c.from_residual-in_err-list.ensures.1
    (list_told (SourceFails g.F.R.Source.remaining g.F.R.Source.failures) (g.F.Files.bytes c.args.files.now)
    (shop_inputs (option_map (λ n. n.now) c.args.options.now.machine) (option_map (λ n. n.now) c.args.options.now.tools))
    (option_map (λ n. n.now) c.args.options.now.program) _ _ c.in_err-list.field-0.0 c.in_err-list.ensures.faults
    (placed_read (g.F.Files.bytes c.args.files.now) (option_map (λ n. n.now) c.args.options.now.machine)
    (option_map (λ n. n.now) c.args.options.now.tools) c.args.options.now.changes c.in_ok-shop.shop c.in_ok-shop.ensures.said)
    (c.in_ok-source.ensures.counts ∙ c.in_ok-shop.ensures.unread)
    (λ is. record {
      opened = c.in_ok-source.source;
      left = c.list.new.source;
      gave = c.in_ok-source.ensures.bytes ∙ c.read_placed.ensures.keeps (option_map (λ n. n.now) c.args.options.now.program);
      fails = c.in_err-list.ensures.source (ap Err is);
    }))
