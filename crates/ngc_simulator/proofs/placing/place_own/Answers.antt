use Rattle.std.proofs.Common.{ℕ, List, [], ◌∷◌, Option, Some, Ok, Err, ap, inl, inr, subst, ◌∙◌}
use Rattle.std.specs.Prelude.{option_map}
use Rattle.std.specs.Io.KnownBytes.{Keeps}
use Rattle.ngc_report.specs.declared.form.Form.{Form}
use Rattle.ngc_report.proofs.Converted.{turned}
use Rattle.ngc_inputs.proofs.JobLaws.{keeps_same}
use Rattle.ngc_inputs.proofs.UnreadLaws.{certify_told, placed_read, reported_before, unopened, unread_told}
use Rattle.ngc_inputs.specs.Unread.{OfProgram, SourceFails, shop_inputs, unread_by}
use Rattle.ngc_inputs.specs.declared.fault.AnswerFault.TheVariants as answers
use Rattle.ngc_simulator.proofs.PlaceLaws.{placed_files, requested_placing}
use Rattle.ngc_simulator.specs.Answers.{OwnPlaceResult, PlaceWrittenOn, own_place_inputs, program_input}
use Rattle.ngc_simulator.specs.Mistaken.{ReportsPlacedRefusal}
use Rattle.ngc_simulator.proofs.placing.place_own.Goals as goal

pub returns-in_err-shop-clause-comes : goal.returns-in_err-shop-clause-comes
returns-in_err-shop-clause-comes g c =
    turned _ c.in_err-shop.field-0.0
    (OwnPlaceResult (g.F.Files.bytes c.args.files.now) c.args.options.now c.args.system (g.W.Sink.written c.args.output.now)
    (g.W.Sink.written c.read_placed_reporting.new.output)) c.from_residual.ensures.1
    (inl (subst (λ (f : Form). ReportsPlacedRefusal f (g.F.Files.bytes c.args.files.now) (Some c.args.options.now.machine.now) (Some c.args.options.now.tools.now) c.args.options.now.changes
    (g.W.Sink.written c.args.output.now) (g.W.Sink.written c.read_placed_reporting.new.output) c.in_err-shop.field-0.0)
    (ap (λ r. r.form) c.request_of-request.ensures) c.in_err-shop.ensures.said))

pub returns-in_err-source-clause-comes : goal.returns-in_err-source-clause-comes
returns-in_err-source-clause-comes g c =
    turned _ (answers.Input c.in_err-source.field-0.0)
    (OwnPlaceResult (g.F.Files.bytes c.args.files.now) c.args.options.now c.args.system (g.W.Sink.written c.args.output.now)
    (g.W.Sink.written c.read_placed_reporting.new.output)) c.from_residual-in_err-source.ensures.1
    (inl (tt, inl (subst (λ (o : Option (List ℕ)). Keeps o (g.W.Sink.written c.read_placed_reporting.new.output)) c.in_ok-shop.ensures.said.1 (keeps_same _))))

pub returns-clause-comes : goal.returns-clause-comes
returns-clause-comes g c =
    let new = g.W.Sink.written c.place_program.new.output in
    subst (λ (o : Option (List ℕ)). PlaceWrittenOn (g.F.Files.bytes c.args.files.now) c.args.options.now c.args.system o new (Ok tt))
    c.in_ok-shop.ensures.said.1
    (placed_files (g.F.Files.bytes c.args.files.now) (g.F.Files.bytes c.read_placed_reporting.new.files) c.args.options.now c.args.system c.in_ok-shop.shop _
    (g.W.Sink.written c.read_placed_reporting.new.output) new (Ok tt)
    c.in_ok-shop.ensures.said.0 c.read_placed_reporting.ensures.keeps c.in_ok-source.ensures.bytes
    (requested_placing c.args.options.now c.args.system c.in_ok-shop.shop c.request_of-request.result _ _ _ (Ok tt) c.request_of-request.ensures
    c.in_ok-place_program.ensures.writes))

pub returns-in_err-place_program-clause-comes : goal.returns-in_err-place_program-clause-comes
returns-in_err-place_program-clause-comes g c =
    let fault = c.in_err-place_program.field-0.0 in
    let new = g.W.Sink.written c.place_program.new.output in
    turned _ fault
    (OwnPlaceResult (g.F.Files.bytes c.args.files.now) c.args.options.now c.args.system (g.W.Sink.written c.args.output.now) new)
    c.from_residual-in_err-place_program.ensures.1
    (subst (λ (o : Option (List ℕ)). OwnPlaceResult (g.F.Files.bytes c.args.files.now) c.args.options.now c.args.system o new (Err fault))
    c.in_ok-shop.ensures.said.1
    (inr (
      c.in_err-place_program.ensures.faults,
      placed_files (g.F.Files.bytes c.args.files.now) (g.F.Files.bytes c.read_placed_reporting.new.files) c.args.options.now c.args.system c.in_ok-shop.shop _
          (g.W.Sink.written c.read_placed_reporting.new.output) new (Err fault)
          c.in_ok-shop.ensures.said.0 c.read_placed_reporting.ensures.keeps c.in_ok-source.ensures.bytes
          (requested_placing c.args.options.now c.args.system c.in_ok-shop.shop c.request_of-request.result _ _ _ (Err fault) c.request_of-request.ensures
          c.in_err-place_program.ensures.writes),
    )))

pub returns-in_err-shop-clause-unread : goal.returns-in_err-shop-clause-unread
returns-in_err-shop-clause-unread g c =
    unread_told (SourceFails g.F.R.Source.remaining g.F.R.Source.failures) (g.F.Files.bytes c.args.files.now)
    (own_place_inputs c.args.options.now) _ _ _ c.in_err-shop.field-0.0 c.from_residual.ensures.1
    (reported_before (SourceFails g.F.R.Source.remaining g.F.R.Source.failures) (g.F.Files.bytes c.args.files.now)
    (shop_inputs (Some c.args.options.now.machine.now) (Some c.args.options.now.tools.now))
    (program_input (option_map (λ n. n.now) c.args.options.now.program) ∷ []) _ _ (unread_by c.in_err-shop.field-0.0) c.in_err-shop.ensures.unread)

pub returns-in_err-source-clause-unread : goal.returns-in_err-source-clause-unread
returns-in_err-source-clause-unread g c =
    unread_told (SourceFails g.F.R.Source.remaining g.F.R.Source.failures) (g.F.Files.bytes c.args.files.now)
    (own_place_inputs c.args.options.now) _ _ _
    (answers.Input c.in_err-source.field-0.0) c.from_residual-in_err-source.ensures.1
    (unopened (SourceFails g.F.R.Source.remaining g.F.R.Source.failures) (g.F.Files.bytes c.args.files.now)
    (shop_inputs (Some c.args.options.now.machine.now) (Some c.args.options.now.tools.now)) OfProgram
    (option_map (λ n. n.now) c.args.options.now.program) [] _ _ _ c.in_err-source.field-0.0 c.in_err-source.ensures.fault
    (placed_read (g.F.Files.bytes c.args.files.now) (Some c.args.options.now.machine.now)
    (Some c.args.options.now.tools.now) c.args.options.now.changes c.in_ok-shop.shop c.in_ok-shop.ensures.said.0) c.in_ok-shop.ensures.unread c.in_err-source.ensures.counts)

pub returns-in_err-place_program-clause-unread : goal.returns-in_err-place_program-clause-unread
returns-in_err-place_program-clause-unread g c =
    unread_told (SourceFails g.F.R.Source.remaining g.F.R.Source.failures) (g.F.Files.bytes c.args.files.now)
    (own_place_inputs c.args.options.now) _ _ _ c.in_err-place_program.field-0.0 c.from_residual-in_err-place_program.ensures.1
    (certify_told (SourceFails g.F.R.Source.remaining g.F.R.Source.failures) (g.F.Files.bytes c.args.files.now)
    (shop_inputs (Some c.args.options.now.machine.now) (Some c.args.options.now.tools.now))
    (option_map (λ n. n.now) c.args.options.now.program) _ _ c.in_err-place_program.field-0.0 c.in_err-place_program.ensures.faults
    (placed_read (g.F.Files.bytes c.args.files.now) (Some c.args.options.now.machine.now)
    (Some c.args.options.now.tools.now) c.args.options.now.changes c.in_ok-shop.shop c.in_ok-shop.ensures.said.0)
    (c.in_ok-source.ensures.counts ∙ c.in_ok-shop.ensures.unread)
    (λ is. record {
      opened = c.in_ok-source.source;
      left = c.place_program.new.source;
      gave = c.in_ok-source.ensures.bytes ∙ c.read_placed_reporting.ensures.keeps (option_map (λ n. n.now) c.args.options.now.program);
      fails = c.in_err-place_program.ensures.source (ap Err is);
    }))
