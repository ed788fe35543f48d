use Rattle.std.proofs.Common.{ℕ, List, [], ◌∷◌, Option, Some, Ok, Err, ◌∙◌, inl, inr, subst}
use Rattle.std.specs.Prelude.{option_map}
use Rattle.ngc_canonical.specs.Interpreter.{setup_of}
use Rattle.ngc_inputs.specs.Faults.{OfMapping}
use Rattle.ngc_inputs.specs.Unread.{OfProgram, SourceFails, program_unread, shop_inputs, unread_by}
use Rattle.ngc_inputs.specs.declared.fault.AnswerFault.TheVariants as answers
use Rattle.ngc_inputs.proofs.JobLaws.{keeps_same}
use Rattle.ngc_inputs.proofs.UnreadLaws.{map_told, placed_read, reported_before, told_behind, unread_told}
use Rattle.ngc_report.proofs.Converted.{turned}
use Rattle.ngc_simulator.specs.Answers.{OwnMapResult, own_map_inputs, program_input}
use Rattle.ngc_simulator.specs.Mapping.{MapsProgram}
use Rattle.ngc_simulator.proofs.FileLaws.{or_of_reading}
use Rattle.ngc_simulator.proofs.MapLaws.{map_of_files}
use Rattle.ngc_simulator.proofs.mapping.map_own.Goals as goal

pub returns-in_err-shop-clause-comes : goal.returns-in_err-shop-clause-comes
returns-in_err-shop-clause-comes g c =
    turned _ c.in_err-shop.field-0.0
    (OwnMapResult (g.F.Files.bytes c.args.files.now) c.args.options.now (g.W.Sink.written c.args.output.now)
    (g.W.Sink.written c.args.output.now)) c.from_residual.ensures.1 (inl (c.in_err-shop.ensures.said, keeps_same _))

pub returns-in_err-program-clause-comes : goal.returns-in_err-program-clause-comes
returns-in_err-program-clause-comes g c =
    let fault = answers.Read c.in_err-program.field-0.0 in
    turned _ fault (OwnMapResult (g.F.Files.bytes c.args.files.now) c.args.options.now (g.W.Sink.written c.args.output.now)
    (g.W.Sink.written c.args.output.now)) c.from_residual-in_err-program.ensures.1
    (inr (
      tt,
      map_of_files (g.F.Files.bytes c.args.files.now) (g.F.Files.bytes c.read_placed.new.files) c.args.options.now c.in_ok-shop.shop _ _ (Err fault) _
          c.in_ok-shop.ensures.figures c.in_ok-shop.ensures.said c.read_placed.ensures.keeps c.in_err-program.ensures.text
          (λ a fault_is. (fault_is, keeps_same _)),
    ))

pub returns-clause-comes : goal.returns-clause-comes
returns-clause-comes g c =
    map_of_files (g.F.Files.bytes c.args.files.now) (g.F.Files.bytes c.read_placed.new.files) c.args.options.now c.in_ok-shop.shop
    (g.W.Sink.written c.args.output.now) (g.W.Sink.written c.map_program.new.output) (Ok tt) _
    c.in_ok-shop.ensures.figures c.in_ok-shop.ensures.said c.read_placed.ensures.keeps c.in_ok-program.ensures.text
    (λ a is_text. subst (λ (most : ℕ). MapsProgram most c.in_ok-shop.shop.figures.tools.items (setup_of c.in_ok-shop.shop.machine c.in_ok-shop.shop.tools) a
    c.args.options.now.delete (g.W.Sink.written c.args.output.now) (g.W.Sink.written c.map_program.new.output) (Ok tt)) c.cells_of-most.ensures
    (c.in_ok-map_program.ensures.maps a is_text c.in_ok-program.ensures.readings))

pub returns-in_err-map_program-clause-comes : goal.returns-in_err-map_program-clause-comes
returns-in_err-map_program-clause-comes g c =
    let fault = c.in_err-map_program.field-0.0 in
    turned _ fault (OwnMapResult (g.F.Files.bytes c.args.files.now) c.args.options.now (g.W.Sink.written c.args.output.now)
    (g.W.Sink.written c.map_program.new.output)) c.from_residual-in_err-map_program.ensures.1
    (inr (
      or_of_reading OfMapping fault c.in_err-map_program.ensures.faults,
      map_of_files (g.F.Files.bytes c.args.files.now) (g.F.Files.bytes c.read_placed.new.files) c.args.options.now c.in_ok-shop.shop
          (g.W.Sink.written c.args.output.now) (g.W.Sink.written c.map_program.new.output) (Err fault) _
          c.in_ok-shop.ensures.figures c.in_ok-shop.ensures.said c.read_placed.ensures.keeps c.in_ok-program.ensures.text
          (λ a is_text. subst (λ (most : ℕ). MapsProgram most c.in_ok-shop.shop.figures.tools.items
          (setup_of c.in_ok-shop.shop.machine c.in_ok-shop.shop.tools) a c.args.options.now.delete (g.W.Sink.written c.args.output.now)
          (g.W.Sink.written c.map_program.new.output) (Err fault)) c.cells_of-most.ensures
          (c.in_err-map_program.ensures.maps a is_text c.in_ok-program.ensures.readings)),
    ))

pub returns-in_err-shop-clause-unread : goal.returns-in_err-shop-clause-unread
returns-in_err-shop-clause-unread g c =
    unread_told (SourceFails g.F.R.Source.remaining g.F.R.Source.failures) (g.F.Files.bytes c.args.files.now)
    (own_map_inputs c.args.options.now) _ _ _ c.in_err-shop.field-0.0 c.from_residual.ensures.1
    (reported_before (SourceFails g.F.R.Source.remaining g.F.R.Source.failures) (g.F.Files.bytes c.args.files.now)
    (shop_inputs (Some c.args.options.now.machine.now) (Some c.args.options.now.tools.now))
    (program_input (option_map (λ n. n.now) c.args.options.now.program) ∷ []) _ _
    (unread_by c.in_err-shop.field-0.0) c.in_err-shop.ensures.unread)

pub returns-in_err-program-clause-unread : goal.returns-in_err-program-clause-unread
returns-in_err-program-clause-unread g c =
    unread_told (SourceFails g.F.R.Source.remaining g.F.R.Source.failures) (g.F.Files.bytes c.args.files.now)
    (own_map_inputs c.args.options.now) _ _ _ (answers.Read c.in_err-program.field-0.0) c.from_residual-in_err-program.ensures.1
    (told_behind (SourceFails g.F.R.Source.remaining g.F.R.Source.failures) (g.F.Files.bytes c.args.files.now) (g.F.Files.bytes c.read_placed.new.files)
    (shop_inputs (Some c.args.options.now.machine.now) (Some c.args.options.now.tools.now)) OfProgram (option_map (λ n. n.now) c.args.options.now.program)
    [] _ _ _ (program_unread c.in_err-program.field-0.0)
    (placed_read (g.F.Files.bytes c.args.files.now) (Some c.args.options.now.machine.now)
    (Some c.args.options.now.tools.now) c.args.options.now.changes c.in_ok-shop.shop c.in_ok-shop.ensures.said)
    (c.read_placed.ensures.keeps (option_map (λ n. n.now) c.args.options.now.program)) c.in_ok-shop.ensures.unread c.in_err-program.ensures.unread)

pub returns-in_err-map_program-clause-unread : goal.returns-in_err-map_program-clause-unread
returns-in_err-map_program-clause-unread g c =
    unread_told (SourceFails g.F.R.Source.remaining g.F.R.Source.failures) (g.F.Files.bytes c.args.files.now)
    (own_map_inputs c.args.options.now) _ _ _ c.in_err-map_program.field-0.0 c.from_residual-in_err-map_program.ensures.1
    (map_told (SourceFails g.F.R.Source.remaining g.F.R.Source.failures) (g.F.Files.bytes c.args.files.now)
    (own_map_inputs c.args.options.now) _ _ c.in_err-map_program.field-0.0 c.in_err-map_program.ensures.faults
    (c.in_ok-program.ensures.unread ∙ c.in_ok-shop.ensures.unread))
