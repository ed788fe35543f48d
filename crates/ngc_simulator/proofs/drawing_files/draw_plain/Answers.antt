use Rattle.std.proofs.Common.{◌∷◌, Some, Ok, Err, ap, ◌∙◌, inl, inr, subst}
use Rattle.std.specs.Prelude.{option_map}
use Rattle.ngc_inputs.specs.declared.fault.AnswerFault.TheVariants as answers
use Rattle.ngc_canonical.specs.Interpreter.{setup_of}
use Rattle.ngc_picture_shapes.specs.declared.look.Look.{Look}
use Rattle.ngc_simulator.specs.Drawing.{DrawsProgram}
use Rattle.ngc_simulator.specs.Answers.{OwnDrawResult, certificate_inputs, own_draw_inputs, program_input}
use Rattle.ngc_inputs.specs.Faults.{OfDrawing}
use Rattle.ngc_inputs.specs.Unread.{OfProgram, SourceFails, program_unread, shop_inputs, unread_by}
use Rattle.ngc_simulator.proofs.DrawLaws.{plain_files}
use Rattle.ngc_simulator.proofs.FileLaws.{or_of_reading}
use Rattle.ngc_report.proofs.Converted.{turned}
use Rattle.ngc_inputs.proofs.JobLaws.{keeps_same}
use Rattle.ngc_inputs.proofs.UnreadLaws.{draw_told, placed_read, reported_before, told_behind, unread_told}
use Rattle.ngc_simulator.proofs.drawing_files.draw_plain.Goals as goal

pub returns-in_err-shop-clause-comes : goal.returns-in_err-shop-clause-comes
returns-in_err-shop-clause-comes g c =
    turned _ c.in_err-shop.field-0.0
    (OwnDrawResult (g.F.Files.bytes c.args.files.now) c.args.options.now c.args.view (g.W.Sink.written c.args.output.now)
    (g.W.Sink.written c.args.output.now)) c.from_residual.ensures.1 (inl (c.in_err-shop.ensures.said, keeps_same _))

pub returns-in_err-program-clause-comes : goal.returns-in_err-program-clause-comes
returns-in_err-program-clause-comes g c =
    let fault = answers.Read c.in_err-program.field-0.0 in
    turned _ fault (OwnDrawResult (g.F.Files.bytes c.args.files.now) c.args.options.now c.args.view (g.W.Sink.written c.args.output.now)
    (g.W.Sink.written c.args.output.now)) c.from_residual-in_err-program.ensures.1
    (inr (
      tt,
      plain_files (g.F.Files.bytes c.args.files.now) (g.F.Files.bytes c.read_placed.new.files) c.args.options.now c.args.view c.in_ok-shop.shop _ _ (Err fault) _
          (ap (option_map (λ n. n.now)) c.requires) c.in_ok-shop.ensures.said c.read_placed.ensures.keeps c.in_err-program.ensures.text
          (λ a fault_is. (fault_is, keeps_same _)),
    ))

pub returns-clause-comes : goal.returns-clause-comes
returns-clause-comes g c =
    plain_files (g.F.Files.bytes c.args.files.now) (g.F.Files.bytes c.read_placed.new.files) c.args.options.now c.args.view c.in_ok-shop.shop
    (g.W.Sink.written c.args.output.now) (g.W.Sink.written c.draw_program.new.output) (Ok tt) _
    (ap (option_map (λ n. n.now)) c.requires) c.in_ok-shop.ensures.said c.read_placed.ensures.keeps c.in_ok-program.ensures.text
    (λ a is_text. subst (λ (look : Look). DrawsProgram (setup_of c.in_ok-shop.shop.machine c.in_ok-shop.shop.tools) a c.args.options.now.delete look
    (g.W.Sink.written c.args.output.now) (g.W.Sink.written c.draw_program.new.output) (Ok tt)) c.look_of.ensures
    (c.in_ok-draw_program.ensures.draws a is_text c.in_ok-program.ensures.readings))

pub returns-in_err-draw_program-clause-comes : goal.returns-in_err-draw_program-clause-comes
returns-in_err-draw_program-clause-comes g c =
    let fault = c.in_err-draw_program.field-0.0 in
    turned _ fault (OwnDrawResult (g.F.Files.bytes c.args.files.now) c.args.options.now c.args.view (g.W.Sink.written c.args.output.now)
    (g.W.Sink.written c.draw_program.new.output)) c.from_residual-in_err-draw_program.ensures.1
    (inr (
      or_of_reading OfDrawing fault c.in_err-draw_program.ensures.faults,
      plain_files (g.F.Files.bytes c.args.files.now) (g.F.Files.bytes c.read_placed.new.files) c.args.options.now c.args.view c.in_ok-shop.shop
          (g.W.Sink.written c.args.output.now) (g.W.Sink.written c.draw_program.new.output) (Err fault) _
          (ap (option_map (λ n. n.now)) c.requires) c.in_ok-shop.ensures.said c.read_placed.ensures.keeps c.in_ok-program.ensures.text
          (λ a is_text. subst (λ (look : Look). DrawsProgram (setup_of c.in_ok-shop.shop.machine c.in_ok-shop.shop.tools) a c.args.options.now.delete look
          (g.W.Sink.written c.args.output.now) (g.W.Sink.written c.draw_program.new.output) (Err fault)) c.look_of.ensures
          (c.in_err-draw_program.ensures.draws a is_text c.in_ok-program.ensures.readings)),
    ))

pub returns-in_err-shop-clause-unread : goal.returns-in_err-shop-clause-unread
returns-in_err-shop-clause-unread g c =
    unread_told (SourceFails g.F.R.Source.remaining g.F.R.Source.failures) (g.F.Files.bytes c.args.files.now)
    (own_draw_inputs c.args.options.now) _ _ _ c.in_err-shop.field-0.0 c.from_residual.ensures.1
    (reported_before (SourceFails g.F.R.Source.remaining g.F.R.Source.failures) (g.F.Files.bytes c.args.files.now)
    (shop_inputs (Some c.args.options.now.machine.now) (Some c.args.options.now.tools.now))
    (program_input (option_map (λ n. n.now) c.args.options.now.program) ∷ certificate_inputs (option_map (λ n. n.now) c.args.options.now.certificate)) _ _
    (unread_by c.in_err-shop.field-0.0) c.in_err-shop.ensures.unread)

pub returns-in_err-program-clause-unread : goal.returns-in_err-program-clause-unread
returns-in_err-program-clause-unread g c =
    unread_told (SourceFails g.F.R.Source.remaining g.F.R.Source.failures) (g.F.Files.bytes c.args.files.now)
    (own_draw_inputs c.args.options.now) _ _ _ (answers.Read c.in_err-program.field-0.0) c.from_residual-in_err-program.ensures.1
    (told_behind (SourceFails g.F.R.Source.remaining g.F.R.Source.failures) (g.F.Files.bytes c.args.files.now) (g.F.Files.bytes c.read_placed.new.files)
    (shop_inputs (Some c.args.options.now.machine.now) (Some c.args.options.now.tools.now)) OfProgram (option_map (λ n. n.now) c.args.options.now.program)
    (certificate_inputs (option_map (λ n. n.now) c.args.options.now.certificate)) _ _ _ (program_unread c.in_err-program.field-0.0)
    (placed_read (g.F.Files.bytes c.args.files.now) (Some c.args.options.now.machine.now)
    (Some c.args.options.now.tools.now) c.args.options.now.changes c.in_ok-shop.shop c.in_ok-shop.ensures.said)
    (c.read_placed.ensures.keeps (option_map (λ n. n.now) c.args.options.now.program)) c.in_ok-shop.ensures.unread c.in_err-program.ensures.unread)

pub returns-in_err-draw_program-clause-unread : goal.returns-in_err-draw_program-clause-unread
returns-in_err-draw_program-clause-unread g c =
    unread_told (SourceFails g.F.R.Source.remaining g.F.R.Source.failures) (g.F.Files.bytes c.args.files.now)
    (own_draw_inputs c.args.options.now) _ _ _ c.in_err-draw_program.field-0.0 c.from_residual-in_err-draw_program.ensures.1
    (draw_told (SourceFails g.F.R.Source.remaining g.F.R.Source.failures) (g.F.Files.bytes c.args.files.now)
    (own_draw_inputs c.args.options.now) _ _ c.in_err-draw_program.field-0.0 c.in_err-draw_program.ensures.faults
    (c.in_ok-program.ensures.unread ∙ c.in_ok-shop.ensures.unread))
