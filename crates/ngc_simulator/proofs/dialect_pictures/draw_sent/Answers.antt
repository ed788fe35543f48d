use Rattle.std.proofs.Common.{ℕ, List, Option}
use Rattle.ngc_canonical.specs.Interpreter.{setup_of}
use Rattle.ngc_program_report.specs.Framed.{history_in}
use Rattle.ngc_report.proofs.Converted.{turned}
use Rattle.ngc_simulator.specs.DialectPictures.{DrawsDialect}
use Rattle.ngc_simulator.proofs.DialectPictureLaws.{dialect_undrawn, drawn_dialect}
use Rattle.ngc_simulator.proofs.dialect_pictures.draw_sent.Goals as goal

pub returns-in_err-draw_commands-in-Ok-clause-draws : goal.returns-in_err-draw_commands-in-Ok-clause-draws
returns-in_err-draw_commands-in-Ok-clause-draws g c =
    let sent = c.args.sent.now in
    let setup = setup_of sent.shop.machine sent.shop.tools in
    let old : Option (List ℕ) = g.W.Sink.written c.args.output.now in
    let new : Option (List ℕ) = g.W.Sink.written c.draw_commands.new.output in
    let fault = c.in_err-draw_commands-in-Ok.field-0.0 in
    let (means, framed) = rw (c.in-Ok.is, c.as_slice-text.ensures.value) at c.in_ok-framed.ensures.executed in
    turned _ fault (DrawsDialect sent.dialect setup c.args.block_delete sent.text.items c.args.look old new)
    c.from_residual-in_err-draw_commands-in-Ok.ensures.1
    (dialect_undrawn sent.dialect setup c.args.block_delete sent.text.items c.args.look (history_in c.in-Ok.framed.frames) c.in-Ok.framed.commands.items old new
    fault means framed.0 c.in_err-draw_commands-in-Ok.ensures.draws)

pub returns-in_ok-draw_commands-in-Ok-clause-draws : goal.returns-in_ok-draw_commands-in-Ok-clause-draws
returns-in_ok-draw_commands-in-Ok-clause-draws g c =
    let sent = c.args.sent.now in
    let (means, framed) = rw (c.in-Ok.is, c.as_slice-text.ensures.value) at c.in_ok-framed.ensures.executed in
    drawn_dialect sent.dialect (setup_of sent.shop.machine sent.shop.tools) c.args.block_delete sent.text.items c.args.look
    (history_in c.in-Ok.framed.frames) c.in-Ok.framed.commands.items (g.W.Sink.written c.args.output.now) (g.W.Sink.written c.draw_commands.new.output)
    means framed.0 c.in_ok-draw_commands-in-Ok.ensures.draws
