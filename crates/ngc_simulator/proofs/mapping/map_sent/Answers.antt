use Rattle.std.proofs.Common.{ℕ, List, Option, Err, subst}
use Rattle.ngc_canonical.specs.Interpreter.{setup_of}
use Rattle.ngc_file_figures.specs.declared.limits.ToolLimits.{ToolLimits}
use Rattle.ngc_report.proofs.Converted.{turned}
use Rattle.ngc_simulator.specs.Mapping.{MapsCommands, MapsDialect}
use Rattle.ngc_simulator.proofs.MapLaws.{dialect_mapped, dialect_unmapped}
use Rattle.ngc_simulator.proofs.mapping.map_sent.Goals as goal

pub returns-in_err-map_commands-in-Ok-clause-maps : goal.returns-in_err-map_commands-in-Ok-clause-maps
returns-in_err-map_commands-in-Ok-clause-maps g c =
    let sent = c.args.sent.now in
    let setup = setup_of sent.shop.machine sent.shop.tools in
    let table = sent.shop.figures.tools.items in
    let old : Option (List ℕ) = g.W.Sink.written c.args.output.now in
    let new : Option (List ℕ) = g.W.Sink.written c.map_commands.new.output in
    let fault = c.in_err-map_commands-in-Ok.field-0.0 in
    let (means, framed) = rw (c.in-Ok.is, c.as_slice-text.ensures.value) at c.in_ok-framed.ensures.executed in
    turned _ fault (MapsDialect c.args.most table sent.dialect setup c.args.block_delete sent.text.items old new)
    c.from_residual-in_err-map_commands-in-Ok.ensures.1
    (dialect_unmapped c.args.most table sent.dialect setup c.args.block_delete sent.text.items c.in-Ok.framed.commands.items c.as_slice-commands.result.now
    old new fault c.as_slice-commands.ensures.value means
    (subst (λ (t : List ToolLimits). MapsCommands c.args.most t setup.machine c.as_slice-commands.result.now old new (Err fault))
    c.as_slice-table.ensures.value c.in_err-map_commands-in-Ok.ensures.maps))

pub returns-in_ok-map_commands-in-Ok-clause-maps : goal.returns-in_ok-map_commands-in-Ok-clause-maps
returns-in_ok-map_commands-in-Ok-clause-maps g c =
    let sent = c.args.sent.now in
    let (means, framed) = rw (c.in-Ok.is, c.as_slice-text.ensures.value) at c.in_ok-framed.ensures.executed in
    dialect_mapped c.args.most sent.shop.figures.tools.items sent.dialect (setup_of sent.shop.machine sent.shop.tools) c.args.block_delete sent.text.items
    c.in-Ok.framed.commands.items c.as_slice-commands.result.now (g.W.Sink.written c.args.output.now) (g.W.Sink.written c.map_commands.new.output)
    c.as_slice-commands.ensures.value means (rw (← c.as_slice-table.ensures.value) c.in_ok-map_commands-in-Ok.ensures.maps)
