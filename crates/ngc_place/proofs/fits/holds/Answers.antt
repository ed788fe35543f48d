use Rattle.std.proofs.Common.{◌+◌, arith, ap, ap₂, sym, ◌∙◌, false}
use Rattle.ngc_machine_files.specs.Machine.{file_of}
use Rattle.ngc_certificate.proofs.MakingLaws.{next_action, none_left}
use Rattle.ngc_place.proofs.Tests.{rest_holds, start_clear, start_met, command_passes, command_fails, mark_missing, none_left_holds}
use Rattle.ngc_place.proofs.fits.holds.Goals as goal

pub returns-then-is_some : goal.returns-then-is_some
returns-then-is_some g c =
    sym (start_met (file_of c.args.machine.now) c.args.cuts c.args.shifts.now c.args.moving.now c.args.commands.now _ _ _ c.to_grid.ensures.value c.place_fault.ensures c.is_some.ensures c.if-is_some.true)

pub loop-index-init : goal.loop-index-init
loop-index-init g c =
    start_clear (file_of c.args.machine.now) c.args.cuts c.args.shifts.now c.args.moving.now c.args.commands.now _ _ _ c.to_grid.ensures.value c.place_fault.ensures c.is_some.ensures c.if-is_some.false
    ∙ ap (λ r. rest_holds (file_of c.args.machine.now) c.args.cuts c.args.shifts.now r false c.args.moving.now c.args.commands.now 0)
    (sym c.at_start-reached.ensures)

pub returns-in-None : goal.returns-in-None
returns-in-None g c =
    let commands = c.args.commands.now in
    let i = c.loop-index.index in
    let first = next_action i commands c.index-commands-index.result c.loop-index-test.true c.index-commands-index.is in
    sym (c.loop-index.invariant
    ∙ mark_missing (file_of c.args.machine.now) c.args.cuts c.args.shifts.now c.loop-index.reached c.loop-index.moves c.args.moving.now commands i
    c.index-commands-index.result first (sym c.in-None.ensures))

pub returns-then-not-action_is_clear : goal.returns-then-not-action_is_clear
returns-then-not-action_is_clear g c =
    let commands = c.args.commands.now in
    let i = c.loop-index.index in
    let first = next_action i commands c.index-commands-index.result c.loop-index-test.true c.index-commands-index.is in
    sym (c.loop-index.invariant
    ∙ command_fails (file_of c.args.machine.now) c.args.cuts c.args.shifts.now c.loop-index.reached c.loop-index.moves c.in-Some.end c.args.moving.now commands i c.index-commands-index.result _
    first (sym c.in-Some.ensures) c.action_is_clear.ensures c.if-not-action_is_clear.true)

pub loop-index-preserved : goal.loop-index-preserved
loop-index-preserved g c =
    let commands = c.args.commands.now in
    let i = c.loop-index.index in
    let first = next_action i commands c.index-commands-index.result c.loop-index-test.true c.index-commands-index.is in
    c.loop-index.invariant
    ∙ command_passes (file_of c.args.machine.now) c.args.cuts c.args.shifts.now c.loop-index.reached c.loop-index.moves c.in-Some.end c.args.moving.now commands i c.index-commands-index.result _
    first (sym c.in-Some.ensures) c.action_is_clear.ensures c.if-not-action_is_clear.false
    ∙ ap₂ (λ r s. rest_holds (file_of c.args.machine.now) c.args.cuts c.args.shifts.now r s c.args.moving.now commands (i + 1)) (sym c.after-reached.ensures) (sym c.reached_moves-moves.ensures)

pub returns : goal.returns
returns g c =
    let i = c.loop-index.index in
    sym (c.loop-index.invariant
    ∙ none_left_holds (file_of c.args.machine.now) c.args.cuts c.args.shifts.now c.loop-index.reached c.loop-index.moves c.args.moving.now c.args.commands.now i
    (none_left i c.args.commands.now (omega (arith, c.loop-index-test.false))))
