use Rattle.std.proofs.Common.{ℕ, ◌+◌, arith, ap₂, sym, refl, ◌∙◌}
use Rattle.std.specs.Prelude.{Bool}
use Rattle.ngc_machine_files.specs.Machine.{file_of}
use Rattle.ngc_certificate.proofs.MakingLaws.{next_action}
use Rattle.ngc_commands.specs.Reached.{after}
use Rattle.ngc_place.specs.Shifts.{end_moves}
use Rattle.ngc_place.specs.Growth.{clear_after, holds_after}
use Rattle.ngc_place.specs.declared.fits.Moving.{Moving}
use Rattle.ngc_place.proofs.GrowthTests.{rest_after, program_starts, program_met, command_clear, command_met, command_unmarked, clear_sooner, fewer_same, fewer_full}
use Rattle.ngc_place.proofs.growth.program_growth.Goals as goal

pub returns-then-is_some : goal.returns-then-is_some
returns-then-is_some g c =
    program_met (file_of c.args.machine.now) c.args.cuts c.args.growing.now c.args.program.now 0 _ _ _ c.to_grid.ensures.value c.place_fault.ensures c.is_some.ensures
    c.if-is_some.true

pub loop-index-init : goal.loop-index-init
loop-index-init g c = record {
  within = omega arith;
  same = λ n h. program_starts (file_of c.args.machine.now) c.args.cuts c.args.growing.now c.args.program.now n _ _ _ _ c.to_grid.ensures.value c.place_fault.ensures
      c.is_some.ensures c.if-is_some.false c.at_start-reached.ensures;
  full = λ h. absurd (omega (arith, h));
}

pub returns-in-None : goal.returns-in-None
returns-in-None g c =
    let commands = c.args.program.now.commands.now in
    let i = c.loop-index.index in
    let first = next_action i commands c.command-item.result c.loop-index-test.true c.command-item.is in
    c.loop-index.invariant.same 0 (omega arith)
    ∙ command_unmarked (file_of c.args.machine.now) c.args.cuts c.args.growing.now c.args.program.now c.loop-index.reached c.loop-index.moves i 0 c.command-item.result
    first (sym c.in-None.ensures)

pub returns-in-None-action_growth : goal.returns-in-None-action_growth
returns-in-None-action_growth g c =
    let commands = c.args.program.now.commands.now in
    let i = c.loop-index.index in
    let first = next_action i commands c.command-item.result c.loop-index-test.true c.command-item.is in
    c.loop-index.invariant.same 0 (omega arith)
    ∙ command_met (file_of c.args.machine.now) c.args.cuts c.args.growing.now c.args.program.now c.loop-index.reached c.loop-index.moves c.in-Some.end i
    c.command-item.result _ first (sym c.in-Some.ensures) refl 0 c.in-None-action_growth.ensures

pub loop-index-preserved : goal.loop-index-preserved
loop-index-preserved g c =
    let machine = file_of c.args.machine.now in
    let commands = c.args.program.now.commands.now in
    let i = c.loop-index.index in
    let r = c.loop-index.reached in
    let moves = c.loop-index.moves in
    let end = c.in-Some.end in
    let command = c.command-item.result in
    let moving : Moving = record { start = moves; end = end } in
    let first = next_action i commands command c.loop-index-test.true c.command-item.is in
    let whole : ℕ → Bool = λ n. holds_after machine c.args.cuts c.args.growing.now c.args.program.now n in
    let rest : ℕ → Bool = λ n. rest_after machine c.args.cuts c.args.growing.now c.args.program.now r moves i n in
    let next : ℕ → Bool = λ n. rest_after machine c.args.cuts c.args.growing.now c.args.program.now (after r command.action) (end_moves moves end command.action) (i + 1) n in
    let part : ℕ → Bool = λ n. clear_after machine c.args.cuts c.args.growing.now r moving command.action n in
    let inv = c.loop-index.invariant in
    let last = c.in-Some-action_growth.ensures in
    record {
      within = omega (arith, inv.within, last.within);
      same = λ n h.
          fewer_same whole rest next part c.loop-index.steps c.in-Some-action_growth.fewer
          (λ n m h. clear_sooner machine c.args.cuts c.args.growing.now r moving command.action n m c.args.machine.now.step_in_range c.requires.cuts
          (omega (arith, c.ranges.cuts.fits)) h)
          inv.same
          (command_clear machine c.args.cuts c.args.growing.now c.args.program.now r moves end i command moving first (sym c.in-Some.ensures) refl) last n h
          ∙ ap₂ (λ s b. rest_after machine c.args.cuts c.args.growing.now c.args.program.now s b (i + 1) n) (sym c.advance.ensures) (sym c.reached_moves-moves.ensures);
      full = fewer_full whole rest part c.args.bound c.loop-index.steps c.in-Some-action_growth.fewer inv.same
          (command_met machine c.args.cuts c.args.growing.now c.args.program.now r moves end i command moving first (sym c.in-Some.ensures) refl) inv.full last;
    }
