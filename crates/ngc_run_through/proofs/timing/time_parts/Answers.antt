use Rattle.std.proofs.Common.{◌≡◌, ◌+◌, ◌-◌, ◌*◌, ◌^◌, ℕ, List, length, ap, arith, subst, sym, refl}
use Rattle.ngc_machine_model.specs.State.{Job}
use Rattle.ngc_run_through.specs.Parts.{GoesParted}
use Rattle.ngc_run_through.proofs.OwnRunParts.{is_next, more_than_left, none_parted, part_more, parted_as}
use Rattle.ngc_run_through.proofs.UntouchedEvents.{few_behind}
use Rattle.ngc_run_through.proofs.timing.time_parts.Goals as goal

pub loop-done-init : goal.loop-done-init
loop-done-init g c = record {
  goes = none_parted _ _ _ _ _ (omega arith) c.new-parts.ensures.items c.requires.untouched;
  fewer = omega arith;
  within = omega arith;
  count = ap length c.commands-count.ensures;
  room = c.requires.room;
  full = c.requires.full;
  rest = c.requires.left;
  running = c.requires.runs;
}

pub finish_part-requires-clause-enough : goal.finish_part-requires-clause-enough
finish_part-requires-clause-enough g c =
    let inv = c.loop-done.invariant in
    let counted = inv.count in
    let test = c.loop-done-test.true in
    (is_next _ _ _ _ _ _ _ _ _ _ _ inv.goes c.requires.none_done inv.rest c.commands.ensures c.part_length-length.ensures (omega (arith, test, counted))).enough

pub finish_part-requires-clause-few_commands : goal.finish_part-requires-clause-few_commands
finish_part-requires-clause-few_commands g c =
    let inv = c.loop-done.invariant in
    let counted = inv.count in
    let test = c.loop-done-test.true in
    let within = (is_next _ _ _ _ _ _ _ _ _ _ _ inv.goes c.requires.none_done inv.rest c.commands.ensures c.part_length-length.ensures
    (omega (arith, test, counted))).within in
    omega (arith, within, c.requires.few_commands)

pub finish_part-requires-clause-few : goal.finish_part-requires-clause-few
finish_part-requires-clause-few g c =
    let inv = c.loop-done.invariant in
    let within = inv.within in
    let counted = inv.count in
    few_behind _ _ _ (2 ^ 10) (2 ^ 123) _ _ _ _ _ _ inv.goes.goes c.requires.few (omega (arith, within, counted, c.requires.few_commands))

pub loop-done-smaller : goal.loop-done-smaller
loop-done-smaller g c =
    let inv = c.loop-done.invariant in
    let counted = inv.count in
    let test = c.loop-done-test.true in
    let some = (is_next _ _ _ _ _ _ _ _ _ _ _ inv.goes c.requires.none_done inv.rest c.commands.ensures c.part_length-length.ensures
    (omega (arith, test, counted))).some in
    omega (arith, test, some)

pub loop-done-preserved : goal.loop-done-preserved
loop-done-preserved g c =
    let inv = c.loop-done.invariant in
    let counted = inv.count in
    let test = c.loop-done-test.true in
    let next = is_next _ _ _ _ _ _ _ _ _ _ _ inv.goes c.requires.none_done inv.rest c.commands.ensures c.part_length-length.ensures
    (omega (arith, test, counted)) in
    let k = c.part_length-length.result in
    let done = c.loop-done.done in
    let left = c.loop-done.left in
    let later = c.saturating_sub-left.ensures in
    let fewer = inv.fewer in
    let room = inv.room in
    let rest = inv.rest in
    let at = next.at in
    let some = next.some in
    let within = next.within in
    let lengths = next.lengths in
    let part = c.finish_part.ensures.goes in
    let moved = part.goes.done in
    let ring = part.goes.ring in
    let same : length c.finish_part.new.controller.job.commands ≡ length c.loop-done.controller.job.commands =
    ap (λ (j : Job). length j.commands) part.goes.job in
    let P : List ℕ → Type 0 =
    λ l. GoesParted ((done + k) * 2 ^ 103) (c.args.unloaded - c.saturating_sub-left.result)
    (done + k) c.args.controller.now c.finish_part.new.controller c.args.recorder.now c.finish_part.new.recorder l in
    let before = c.ticks-before.ensures in
    let now = c.ticks.ensures in
    record {
      goes = subst P (sym c.in-Ok.ensures.items)
          (part_more _ _ _ _ done _ left _ k _ _ _ _ _ _ _ inv.goes part (omega (arith, before, now)) next.is_length next.at (omega (arith, test, counted))
          (λ all. more_than_left c.args.controller.now.job.machine.ring left (length c.loop-done.controller.state.ring) k (omega (arith, c.requires.untouched.machine.ring.least)) inv.full some (omega (arith, all, moved, rest, lengths, at)))
          (omega arith) (omega (arith, later, fewer)) refl);
      fewer = omega (arith, later, fewer);
      within = omega (arith, within, counted);
      count = inv.count;
      room = omega (arith, ring, room);
      full = λ more. (let ready = inv.full (omega (arith, more, later)) in omega (arith, ring, ready, more, later));
      rest = omega (arith, moved, ring, rest, later, same);
      running = c.finish_part.ensures.runs;
    }

pub returns-clause-parts : goal.returns-clause-parts
returns-clause-parts g c =
    let inv = c.loop-done.invariant in
    let counted = inv.count in
    let within = inv.within in
    let rest = inv.rest in
    let fewer = inv.fewer in
    let moved = inv.goes.goes.done in
    let test = c.loop-done-test.false in
    let lengths : length c.loop-done.controller.job.commands ≡ length c.args.controller.now.job.commands =
    ap (λ (j : Job). length j.commands) inv.goes.goes.job in
    parted_as _ _ _ (2 ^ 123) _ _ _ _ _ _ _ inv.goes (omega (arith, within, counted, c.requires.few_commands))
    (omega (arith, counted, within, rest, fewer, moved, test, lengths, c.requires.none_done)) (omega (arith, counted, within, test))
