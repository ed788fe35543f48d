use Rattle.std.proofs.lemmas.Grind.{common_steps}
use Rattle.std.proofs.lemmas.Int.{ints}
use Rattle.std.proofs.Common.{◌≡◌, subst, sym, rules, List, arith}
use Rattle.ngc_canned_cycles.specs.declared.cycle.CycleMove.{CycleMove}
use Rattle.ngc_canned_cycles.specs.Moves.{repeat_moves}
use Rattle.ngc_canned_cycles.specs.Reach.{StaysInReach}
use Rattle.ngc_canned_cycles.proofs.Reach.{stays}
use Rattle.ngc_canned_cycles.proofs.moves.fill.Goals as goal

pub returns-clause-reach : goal.returns-clause-reach
returns-clause-reach g c =
    let made : c.add_hole.new.moves.items ≡ repeat_moves c.args.cycle.now c.args.start.now c.args.repeat = search rules in
    let P : List CycleMove → Type 0 = λ moves. StaysInReach c.args.cycle.now c.args.start.now c.args.repeat moves in
    subst P (sym made) (stays c.args.cycle.now c.args.start.now c.args.repeat c.in_ok-check.ensures.peck)

pub arrival-requires : goal.arrival-requires
arrival-requires c = grind (arith, ints, common_steps)
