use Rattle.std.proofs.Common.{rules}
use Rattle.ngc_canned_cycles.specs.Heights.{repeats_of}
use Rattle.ngc_canonical.specs.Cycles.{make_moves, all_moves}
use Rattle.ngc_canonical.specs.Interpreter.{state_of}
use Rattle.ngc_canonical.proofs.CycleLaws.{refused}
use Rattle.ngc_canonical.proofs.state.Interpreter.make_repeats.Goals as goal

pub returns-in-Err-make_moves : goal.returns-in-Err-make_moves
returns-in-Err-make_moves g c =
    refused c.args.cycle.now c.args.start.now c.loop-index.index (repeats_of c.args.cycle.now.repeats) c.fill.new.moves.items (state_of c.loop-index.self)
    (state_of c.make_moves.new.self) c.in-Err-make_moves.refusal
    (make_moves (all_moves c.args.cycle.now c.args.start.now) (state_of c.args.self.now)) (search rules) c.requires.checked
    (search rules) c.loop-index.invariant.leads (search rules)
