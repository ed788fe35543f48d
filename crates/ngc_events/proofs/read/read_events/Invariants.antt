-- The events of the text are those read so far, and then those of the remaining text.
use Rattle.std.proofs.Common.{◌≡◌, ◌+◌, length}
use Rattle.std.specs.Prelude.{vec_len}
use Rattle.ngc_events.specs.Events.{parsed_events}
use Rattle.ngc_events.specs.Reading.{parsed_from, all_prefixed}
use Rattle.ngc_events.proofs.read.read_events.Given as goal

abbrev pub invariant-loop-left : goal.invariant-loop-left
invariant-loop-left g l = parsed_events l.text ≡ all_prefixed l.events.items (parsed_from (vec_len l.events + 1) l.left)

abbrev pub decreases-loop-left : goal.decreases-loop-left
decreases-loop-left g l = length l.left
