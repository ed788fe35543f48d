-- The text of a run's log: the outcome of each event. Our own format.
use Rattle.std.specs.Prelude.{ℕ, List, [], ◌++◌, flat_map, decimal, codes, Option, Some, None, Ok}
use Rattle.std.specs.Prelude.{Err, Bool, true, false}
use Rattle.std.specs.Fmt.{signed_decimal}
use Rattle.ngc_fixed_length.specs.declared.points.StepPos.{StepPos}
use Rattle.ngc_events.specs.declared.reply.Ending.{Ending}
use Rattle.ngc_events.specs.declared.reply.Ending.TheVariants.{Done, Stopped, End}
use Rattle.ngc_events.specs.declared.reply.Reply.TheVariants.{Loaded, Ticked, Held, Resumed}
use Rattle.ngc_events.specs.declared.reply.Reply.TheVariants.{Overridden, Switched, Started}
use Rattle.ngc_events.specs.Faults.{event_fault_number}
use Rattle.ngc_machine_model.specs.Step.{Outcome}

abbrev pub numbered_line : List ℕ → ℕ → List ℕ
numbered_line word n = word ++ codes " " ++ decimal n ++ codes "\n"

abbrev pub ending_text : Option Ending → List ℕ
ending_text None = []
ending_text (Some (Done k)) = numbered_line (codes "done") k
ending_text (Some (Stopped k)) = numbered_line (codes "stop") k
ending_text (Some End) = codes "end\n"

abbrev pub position_text : Option StepPos → List ℕ
position_text None = []
position_text (Some p) = codes "pos " ++ signed_decimal p.x ++ codes " " ++ signed_decimal p.y
    ++ codes " " ++ signed_decimal p.z ++ codes "\n"

abbrev pub switch_text : Bool → List ℕ
switch_text true = codes "switch on\n"
switch_text false = codes "switch off\n"

abbrev pub text_of : Outcome → List ℕ
text_of (Ok (Loaded k)) = numbered_line (codes "load") k
text_of (Ok (Ticked p ending)) = position_text p ++ ending_text ending
text_of (Ok Held) = codes "hold\n"
text_of (Ok Resumed) = codes "resume\n"
text_of (Ok (Overridden n)) = numbered_line (codes "override") n
text_of (Ok (Switched on)) = switch_text on
text_of (Ok Started) = codes "start\n"
text_of (Err e) = numbered_line (codes "refused") (event_fault_number e)

abbrev pub log : List Outcome → List ℕ
log outcomes = flat_map text_of outcomes
