-- The motions that are counted, one after the other.
use Rattle.std.proofs.Common.{◌≡◌, ◌≤◌, ◌+◌, min, ◌∙◌, arith, ap₂, refl, sym, ℕ, List, [], ◌∷◌, length, drop, length-drop, Bool, true, false, Option, Some, None}
use Rattle.ngc_commands.specs.declared.command.Action.{Action}
use Rattle.ngc_commands.specs.declared.command.Action.TheVariants as actions
use Rattle.ngc_commands.specs.declared.command.Command.{Command}
use Rattle.ngc_place_report.specs.Staying.{counted, motions_of, one_more, staying_after}
use Rattle.ngc_place_report.specs.declared.placement.Staying.{Staying}

more_count : (before : Option Staying) (line n : ℕ) → motions_of before ≤ n → motions_of (one_more before line) ≤ n + 1
more_count None line n least = omega arith
more_count (Some s) line n least = omega (arith, least)

pub counted_count : (before : Option Staying) (moves : Bool) (action : Action) (line n : ℕ) → motions_of before ≤ n →
    motions_of (counted before moves action line) ≤ n + 1
counted_count before true action line n least = omega (arith, least)
counted_count before false (actions.Move m) line n least = more_count before line n least
counted_count before false (actions.Mount tool) line n least = omega (arith, least)
counted_count before false (actions.Spindle state) line n least = omega (arith, least)
counted_count before false (actions.Coolant state) line n least = omega (arith, least)
counted_count before false (actions.Dwell time) line n least = omega (arith, least)
counted_count before false (actions.Override on) line n least = omega (arith, least)
counted_count before false actions.Stop line n least = omega (arith, least)
counted_count before false actions.OptionalStop line n least = omega (arith, least)
counted_count before false actions.End line n least = omega (arith, least)

-- one command more, of those that are left
pub one_counted : (before : Option Staying) (marks rest : List Bool) (commands others : List Command) (moves : Bool) (command : Command) →
    marks ≡ moves ∷ rest → commands ≡ command ∷ others →
    staying_after before marks commands ≡ staying_after (counted before moves command.action command.line) rest others
one_counted before marks rest commands others moves command first next = ap₂ (staying_after before) first next

-- none is left
ended : (before : Option Staying) (marks : List Bool) (commands : List Command) → min (length marks) (length commands) ≡ 0 →
    staying_after before marks commands ≡ before
ended before [] commands none = refl
ended before (m ∷ marks) [] none = refl
ended before (m ∷ marks) (c ∷ commands) none = absurd (omega (arith, none))

pub all_counted : (before whole : Option Staying) (marks : List Bool) (commands : List Command) (i : ℕ) → min (length marks) (length commands) ≤ i →
    staying_after before (drop i marks) (drop i commands) ≡ whole → before ≡ whole
all_counted before whole marks commands i last left =
    sym (ended before (drop i marks) (drop i commands) (omega (arith, length-drop {A = Bool} i marks, length-drop {A = Command} i commands, last))) ∙ left
