-- The motions that stay where they are when the origin is shifted. Our own.
use Rattle.std.specs.Prelude.{ℕ, ◌+◌, List, [], ◌∷◌, Bool, true, false, Option, Some, None}
use Rattle.ngc_commands.specs.declared.command.Action.{Action}
use Rattle.ngc_commands.specs.declared.command.Action.TheVariants.{Move}
use Rattle.ngc_commands.specs.declared.command.Command.{Command}
use Rattle.ngc_place.specs.declared.programs.Program.{Program as Marked}
use Rattle.ngc_place_report.specs.declared.placement.Staying.{Staying}

-- how many motions were counted
abbrev pub motions_of : Option Staying → ℕ
motions_of None = 0
motions_of (Some s) = s.motions

-- a motion that stays, after those that were counted before it
abbrev pub one_more : Option Staying → ℕ → Option Staying
one_more None line = Some (record { motions = 1; line = line })
one_more (Some s) line = Some (record { motions = s.motions + 1; line = s.line })

abbrev pub counted : Option Staying → Bool → Action → ℕ → Option Staying
counted before false (Move m) line = one_more before line
counted before false action line = before
counted before true action line = before

-- the motions whose ends stay: how many, and the line of the first
abbrev pub staying_after : Option Staying → List Bool → List Command → Option Staying
staying_after before [] commands = before
staying_after before (moves ∷ marks) [] = before
staying_after before (moves ∷ marks) (command ∷ commands) =
    staying_after (counted before moves command.action command.line) marks commands

abbrev pub staying_of : Marked → Option Staying
staying_of p = staying_after None p.moving.now p.commands.now
