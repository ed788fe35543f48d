-- The tests of actions and programs over an interval of shifts that grows on one side. Our own.
use Rattle.std.specs.Prelude.{◌≡◌, ℕ, ◌+◌, ◌<◌, ◌≤◌, List, Bool, false, IsTrue}
use Rattle.ngc_fixed_length.specs.declared.points.GridBox.{GridBox}
use Rattle.ngc_machine_files.specs.Machine.{MachineFile}
use Rattle.ngc_commands.specs.declared.command.Action.{Action}
use Rattle.ngc_commands.specs.declared.reached.Reached.{Reached}
use Rattle.ngc_place.specs.declared.fits.Moving.{Moving}
use Rattle.ngc_place.specs.declared.growing.Growing.{Growing}
use Rattle.ngc_place.specs.declared.programs.Program.{Program}
use Rattle.ngc_place.specs.Holds.{action_clear}
use Rattle.ngc_place.specs.Longest.{shifts_of, grown, one_holds, all_hold}

-- the shifts of an interval that is n steps longer on the side on which it grows
abbrev pub shifts_after : Growing → ℕ → GridBox
shifts_after g n = shifts_of g.axis (grown g.side n g.interval)

-- an action is clear over them
unfoldable pub clear_after : MachineFile → ℕ → Growing → Reached → Moving → Action → ℕ → Bool
clear_after machine most g r moving action n =
    action_clear machine most (shifts_after g n) r moving.start moving.end action

-- a program holds over them
unfoldable pub holds_after : MachineFile → ℕ → Growing → Program → ℕ → Bool
holds_after machine most g p n = one_holds machine most (shifts_after g n) p

-- so do all programs
unfoldable pub all_after : MachineFile → ℕ → Growing → List Program → ℕ → Bool
all_after machine most g programs n = all_hold machine most (shifts_after g n) programs

-- the greatest number, of those up to a bound, that passes a test
pub record IsLast (test : ℕ → Bool) (bound n : ℕ) : Type 0 where
  pub within : n ≤ bound
  pub passes : IsTrue (test n)
  pub full : n < bound → test (n + 1) ≡ false

-- a number below another that passes a test, while the next one doesn't
pub record IsTurn (test : ℕ → Bool) (over n : ℕ) : Type 0 where
  pub below : n < over
  pub passes : IsTrue (test n)
  pub fails : test (n + 1) ≡ false
