-- Programs that are judged alike. Our own.
use Rattle.std.specs.Prelude.{◌≡◌}
use Rattle.ngc_place.specs.declared.programs.Program.{Program as Marked}

-- the same commands with the same marks
pub record AreSame (off on : Marked) : Type 0 where
  pub commands : off.commands.now ≡ on.commands.now
  pub marks : off.moving.now ≡ on.moving.now
