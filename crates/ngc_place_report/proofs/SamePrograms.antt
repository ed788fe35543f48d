-- A program without a line that begins with `/` is the same at both settings.
use Rattle.std.proofs.Common.{◌≡◌, ◌∙◌, sym, refl, List, Option, Some, None, true, false}
use Rattle.std.specs.Prelude.{is_some}
use Rattle.ngc_commands.specs.declared.command.Command.{Command}
use Rattle.ngc_job.specs.Job.{JobData, commands_in}
use Rattle.ngc_place.specs.declared.programs.Program.{Program as Marked}
use Rattle.ngc_place_report.specs.Findings.{AreMarked}
use Rattle.ngc_place_report.specs.Same.{AreSame}

-- without a line that begins with `/`, the commands are the same at both settings
one_list : (j : JobData) → is_some j.on ≡ false → commands_in false j ≡ commands_in true j
one_list j h = by_case j.on refl h
  where
    by_case : (on : Option (List Command)) → j.on ≡ on → is_some j.on ≡ false → commands_in false j ≡ commands_in true j
    by_case None e h = simp (e)
    by_case (Some cs) e h = let bad : ⊥ = cc in absurd bad

pub same_of : (j : JobData) (off on : Marked) → AreMarked j off on → is_some j.on ≡ false → off.moving.now ≡ on.moving.now → AreSame off on
same_of j off on marked h marks = record { commands = marked.at_off ∙ one_list j h ∙ sym marked.at_on; marks = marks }
