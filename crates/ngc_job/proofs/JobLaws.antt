-- The stored values are the program's job.
use Rattle.std.proofs.Common.{◌≡◌, List, Option, Some, None, Bool, true, false, Ok, refl, sym, ◌∙◌}
use Rattle.ngc_canonical.proofs.BlockDelete.{same_at_both}
use Rattle.ngc_commands.specs.declared.command.Command.{Command}
use Rattle.ngc_canonical.specs.Meaning.{Program, has_deleted, meaning}
use Rattle.ngc_canonical.specs.State.{Setup}
use Rattle.ngc_job.specs.Job.{IsJobOf, JobData}

abbrev pub kept : Setup → List Command → Option (List Command) → JobData
kept setup off on = record { machine = setup.machine; tools = setup.tools; off = off; on = on }

-- if a line begins with `/`
pub apart : (program : Program) (setup : Setup) (off on : List Command) (found : Bool) → meaning program setup false ≡ Ok off
    → meaning program setup true ≡ Ok on → found ≡ has_deleted program.lines → found ≡ true → IsJobOf program setup (kept setup off (Some on))
apart program setup off on found off_means on_means is_found has = record {
  machine = refl;
  tools = refl;
  off = off_means;
  on = on_means;
  apart = sym has ∙ is_found;
}

-- if none does
pub alike : (program : Program) (setup : Setup) (off : List Command) (found : Bool) → meaning program setup false ≡ Ok off → found ≡ has_deleted program.lines
    → found ≡ false → IsJobOf program setup (kept setup off None)
alike program setup off found off_means is_found none = record {
  machine = refl;
  tools = refl;
  off = off_means;
  on = same_at_both program setup (sym is_found ∙ none) ∙ off_means;
  apart = sym none ∙ is_found;
}
