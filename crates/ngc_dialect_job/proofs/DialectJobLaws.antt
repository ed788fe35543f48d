-- The stored values are the job of the program's text.
use Rattle.std.proofs.Common.{◌≡◌, ℕ, List, Some, None, true, false, Ok, refl, sym, ◌∙◌}
use Rattle.ngc_canonical.specs.State.{Setup}
use Rattle.ngc_commands.specs.declared.command.Command.{Command}
use Rattle.ngc_dialect_execution.proofs.DeletedLines.{same_at_both}
use Rattle.ngc_dialect_execution.specs.Program.{meaning_in}
use Rattle.ngc_dialect_execution.specs.Text.{has_deleted}
use Rattle.ngc_dialect_names.specs.declared.dialect.Dialect.{Dialect}
use Rattle.ngc_dialect_job.specs.Job.{IsDialectJob}

-- if a line begins with `/`
pub apart : (d : Dialect) (text : List ℕ) (setup : Setup) (off on : List Command) → meaning_in d setup false text ≡ Ok off →
    meaning_in d setup true text ≡ Ok on → has_deleted text ≡ true →
    IsDialectJob d text setup (record { machine = setup.machine; tools = setup.tools; off = off; on = Some on })
apart d text setup off on off_means on_means has = record { machine = refl; tools = refl; off = off_means; on = on_means; apart = sym has }

-- if none does
pub alike : (d : Dialect) (text : List ℕ) (setup : Setup) (off : List Command) → meaning_in d setup false text ≡ Ok off → has_deleted text ≡ false →
    IsDialectJob d text setup (record { machine = setup.machine; tools = setup.tools; off = off; on = None })
alike d text setup off off_means none = record {
  machine = refl;
  tools = refl;
  off = off_means;
  on = same_at_both d setup text none ∙ off_means;
  apart = sym none;
}
