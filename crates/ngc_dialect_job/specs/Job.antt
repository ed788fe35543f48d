-- The job of a program for another control. Our own.
use Rattle.std.specs.Prelude.{◌≡◌, ℕ, List, is_some, Result, Ok, Err, true, false}
use Rattle.ngc_commands.specs.declared.command.Command.{Command}
use Rattle.ngc_canonical.specs.State.{Setup}
use Rattle.ngc_certificate_text.specs.declared.piece.Setting.{Setting}
use Rattle.ngc_certificate_text.specs.declared.piece.Setting.TheVariants.{Off, On}
use Rattle.ngc_dialect_names.specs.declared.dialect.Dialect.{Dialect}
use Rattle.ngc_dialect_execution.specs.declared.fault.DialectFault.{DialectFault}
use Rattle.ngc_dialect_execution.specs.Faults.{FailsBy}
use Rattle.ngc_dialect_execution.specs.Program.{meaning_in}
use Rattle.ngc_dialect_execution.specs.Text.{has_deleted}
use Rattle.ngc_job.specs.Job.{JobData, commands_in}
use Rattle.ngc_dialect_job.specs.declared.job.DialectJobFault.{DialectJobFault}

-- it stores its inputs; its commands are what the program means at both settings of block delete; those
-- with block delete on are stored separately if and only if a line begins with `/`
pub record IsDialectJob (d : Dialect) (text : List ℕ) (setup : Setup) (j : JobData) : Type 0 where
  pub machine : j.machine ≡ setup.machine
  pub tools : j.tools ≡ setup.tools
  pub off : meaning_in d setup false text ≡ Ok j.off
  pub on : meaning_in d setup true text ≡ Ok (commands_in true j)
  pub apart : is_some j.on ≡ has_deleted text

-- the program is refused at a setting, and at `On` only if it isn't refused at `Off`
abbrev pub IsRefusedAt : Dialect → List ℕ → Setup → Setting → DialectFault → Type 0
IsRefusedAt d text setup Off fault = FailsBy fault (meaning_in d setup false text)
IsRefusedAt d text setup On fault = (off : List Command) ×
    (meaning_in d setup false text ≡ Ok off) × FailsBy fault (meaning_in d setup true text)

-- the result is the job of the program, or why it has none
abbrev pub DialectJobIs : {X : Type 0} → (X → JobData) → Dialect → List ℕ → Setup →
    Result X DialectJobFault → Type 0
DialectJobIs view d text setup (Ok x) = IsDialectJob d text setup (view x)
DialectJobIs view d text setup (Err refusal) = IsRefusedAt d text setup refusal.setting refusal.fault
