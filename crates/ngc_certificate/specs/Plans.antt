-- The plans of both settings of block delete. Our own.
use Rattle.std.specs.Prelude.{ℤ, List, Option, Some, None}
use Rattle.ngc_commands.specs.declared.command.Command.{Command}
use Rattle.ngc_certificate_text.specs.declared.piece.Setting.{Setting}
use Rattle.ngc_certificate_text.specs.declared.piece.Setting.TheVariants.{Off, On}
use Rattle.ngc_certificate_text.specs.Certificate.{CertificateData}
use Rattle.ngc_certificate.specs.declared.plan.Plan.{Plan}
use Rattle.ngc_certificate.specs.declared.plans.Plans.{Plans}
use Rattle.ngc_certificate.specs.Planned.{planned}

-- one plan serves both settings if there is no other
abbrev pub plan_or : {A : Type 0} → Plan A → Option (Plan A) → Plan A
plan_or off None = off
plan_or off (Some on) = on

abbrev pub plan_at : {A : Type 0} → Setting → Plans A → Plan A
plan_at Off plans = plans.off
plan_at On plans = plan_or plans.off plans.on

-- the motions of both settings, for their commands
abbrev pub both_planned : {A : Type 0} → ℤ → List Command → List Command → Plans A → CertificateData
both_planned step off on plans = record {
  off = planned step off (plan_at Off plans);
  on = planned step on (plan_at On plans);
}
