-- The motions of a plan, for the commands and the step that are held with it. Our own.
use Rattle.std.specs.Prelude.{List}
use Rattle.ngc_certificate_text.specs.Certificate.{Entry}
use Rattle.ngc_certificate.specs.declared.planned_motions.PlannedMotions.{PlannedMotions}
use Rattle.ngc_certificate.specs.Planned.{planned}

abbrev pub planned_by : {A : Type 0} → PlannedMotions A → List Entry
planned_by m = planned m.step m.commands.now m.plan.now
