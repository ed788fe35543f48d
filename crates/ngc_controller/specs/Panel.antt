-- The effective percentage. Our own.
use Rattle.std.specs.Prelude.{ℕ, if◌then◌else◌}
use Rattle.ngc_controller.specs.declared.panel.Panel.{Panel}

abbrev pub effective_at : Panel → ℕ
effective_at panel = if panel.overrides then panel.percent else 100
