use Rattle.std.proofs.Common.{◌∙◌, ap, sym}
use Rattle.toml.specs.View.{view}
use Rattle.ngc_setup_sheet.specs.Mistakes.{rows_of, unmet}
use Rattle.ngc_setup_sheet.specs.declared.mistake.Section.{Section}
use Rattle.ngc_setup_sheet.proofs.rows.unmet.Goals as goal

pub returns-in-Machine : goal.returns-in-Machine
returns-in-Machine c = c.unmet_of.ensures ∙ ap (λ (s : Section). unmet c.args.fault (view c.args.tree.now) (rows_of s)) (sym c.in-Machine.is)
