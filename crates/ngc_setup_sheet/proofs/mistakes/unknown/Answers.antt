use Rattle.std.proofs.Common.{◌∙◌, ap, sym}
use Rattle.toml.specs.View.{view}
use Rattle.ngc_setup_sheet.specs.Asks.{unknown_in}
use Rattle.ngc_setup_sheet.specs.Mistakes.{keys_of}
use Rattle.ngc_setup_sheet.specs.declared.mistake.Section.{Section}
use Rattle.ngc_setup_sheet.proofs.mistakes.unknown.Goals as goal

pub returns-in-Machine : goal.returns-in-Machine
returns-in-Machine c = c.unknown_key.ensures ∙ ap (λ (s : Section). unknown_in (keys_of s) (view c.args.tree.now)) (sym c.in-Machine.is)
