use Rattle.std.proofs.Common.{ap, sym, ◌∙◌}
use Rattle.ngc_sentences.proofs.Said.{no_text, says_as}
use Rattle.ngc_setup_sheet.specs.Spelling.{line_text, lines_text}
use Rattle.ngc_setup_sheet.proofs.WarningsAlone.{told, untold}
use Rattle.ngc_setup_sheet.proofs.writer.say_if_warning.Goals as goal

pub returns-then-is_warning : goal.returns-then-is_warning
returns-then-is_warning g c =
    says_as c.say_line.ensures (ap line_text c.styled.ensures ∙ told c.args.style c.args.line.now (sym c.is_warning.ensures ∙ c.if-is_warning.true))

pub returns-else-is_warning : goal.returns-else-is_warning
returns-else-is_warning g c =
    says_as (no_text _ _ _) (ap lines_text (untold c.args.style c.args.line.now (sym c.is_warning.ensures ∙ c.if-is_warning.false)))
