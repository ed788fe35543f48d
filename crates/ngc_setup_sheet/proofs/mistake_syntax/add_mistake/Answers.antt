use Rattle.std.proofs.Common.{ℕ, ◌∙◌, ◌++◌, ap, sym, codes}
use Rattle.std.specs.Prelude.{decimal}
use Rattle.ngc_setup_sheet.specs.MistakeTexts.{mistake_text}
use Rattle.ngc_setup_sheet.specs.declared.mistake.Mistake.{Mistake}
use Rattle.ngc_setup_sheet.proofs.mistake_syntax.add_mistake.Goals as goal

pub returns-in-Other : goal.returns-in-Other
returns-in-Other c =
    c.add_numbered.ensures.text
    ∙ ap (λ (n : ℕ). c.args.chunk.now ++ (codes "The fault is " ++ decimal n ++ codes ".\n")) c.number.ensures
    ∙ ap (λ (m : Mistake). c.args.chunk.now ++ mistake_text c.args.bytes.now m) (sym c.in-Other.is)
