use Rattle.std.proofs.Common.{◌∙◌, ◌++◌, inl, inr, ap, sym}
use Rattle.ngc_setup_sheet.specs.MistakeTexts.{section_text}
use Rattle.ngc_setup_sheet.specs.declared.mistake.Section.{Section}
use Rattle.ngc_setup_sheet.proofs.mistake_syntax.add_section.Goals as goal

pub returns-in-FirstFixture-clause-text : goal.returns-in-FirstFixture-clause-text
returns-in-FirstFixture-clause-text c = elim c.in-FirstFixture.is [
  | inl h ↦ c.add_numbered-in-FirstFixture.ensures.text ∙ ap (λ (s : Section). c.args.chunk.now ++ section_text s) (sym h)
  | inr h ↦ c.add_numbered-in-FirstFixture.ensures.text ∙ ap (λ (s : Section). c.args.chunk.now ++ section_text s) (sym h)
]

pub returns-in-FirstTool-clause-text : goal.returns-in-FirstTool-clause-text
returns-in-FirstTool-clause-text c = elim c.in-FirstTool.is [
  | inl h ↦ c.add_numbered.ensures.text ∙ ap (λ (s : Section). c.args.chunk.now ++ section_text s) (sym h)
  | inr h ↦ c.add_numbered.ensures.text ∙ ap (λ (s : Section). c.args.chunk.now ++ section_text s) (sym h)
]
