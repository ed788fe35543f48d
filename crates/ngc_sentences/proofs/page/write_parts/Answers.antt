use Rattle.std.proofs.Common.{rules, []}
use Rattle.ngc_sentences.proofs.CollectedTexts.{one_more_at, stopped_at_one}
use Rattle.ngc_sentences.specs.Parts.{part_text}
use Rattle.ngc_sentences.specs.declared.part.Part.{Part}
use Rattle.ngc_sentences.specs.declared.part.Part.TheVariants.{Text}
use Rattle.ngc_sentences.proofs.page.write_parts.Goals as goal

abbrev no_part : Part
no_part = Text (record { ref_ptr = (0, 0); now = [] })

pub returns-in-Err-clause-text : goal.returns-in-Err-clause-text
returns-in-Err-clause-text g c =
    stopped_at_one no_part part_text c.args.parts.now c.loop-part.part-index _ _ _ _ _ c.loop-part-test.true c.loop-part.invariant.front
    c.in-Err.ensures.text

pub loop-part-preserved : goal.loop-part-preserved
loop-part-preserved g c = record {
  front = one_more_at no_part part_text c.args.parts.now c.loop-part.part-index _ _ _ _ _ _ c.loop-part-test.true c.loop-part.invariant.front
      c.in-Ok.ensures.text;
  failures = search rules;
}
