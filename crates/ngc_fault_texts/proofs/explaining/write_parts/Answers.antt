use Rattle.std.proofs.Common.{rules}
use Rattle.std.proofs.lemmas.List.{at_drop_more}
use Rattle.ngc_fault_texts.specs.Explanations.{told}
use Rattle.ngc_fault_texts.proofs.WrittenProgress.{stopped, went_on}
use Rattle.ngc_fault_texts.proofs.explaining.write_parts.Goals as goal

pub returns-in-Err-clause-fault : goal.returns-in-Err-clause-fault
returns-in-Err-clause-fault g c =
    stopped _ _ _ _ _ _ _ (at_drop_more (told c.args.number) c.args.parts.now c.loop-part.part-index _ c.loop-part-test.true) c.loop-part.invariant.reached
    c.in-Err.ensures.fault

pub loop-part-preserved : goal.loop-part-preserved
loop-part-preserved g c = record {
  reached = went_on _ _ _ _ _ _ _ (at_drop_more (told c.args.number) c.args.parts.now c.loop-part.part-index _ c.loop-part-test.true)
      c.loop-part.invariant.reached c.in-Ok.ensures.ok;
  failures = search rules;
}
