use Rattle.std.proofs.Common.{rules}
use Rattle.std.proofs.lemmas.List.{at_drop_more}
use Rattle.ngc_fault_texts.specs.Explanations.{all_of}
use Rattle.ngc_fault_texts.proofs.WrittenProgress.{stopped, went_on}
use Rattle.ngc_fault_texts.proofs.explaining.write_texts.Goals as goal

pub returns-in-Err-clause-fault : goal.returns-in-Err-clause-fault
returns-in-Err-clause-fault g c =
    stopped _ _ _ _ _ _ _ (at_drop_more all_of c.args.texts.now c.loop-text.text-index _ c.loop-text-test.true) c.loop-text.invariant.reached
    c.in-Err.ensures.fault

pub loop-text-preserved : goal.loop-text-preserved
loop-text-preserved g c = record {
  reached = went_on _ _ _ _ _ _ _ (at_drop_more all_of c.args.texts.now c.loop-text.text-index _ c.loop-text-test.true) c.loop-text.invariant.reached
      c.in-Ok.ensures.ok;
  failures = search rules;
}
