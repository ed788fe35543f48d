use Rattle.std.proofs.Common.{◌∙◌}
use Rattle.ngc_fault_texts.proofs.NumberSearch.{chosen, passed}
use Rattle.ngc_fault_texts.proofs.WrittenProgress.{left, stopped, went_on}
use Rattle.ngc_fault_texts.proofs.explaining.write_part.Goals as goal
use Rattle.ngc_fault_texts.proofs.explaining.write_part.Goals.{else-row-number, then-row-number+in-Ok}

pub returns-in-Err-clause-fault : goal.returns-in-Err-clause-fault
returns-in-Err-clause-fault g c =
    stopped _ _ _ _ _ _ _ (chosen c.args.number c.args.part.now c.args.part.now.rows.now c.loop-row.row-index _ c.loop-row-test.true c.if-row-number.true)
    c.loop-row.invariant.reached c.in-Err.ensures.fault

pub loop-row-preserved : goal.loop-row-preserved
loop-row-preserved g c =
    elim c.if-row-number.branch [
      | then-row-number+in-Ok w ↦ rw w.output-is (record {
        reached = went_on _ _ _ _ _ _ _
            (chosen c.args.number c.args.part.now c.args.part.now.rows.now c.loop-row.row-index _ c.loop-row-test.true w.if-row-number.true)
            c.loop-row.invariant.reached w.in-Ok.ensures.ok;
        failures = w.in-Ok.ensures.counts ∙ c.loop-row.invariant.failures;
      })
      | else-row-number w ↦ rw w.output-is (record {
        reached = left _ _ _ _ _
            (passed c.args.number c.args.part.now c.args.part.now.rows.now c.loop-row.row-index _ c.loop-row-test.true w.if-row-number.false)
            c.loop-row.invariant.reached;
        failures = c.loop-row.invariant.failures;
      })
    ]
