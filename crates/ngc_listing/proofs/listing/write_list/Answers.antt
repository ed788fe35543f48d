use Rattle.std.proofs.Common.{rules}
use Rattle.std.proofs.lemmas.Result.{on_ok_weaker, on_err_weaker}
use Rattle.ngc_listing.proofs.Progress.{wrote_front, one_more, no_rest, stopped, finished}
use Rattle.ngc_listing.proofs.listing.write_list.Goals as goal

pub returns-in-Err-clause-fault : goal.returns-in-Err-clause-fault
returns-in-Err-clause-fault g c = stopped _ _ _ _ _ _ c.loop-index.invariant.progress c.in-Err.ensures.fault

pub loop-index-preserved : goal.loop-index-preserved
loop-index-preserved g c = record {
  progress =
      one_more _ _ c.args.step c.args.commands.now c.loop-index.index _ _ _ _ c.loop-index-test.true c.index-commands-index.is
      (wrote_front _ _ _ _ _ _ _ c.loop-index.invariant.progress c.in-Ok.ensures.ok) c.add_line.ensures;
  failures = search rules;
}

pub returns-clause-fault : goal.returns-clause-fault
returns-clause-fault g c = on_err_weaker c.write_out.result (stopped _ _ _ _ _ _ c.loop-index.invariant.progress) c.write_out.ensures.fault

pub returns-clause-ok : goal.returns-clause-ok
returns-clause-ok g c =
    on_ok_weaker c.write_out.result
    (finished _ _ _ _ _ _ (no_rest c.args.step c.args.commands.now c.loop-index.index c.loop-index-test.false) c.loop-index.invariant.progress)
    c.write_out.ensures.ok
