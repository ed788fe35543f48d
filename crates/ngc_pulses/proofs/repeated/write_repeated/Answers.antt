use Rattle.std.proofs.Common.{arith, rules}
use Rattle.std.proofs.lemmas.Result.{on_ok_weaker, on_err_weaker}
use Rattle.ngc_pulses.proofs.CollectedText.{repeated_more, repeated_last, repeated_cut}
use Rattle.ngc_pulses.proofs.repeated.write_repeated.Goals as goal

pub returns-in-Err-clause-fault : goal.returns-in-Err-clause-fault
returns-in-Err-clause-fault g c =
    repeated_cut _ _ _ _ _ c.args.byte c.args.count c.pieces.left c.pieces.invariant.few c.pieces.invariant.text c.in-Err.ensures.fault

pub pieces-preserved : goal.pieces-preserved
pieces-preserved g c =
    let few = c.pieces.invariant.few in
    let length = c.next_length-length.ensures in
    record {
      few = omega (arith, few);
      text = repeated_more _ _ _ _ _ _ _ c.args.byte c.args.count c.pieces.left c.next_length-length.result few (omega (arith, length)) c.pieces.invariant.text
          c.in-Ok.ensures.ok c.add_repeated.ensures;
      failures = search rules;
    }

pub returns-clause-text : goal.returns-clause-text
returns-clause-text g c =
    on_ok_weaker c.make_space-2.result
    (repeated_last _ _ _ _ _ _ c.args.byte c.args.count c.pieces.left (omega (arith, c.pieces-test.false)) c.pieces.invariant.text) c.make_space-2.ensures.ok

pub returns-clause-fault : goal.returns-clause-fault
returns-clause-fault g c =
    on_err_weaker c.make_space-2.result
    (repeated_cut _ _ _ _ _ c.args.byte c.args.count c.pieces.left c.pieces.invariant.few c.pieces.invariant.text) c.make_space-2.ensures.fault
