use Rattle.std.proofs.Common.{rules, take, drop, sym}
use Rattle.std.proofs.lemmas.List.{take-append-drop}
use Rattle.ngc_text.proofs.AppendedTexts.{appends_more, within_rest, appends_kept}
use Rattle.ngc_text.proofs.writing.write_all.Goals as goal

pub loop-done-preserved : goal.loop-done-preserved
loop-done-preserved g c =
    (within_rest _ _ _ c.loop-done.invariant.0 c.in-Ok.ensures.bound, appends_more _ _ _ _ _ _ c.loop-done.invariant.1 c.in-Ok.ensures.bytes, search rules)

pub returns-in-Err-clause-fault : goal.returns-in-Err-clause-fault
returns-in-Err-clause-fault g c = (
  take c.loop-done.done c.args.text.now,
  drop c.loop-done.done c.args.text.now,
  sym (take-append-drop c.loop-done.done c.args.text.now),
  appends_kept _ _ _ _ c.loop-done.invariant.1 c.in-Err.ensures.bytes,
)
