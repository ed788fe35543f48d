use Rattle.std.proofs.Common.{rules, arith, sym, ◌∙◌}
use Rattle.ngc_certificate_text.specs.Order.{items_in}
use Rattle.ngc_certificate_text.specs.Spelling.{item_lines}
use Rattle.ngc_certificate_text.proofs.CollectedTexts.{one_more, stopped_at}
use Rattle.ngc_certificate_text.proofs.EntryOrder.{turn, off_behind, on_behind}
use Rattle.ngc_certificate_text.proofs.write.write_entries.Goals as goal

pub entry_there-indices-requires : goal.entry_there-indices-requires
entry_there-indices-requires g c =
    (turn c.args.order.now (g.M.MotionList.entries c.args.off.now) (g.M.MotionList.entries c.args.on.now) c.loop-kind.kind-index c.loop-kind.passed c.requires c.loop-kind-test.true
    c.loop-kind.invariant.rest).may

pub returns-in-Err-clause-text : goal.returns-in-Err-clause-text
returns-in-Err-clause-text g c =
    let t = turn c.args.order.now (g.M.MotionList.entries c.args.off.now) (g.M.MotionList.entries c.args.on.now) c.loop-kind.kind-index c.loop-kind.passed c.requires c.loop-kind-test.true
    c.loop-kind.invariant.rest in
    stopped_at item_lines (items_in c.args.order.now (g.M.MotionList.entries c.args.off.now) (g.M.MotionList.entries c.args.on.now)) c.loop-kind.kind-index _ _ _ _ _ _ t.inside
    (c.entry_there-indices.ensures.is ∙ sym (t.is _)) c.loop-kind.invariant.front c.in-Err.ensures.text

pub after_entry-passed-requires-clause-off : goal.after_entry-passed-requires-clause-off
after_entry-passed-requires-clause-off g c = omega (arith, c.loop-kind.invariant.off, c.loop-kind-test.true)

pub after_entry-passed-requires-clause-on : goal.after_entry-passed-requires-clause-on
after_entry-passed-requires-clause-on g c = omega (arith, c.loop-kind.invariant.on, c.loop-kind-test.true)

pub loop-kind-preserved : goal.loop-kind-preserved
loop-kind-preserved g c =
    let t = turn c.args.order.now (g.M.MotionList.entries c.args.off.now) (g.M.MotionList.entries c.args.on.now) c.loop-kind.kind-index c.loop-kind.passed c.requires c.loop-kind-test.true
    c.loop-kind.invariant.rest in
    let afterwards = c.after_entry-passed.ensures in
    record {
      front = one_more item_lines (items_in c.args.order.now (g.M.MotionList.entries c.args.off.now) (g.M.MotionList.entries c.args.on.now)) c.loop-kind.kind-index _ _ _ _ _ _ _ t.inside
          (c.entry_there-indices.ensures.is ∙ sym (t.is _)) c.loop-kind.invariant.front c.in-Ok.ensures.text;
      failures = search rules;
      off = rw afterwards (off_behind _ c.loop-kind.passed c.loop-kind.kind-index c.loop-kind.invariant.off);
      on = rw afterwards (on_behind _ c.loop-kind.passed c.loop-kind.kind-index c.loop-kind.invariant.on);
      rest = rw afterwards t.rest;
    }
