use Rattle.std.proofs.Common.{rules, ℕ, Bool, ◌∙◌}
use Rattle.ngc_dialect_reader.proofs.TextBytes.{staying_text, skipped_text, visible_fault}
use Rattle.ngc_dialect_reader.proofs.text.add_plain.Goals as goal
use Rattle.ngc_dialect_reader.proofs.text.add_plain.Goals.{then-stays, else-stays+else-not-is_space}

pub loop-i-preserved : goal.loop-i-preserved
loop-i-preserved c =
    let before = c.loop-i.invariant in
    let line = c.args.line.now in
    let i = c.loop-i.i in
    record {
      after = search rules;
      within = search rules;
      room = elim c.if-stays.branch [ then-stays w ↦ search rules | else-stays+else-not-is_space w ↦ search rules ];
      text = elim c.if-stays.branch [
        | then-stays w ↦ rw (w.bytes-is, w.push.ensures.items)
            (staying_text line i c.loop-i-test.true (c.stays.ensures.kept w.if-stays.true) (c.stays.ensures.outside w.if-stays.true) c.loop-i.bytes.items ∙ before.text)
        | else-stays+else-not-is_space w ↦ rw w.bytes-is
            (skipped_text line i c.loop-i-test.true (w.is_space.ensures.skipped w.if-not-is_space.false) (w.is_space.ensures.outside w.if-not-is_space.false) c.loop-i.bytes.items ∙ before.text)
      ];
      fault = elim c.if-stays.branch [
        | then-stays w ↦ λ (closed : Bool) (opened : ℕ).
            visible_fault line i c.loop-i-test.true (c.stays.ensures.visible w.if-stays.true) (c.stays.ensures.outside w.if-stays.true) closed opened ∙ before.fault closed opened
        | else-stays+else-not-is_space w ↦ λ (closed : Bool) (opened : ℕ).
            visible_fault line i c.loop-i-test.true (w.is_space.ensures.visible w.if-not-is_space.false) (w.is_space.ensures.outside w.if-not-is_space.false) closed opened ∙ before.fault closed opened
      ];
    }
