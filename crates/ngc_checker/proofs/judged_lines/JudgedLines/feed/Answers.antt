use Rattle.std.proofs.Common.{◌≡◌, ◌++◌, ◌∙◌, sym, arith, Result, Ok, Err}
use Rattle.std.specs.Prelude.{IfOk}
use Rattle.ngc_certificate_text.specs.LinesView.{left_by, expected_in}
use Rattle.ngc_certificate_text.specs.LineContent.{IsNext}
use Rattle.ngc_certificate_text.specs.declared.line_content.LineContent.{LineContent}
use Rattle.ngc_certificate_text.specs.declared.expected.Expected.{Expected}
use Rattle.ngc_certificate_text.specs.Ahead.{IsSound}
use Rattle.ngc_checker.specs.declared.fault.CheckFault.{CheckFault}
use Rattle.ngc_checker.specs.Checked.{judged_by}
use Rattle.ngc_checker.specs.Judging.{JudgeData, MayJudge, IsAt}
use Rattle.ngc_checker.proofs.LineJudging.{may_judge, front_judged}
use Rattle.std.proofs.Common.{ℕ, subst, refl}
use Rattle.ngc_checker.proofs.judged_lines.JudgedLines.feed.Goals as goal

may_take : (e : Expected) (number : ℕ) (line_content : LineContent) (j : Result JudgeData CheckFault) → IsSound e number → IsNext e line_content →
    ((v : JudgeData) → j ≡ Ok v → IsAt e v) → IfOk j (λ v. MayJudge line_content v)
may_take e number line_content (Ok v) sound is at = may_judge e number line_content v sound is (at v refl)
may_take e number line_content (Err fault) sound is at = tt

pub take_line-requires : goal.take_line-requires
take_line-requires g c =
    let old = c.lines.self in
    let expected = rw c.in-Ok-Some.field-0-is at c.in-Ok-Some.ensures.expected in
    let reading = c.lines.invariant.reading in
    may_take (expected_in old.lines) old.lines.next.number c.in-Ok-Some.line_content old.judge reading.reading.sound expected.0 reading.at

pub lines-preserved : goal.lines-preserved
lines-preserved g c =
    let old = c.lines.self in
    let next = c.next.new.self in
    let line_content = c.in-Ok-Some.line_content in
    let step = rw c.in-Ok-Some.field-0-is at c.in-Ok-Some.ensures.step in
    let expected = rw c.in-Ok-Some.field-0-is at c.in-Ok-Some.ensures.expected in
    let room = rw c.in-Ok-Some.field-0-is at c.in-Ok-Some.ensures.room in
    record {
      text = λ lines parts rest.
          c.lines.invariant.text lines parts rest
          ∙ front_judged line_content (judged_by old.judge) (judged_by c.take_line.new.judge) (left_by lines old.lines (c.lines.rest.now ++ rest))
          (left_by lines next (c.in-Ok-Some.afterwards.now ++ rest))
          c.take_line.ensures.verdict (step lines parts rest);
      reading = record {
        reading = c.in-Ok-Some.ensures.reading;
        at = λ v is. subst (λ (e : Expected). IsAt e v) (sym expected.1)
            (c.take_line.ensures.at (expected_in old.lines) expected.0 c.lines.invariant.reading.at v is);
      };
      kept = c.take_line.ensures.kept ∙ c.lines.invariant.kept;
      room = omega (arith, room);
    }
