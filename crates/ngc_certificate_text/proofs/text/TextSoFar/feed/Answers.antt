use Rattle.std.proofs.Common.{◌≡◌, ◌++◌, ◌∙◌, arith}
use Rattle.ngc_certificate_text.specs.Found.{with_line, read_so_far}
use Rattle.ngc_certificate_text.specs.LinesView.{left_by, expected_in}
use Rattle.ngc_certificate_text.proofs.AddedLines.{told_leads, told_expects}
use Rattle.ngc_certificate_text.proofs.text.TextSoFar.feed.Goals as goal

pub lines-preserved : goal.lines-preserved
lines-preserved g c =
    let old = c.lines.self in
    let next = c.next.new.self in
    let line_content = c.in-Ok-Some.line_content in
    let step = rw c.in-Ok-Some.field-0-is at c.in-Ok-Some.ensures.step in
    let expected = rw c.in-Ok-Some.field-0-is at c.in-Ok-Some.ensures.expected in
    let room = rw c.in-Ok-Some.field-0-is at c.in-Ok-Some.ensures.room in
    let hears : read_so_far c.take.new.self ≡ with_line line_content (read_so_far old.found) = c.in-Ok.ensures.with_line in
    record {
      text = λ lines parts rest.
          c.lines.invariant.text lines parts rest
          ∙ told_leads (expected_in old.lines) (expected_in next) line_content (read_so_far old.found) (read_so_far c.take.new.self)
          (left_by lines old.lines (c.lines.rest.now ++ rest)) (left_by lines next (c.in-Ok-Some.afterwards.now ++ rest))
          expected.0 c.lines.invariant.reading.expecting expected.1 hears (step lines parts rest);
      reading = record {
        reading = c.in-Ok-Some.ensures.reading;
        expecting = told_expects (expected_in old.lines) (expected_in next) line_content (read_so_far old.found)
            (read_so_far c.take.new.self) expected.0 expected.1 hears c.lines.invariant.reading.expecting;
        kept = c.in-Ok.ensures.kept;
      };
      room = omega (arith, room);
    }
