use Rattle.std.proofs.Common.{◌+◌, refl, arith}
use Rattle.ngc_events.proofs.ReadLaws.{line_taken, line_refused, line_unended, lines_many}
use Rattle.ngc_events.proofs.LineFeeds.{rest_of}
use Rattle.ngc_events.proofs.read.first_line.Goals as goal

pub returns-then-before-ge-LINE_LIMIT : goal.returns-then-before-ge-LINE_LIMIT
returns-then-before-ge-LINE_LIMIT c = lines_many (c.args.before + 1) c.args.text.now (omega arith) (omega arith)

pub returns-in-Some-event_in : goal.returns-in-Some-event_in
returns-in-Some-event_in c =
    let rest = rest_of c.args.text.now c.in-Some.end c.in-Some.ensures in (
      line_taken (c.args.before + 1) c.args.text.now _ _ c.in-Some.end c.in-Some-event_in.line
          (omega arith) c.in-Some.ensures refl rest.0 c.in-Some-event_in.ensures,
      rest.1,
    )

pub returns-in-None : goal.returns-in-None
returns-in-None c =
    line_refused (c.args.before + 1) c.args.text.now _ c.in-Some.end (omega arith) c.in-Some.ensures refl c.in-None.ensures

pub returns-in_default : goal.returns-in_default
returns-in_default c = line_unended (c.args.before + 1) c.args.text.now (omega arith) (omega arith) c.in_default.ensures
