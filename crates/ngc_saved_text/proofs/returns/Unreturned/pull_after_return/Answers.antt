use Rattle.std.proofs.Common.{arith}
use Rattle.ngc_saved_text.proofs.HeldLaws.{at_byte, at_end, at_feed, at_return, first_set, one_taken}
use Rattle.ngc_saved_text.proofs.returns.Unreturned.pull_after_return.Goals as goal

pub returns-then-count-eq0-clause-bytes : goal.returns-then-count-eq0-clause-bytes
returns-then-count-eq0-clause-bytes g c = (
  at_end _ _ _ _ _ _ c.requires.held c.in_ok-count.ensures.bytes.0 c.if-count-eq0.true
      (c.in_ok-count.ensures.bytes.1 c.if-count-eq0.true (omega (arith, c.pull.auto.buf))) (first_set c.args.buf.now 13 c.requires.room),
  λ e l. absurd (omega (arith, e)),
)

pub returns-then-byte-eq10-clause-bytes : goal.returns-then-byte-eq10-clause-bytes
returns-then-byte-eq10-clause-bytes g c = (
  at_feed _ _ _ _ _ _ c.requires.held c.in_ok-count.ensures.bytes.0
      (one_taken c.pull.new.buf _ (omega (arith, c.pull.auto.buf)) c.in_ok-count.ensures.bound c.if-count-eq0.false)
      c.if-byte-eq10.true (first_set c.args.buf.now 10 c.requires.room),
  λ e l. absurd (omega (arith, e)),
)

pub returns-then-byte-eq13-clause-bytes : goal.returns-then-byte-eq13-clause-bytes
returns-then-byte-eq13-clause-bytes g c = (
  at_return _ _ _ _ _ _ c.requires.held c.in_ok-count.ensures.bytes.0
      (one_taken c.pull.new.buf _ (omega (arith, c.pull.auto.buf)) c.in_ok-count.ensures.bound c.if-count-eq0.false)
      c.if-byte-eq13.true (first_set c.args.buf.now 13 c.requires.room),
  λ e l. absurd (omega (arith, e)),
)

pub returns-else-byte-eq13-clause-bytes : goal.returns-else-byte-eq13-clause-bytes
returns-else-byte-eq13-clause-bytes g c = (
  at_byte _ _ _ _ _ _ c.requires.held c.in_ok-count.ensures.bytes.0
      (one_taken c.pull.new.buf _ (omega (arith, c.pull.auto.buf)) c.in_ok-count.ensures.bound c.if-count-eq0.false)
      (first_set c.args.buf.now 13 c.requires.room) c.if-byte-eq10.false c.if-byte-eq13.false,
  λ e l. absurd (omega (arith, e)),
)
