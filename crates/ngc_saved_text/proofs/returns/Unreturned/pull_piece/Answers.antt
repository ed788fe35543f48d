use Rattle.ngc_saved_text.proofs.HeldLaws.{only_return, piece_given, read_on, return_given}
use Rattle.ngc_saved_text.proofs.returns.Unreturned.pull_piece.Goals as goal

pub returns-then-buf-taken-ne13-clause-bytes : goal.returns-then-buf-taken-ne13-clause-bytes
returns-then-buf-taken-ne13-clause-bytes g c =
    piece_given _ _ _ c.pull.new.buf c.leave_out_returns.new.bytes _ _ c.requires.held c.in_ok-taken.ensures.bound c.if-taken-eq0.false
    c.in_ok-taken.ensures.bytes.0 c.if-buf-taken-ne13.true c.leave_out_returns.ensures.bound c.leave_out_returns.ensures.front _

pub returns-then-taken-eq1-clause-bytes : goal.returns-then-taken-eq1-clause-bytes
returns-then-taken-eq1-clause-bytes g c =
    read_on _ _ _ _ _
    (only_return _ _ _ c.pull.new.buf _ c.requires.held c.in_ok-taken.ensures.bound c.if-taken-eq1.true c.in_ok-taken.ensures.bytes.0 c.if-buf-taken-ne13.false)
    c.pull_after_return.ensures.bytes

pub returns-clause-bytes : goal.returns-clause-bytes
returns-clause-bytes g c =
    return_given _ _ _ c.pull.new.buf c.leave_out_returns-2.new.bytes _ _ c.requires.held c.in_ok-taken.ensures.bound c.if-taken-eq0.false c.if-taken-eq1.false
    c.in_ok-taken.ensures.bytes.0 c.if-buf-taken-ne13.false c.leave_out_returns-2.ensures.bound c.leave_out_returns-2.ensures.front _
