use Rattle.std.proofs.Common.{◌≡◌}
use Rattle.ngc_certificate.specs.Made.{line_pieces_from}
use Rattle.ngc_certificate.proofs.divide.divide_line.Given as goal

abbrev pub invariant-loop-k : goal.invariant-loop-k
invariant-loop-k g l = l.pieces.items ≡ line_pieces_from l.step l.start l.end l.count 0 l.k
