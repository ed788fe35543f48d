use Rattle.std.proofs.Common.{◌≡◌, ◌++◌, flat_map, take}
use Rattle.ngc_text.specs.Collected.{WritesPrefix}
use Rattle.ngc_certificate_text.specs.Certificate.{entry_at}
use Rattle.ngc_certificate_text.specs.Spelling.{piece_line}
use Rattle.ngc_certificate_text.proofs.write.write_pieces.Given as goal

abbrev pub invariant-loop-k : goal.invariant-loop-k
invariant-loop-k g l = record {
  front : WritesPrefix (g.W.Sink.written l.initial.sink) (g.W.Sink.written l.sink)
      (l.initial.chunk ++ flat_map piece_line (take l.k (entry_at (g.M.MotionList.entries l.motions) l.i).pieces)) l.chunk;
  failures : g.W.Sink.failures l.sink ≡ g.W.Sink.failures l.initial.sink;
}
