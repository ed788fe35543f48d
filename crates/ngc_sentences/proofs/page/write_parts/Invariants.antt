use Rattle.std.proofs.Common.{◌≡◌, ◌++◌, flat_map, take}
use Rattle.ngc_text.specs.Collected.{WritesPrefix}
use Rattle.ngc_sentences.specs.Parts.{part_text}
use Rattle.ngc_sentences.proofs.page.write_parts.Given as goal

abbrev pub invariant-loop-part : goal.invariant-loop-part
invariant-loop-part g l = record {
  front : WritesPrefix (g.W.Sink.written l.initial.sink) (g.W.Sink.written l.sink) (l.initial.chunk ++ flat_map part_text (take l.part-index l.parts)) l.chunk;
  failures : g.W.Sink.failures l.sink ≡ g.W.Sink.failures l.initial.sink;
}
