-- The rest of the source has the same result as the whole.
use Rattle.std.proofs.Common.{◌≡◌}
use Rattle.ngc_certificate_text.specs.ReaderView.{room_in, Goes}
use Rattle.ngc_certificate_text.proofs.read.read_form.Given as goal

abbrev pub invariant-loop-count : goal.invariant-loop-count
invariant-loop-count g l = record {
  text : Goes (g.R.Source.remaining l.initial.source) (g.R.Source.remaining l.source) l.reader;
  failures : g.R.Source.failures l.source ≡ g.R.Source.failures l.initial.source;
}

abbrev pub decreases-loop-count : goal.decreases-loop-count
decreases-loop-count g l = room_in l.reader
