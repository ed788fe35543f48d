-- The bytes read so far are those that the source lost, and within the limit.
use Rattle.std.proofs.Common.{◌≡◌, ◌+◌, ◌-◌, ◌≤◌, vec_len}
use Rattle.std.specs.Io.KnownBytes.{Consumes}
use Rattle.ngc_text.proofs.reading.read_whole.Given as goal

abbrev pub invariant-loop-count : goal.invariant-loop-count
invariant-loop-count g l = record {
  read : Consumes (g.R.Source.remaining l.initial.source) (g.R.Source.remaining l.source) l.bytes.items;
  within : vec_len l.bytes ≤ l.limit;
  failures : g.R.Source.failures l.source ≡ g.R.Source.failures l.initial.source;
}

abbrev pub decreases-loop-count : goal.decreases-loop-count
decreases-loop-count g l = l.limit + 1 - vec_len l.bytes
