-- The rest of the source has the same result as the whole.
use Rattle.std.proofs.Common.{◌≡◌}
use Rattle.ngc_checker.specs.CheckView.{accepted_in, outcome_in, room_in}
use Rattle.ngc_checker.proofs.SourceLaws.{Goes}
use Rattle.ngc_checker.proofs.read.check_pulled.Given as goal

abbrev pub invariant-loop-count : goal.invariant-loop-count
invariant-loop-count g l = record {
  text : Goes (outcome_in l.initial.reader) (g.S.Source.remaining l.initial.source) (g.S.Source.remaining l.source) (outcome_in l.reader);
  kept : accepted_in l.reader ≡ accepted_in l.initial.reader;
  failures : g.S.Source.failures l.source ≡ g.S.Source.failures l.initial.source;
}

abbrev pub decreases-loop-count : goal.decreases-loop-count
decreases-loop-count g l = room_in l.reader
