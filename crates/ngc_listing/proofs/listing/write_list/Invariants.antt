use Rattle.std.proofs.Common.{◌≡◌, drop}
use Rattle.ngc_listing.specs.Listing.{listing, listing_from}
use Rattle.ngc_listing.proofs.Progress.{Progress}
use Rattle.ngc_listing.proofs.listing.write_list.Given as goal

abbrev pub invariant-loop-index : goal.invariant-loop-index
invariant-loop-index g l = record {
  progress : Progress (g.W.Sink.written l.initial.sink) (g.W.Sink.written l.sink) l.chunk (listing_from l.index l.step (drop l.index l.commands))
      (listing l.step l.commands);
  failures : g.W.Sink.failures l.sink ≡ g.W.Sink.failures l.initial.sink;
}
