use Rattle.std.proofs.Common.{◌≡◌, drop}
use Rattle.ngc_word_warnings.specs.Slips.{stale_feed}
use Rattle.ngc_word_warnings.proofs.slips.stale_feed.Given as goal

abbrev pub invariant-loop-command : goal.invariant-loop-command
invariant-loop-command l =
    stale_feed l.tools l.number l.before (drop l.command-index l.commands) ≡ stale_feed l.tools l.number l.initial.before l.commands
