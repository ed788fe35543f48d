use Rattle.std.proofs.Common.{◌≡◌, drop}
use Rattle.ngc_word_warnings.specs.Slips.{bare_feed}
use Rattle.ngc_word_warnings.proofs.slips.bare_feed.Given as goal

abbrev pub invariant-loop-command : goal.invariant-loop-command
invariant-loop-command l = bare_feed l.before (drop l.command-index l.commands) ≡ bare_feed l.initial.before l.commands
