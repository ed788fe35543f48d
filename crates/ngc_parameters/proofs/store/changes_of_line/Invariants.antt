-- The remaining settings have the same result as all of them.
use Rattle.std.proofs.Common.{◌≡◌, ◌≤◌, length, drop}
use Rattle.ngc_parameters.specs.EvaluateView.{held}
use Rattle.ngc_parameters.specs.Stored.{change_pairs, settings_after, settings_on}
use Rattle.ngc_parameters.proofs.store.changes_of_line.Given as goal

abbrev pub invariant-loop-raw : goal.invariant-loop-raw
invariant-loop-raw l = record {
  values : settings_after (held l.parameters) l.line.tokens.now (change_pairs l.changes.settings.items) (drop l.raw-index l.raw-items)
      ≡ settings_on (held l.parameters) l.line.tokens.now l.line.settings.now;
  count : length l.changes.settings.items ≤ l.raw-index;
}
