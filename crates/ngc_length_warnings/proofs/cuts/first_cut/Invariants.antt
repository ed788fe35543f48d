-- The first cut of the remaining commands that counts is that of all.
use Rattle.std.proofs.Common.{◌≡◌, ◌+◌, length}
use Rattle.std.specs.List.{find}
use Rattle.ngc_frames.specs.Walks.{WalksOver}
use Rattle.ngc_machine_files.specs.Machine.{file_of}
use Rattle.ngc_length_warnings.specs.Cuts.{bare_cuts, first_cut, is_counted}
use Rattle.ngc_length_warnings.proofs.cuts.first_cut.Given as goal

abbrev pub invariant-loop-command : goal.invariant-loop-command
invariant-loop-command g l = record {
  walks : WalksOver l.frames.start l.frames.changes.items l.walk;
  same : find (is_counted l.boxes (file_of l.machine)) (bare_cuts l.frames.start l.frames.changes.items l.index l.reached l.left)
      ≡ first_cut l.boxes (file_of l.machine) l.frames.start l.frames.changes.items l.commands;
  place : l.index + length l.left ≡ length l.commands;
}

abbrev pub decreases-loop-command : goal.decreases-loop-command
decreases-loop-command g l = length l.left
