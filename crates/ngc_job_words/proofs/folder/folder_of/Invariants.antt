use Rattle.std.proofs.Common.{◌≡◌, ◌≤◌, length, take}
use Rattle.ngc_job_words.specs.Folders.{folder_of}
use Rattle.ngc_job_words.proofs.folder.folder_of.Given as goal

abbrev pub invariant-loop-end : goal.invariant-loop-end
invariant-loop-end l = (l.end ≤ length l.name) × (folder_of l.name ≡ folder_of (take l.end l.name))

abbrev pub decreases-loop-end : goal.decreases-loop-end
decreases-loop-end l = l.end
