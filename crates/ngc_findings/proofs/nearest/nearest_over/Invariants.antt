use Rattle.std.proofs.Common.{◌≡◌, drop}
use Rattle.std.specs.Prelude.{fold}
use Rattle.ngc_machine_files.specs.Machine.{file_of}
use Rattle.ngc_certificate_text.specs.Certificate.{entry_at}
use Rattle.ngc_findings.specs.Nearing.{nearer, over_pieces, over_motion}
use Rattle.ngc_findings.proofs.nearest.nearest_over.Given as goal

abbrev pub invariant-loop-k : goal.invariant-loop-k
invariant-loop-k g l =
    let entry = entry_at (g.M.MotionList.entries l.motions) l.i in
    fold nearer l.nearest (over_pieces (file_of l.machine) l.tool (drop l.k entry.pieces))
    ≡ fold nearer l.initial.nearest (over_motion (file_of l.machine) l.tool entry)
