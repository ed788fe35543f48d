use Rattle.std.proofs.Common.{◌≡◌, ◌∙◌, ◌<◌, sym, arith, take, length, get_or}
use Rattle.std.proofs.lemmas.List.{get_or-take, length-take-le}
use Rattle.ngc_certificate_text.specs.Certificate.{Entry, entry_at}
use Rattle.ngc_certificate_text.proofs.WrittenCertificate.{entry_there}
use Rattle.ngc_machine_files.specs.Machine.{file_of}
use Rattle.ngc_findings.specs.Nearing.{over_motion}
use Rattle.ngc_findings.proofs.Folds.{next_of}
use Rattle.ngc_findings.proofs.nearest.Nearest.over.Goals as goal

pub loop-i-preserved : goal.loop-i-preserved
loop-i-preserved g c =
    let entries = g.M.MotionList.entries c.args.motions.now in
    let e : Entry = entry_at entries c.loop-i.i in
    let count = length-take-le c.args.end entries c.requires in
    let inside : c.loop-i.i < length (take c.args.end entries) = omega (arith, count) in
    let whole : c.loop-i.i < length entries = omega (arith, c.requires) in
    let here : get_or (take c.args.end entries) c.loop-i.i e ≡ e =
    get_or-take c.args.end entries c.loop-i.i e c.loop-i-test.true ∙ sym (entry_there entries c.loop-i.i whole) in
    rw c.nearest_over-nearest.ensures
    (next_of (over_motion (file_of c.args.machine.now) c.args.tool.now) c.loop-i.nearest (take c.args.end entries) c.loop-i.i e inside (sym here)
    ∙ c.loop-i.invariant)
