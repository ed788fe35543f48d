use Rattle.std.proofs.Common.{◌≡◌, false}
use Rattle.ngc_dialect_cycles.specs.declared.line.HoleKind.TheVariants.{Peck, BreakChips}
use Rattle.ngc_dialect_cycles.specs.Refusals.{bad_peck}
use Rattle.ngc_dialect_cycles.specs.Levels.{site_of}
use Rattle.ngc_dialect_cycles.proofs.Sound.{sound, pecks, back_length}
use Rattle.ngc_dialect_cycles.proofs.plan.Plan.peck.Goals as goal

pub peck_out-requires-clause-length : goal.peck_out-requires-clause-length
peck_out-requires-clause-length c =
    let h = sound c.args.self.now.series c.args.self.now.line c.requires.plan.sound in
    let good : bad_peck (Peck c.in-Peck.pecks) ≡ false = rw c.in-Peck.is at h.peck in
    let back = rw c.in-Peck.is at h.back in
    rw c.site-site.ensures (back_length (site_of c.args.self.now.series c.args.self.now.line c.args.hole) c.in-Peck.pecks c.args.peck (pecks c.in-Peck.pecks good)
    h.order h.bottom h.retract back)

pub peck_back-requires-clause-length : goal.peck_back-requires-clause-length
peck_back-requires-clause-length c =
    let h = sound c.args.self.now.series c.args.self.now.line c.requires.plan.sound in
    let good : bad_peck (BreakChips c.in-BreakChips.pecks) ≡ false = rw c.in-BreakChips.is at h.peck in
    let back = rw c.in-BreakChips.is at h.back in
    rw c.site-site.ensures (back_length (site_of c.args.self.now.series c.args.self.now.line c.args.hole) c.in-BreakChips.pecks c.args.peck (pecks c.in-BreakChips.pecks good)
    h.order h.bottom h.retract back)
