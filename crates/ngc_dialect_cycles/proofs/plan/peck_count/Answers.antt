use Rattle.std.proofs.Common.{◌≡◌, false}
use Rattle.ngc_dialect_cycles.specs.declared.line.HoleKind.TheVariants.{Peck, BreakChips}
use Rattle.ngc_dialect_cycles.specs.Refusals.{bad_peck}
use Rattle.ngc_dialect_cycles.proofs.Sound.{sound, pecks}
use Rattle.ngc_dialect_cycles.proofs.plan.peck_count.Goals as goal

pub pecks_over-requires : goal.pecks_over-requires
pecks_over-requires c =
    let h = sound c.args.series.now c.args.line.now c.requires.sound in
    let good : bad_peck (Peck c.in-Peck.pecks) ≡ false = rw c.in-Peck.is at h.peck in
    (pecks c.in-Peck.pecks good).depth

pub pecks_over-requires-in-BreakChips : goal.pecks_over-requires-in-BreakChips
pecks_over-requires-in-BreakChips c =
    let h = sound c.args.series.now c.args.line.now c.requires.sound in
    let good : bad_peck (BreakChips c.in-BreakChips.pecks) ≡ false = rw c.in-BreakChips.is at h.peck in
    (pecks c.in-BreakChips.pecks good).depth
