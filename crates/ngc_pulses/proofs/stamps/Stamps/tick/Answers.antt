use Rattle.ngc_pulses.proofs.AddedChanges.{adds_both}
use Rattle.ngc_pulses.proofs.stamps.Stamps.tick.Goals as goal

pub returns-clause-adds : goal.returns-clause-adds
returns-clause-adds c =
    adds_both _ _ _ _ _ _ _ _ _ _ c.turns.ensures.rate c.turns.ensures.adds
    (adds_both _ _ _ _ _ _ _ _ _ _ c.levels.ensures.rate c.levels.ensures.adds c.levels-2.ensures.adds)
