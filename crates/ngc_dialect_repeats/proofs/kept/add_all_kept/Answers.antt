use Rattle.ngc_dialect_repeats.proofs.OneMore.{one_more_kept}
use Rattle.ngc_dialect_repeats.proofs.kept.add_all_kept.Goals as goal

pub loop-word-preserved : goal.loop-word-preserved
loop-word-preserved g c =
    one_more_kept c.args.kept c.args.words.now c.loop-word.word-index c.word-item.result _ _ _ _ c.loop-word-test.true c.word-item.is
    c.in-Ok.ensures c.loop-word.invariant
