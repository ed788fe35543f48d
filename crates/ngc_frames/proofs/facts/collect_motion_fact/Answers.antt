use Rattle.std.proofs.Common.{[], ◌++◌, Ok, Err}
use Rattle.ngc_certificate_text.proofs.CollectedTexts.{longer}
use Rattle.ngc_collision.specs.Inside.{place_of}
use Rattle.ngc_frames.specs.Facts.{ends_fact, offsets_fact, zero_fact}
use Rattle.ngc_frames.proofs.CollectedTexts.{both, lined}
use Rattle.ngc_frames.proofs.facts.collect_motion_fact.Goals as goal

pub returns-in-Err-clause-text : goal.returns-in-Err-clause-text
returns-in-Err-clause-text g c = longer _ _ _ _ c.in-Err.ensures.fault

pub returns-in-Err-make_space-clause-text : goal.returns-in-Err-make_space-clause-text
returns-in-Err-make_space-clause-text g c =
    both (Err c.in-Err-make_space.fault) _ _ _ _ _ [] (zero_fact c.args.frame.now) (offsets_fact c.args.frame.now ++ ends_fact (place_of c.args.from.now) (place_of c.args.to.now))
    (lined _ _ _ _ _ _ c.in-Ok.ensures.ok c.add_zero.ensures) (longer _ _ _ _ c.in-Err-make_space.ensures.fault)

pub returns-in-Err-make_space-2-clause-text : goal.returns-in-Err-make_space-2-clause-text
returns-in-Err-make_space-2-clause-text g c =
    both (Err c.in-Err-make_space-2.fault) _ _ _ _ _ [] (zero_fact c.args.frame.now) (offsets_fact c.args.frame.now ++ ends_fact (place_of c.args.from.now) (place_of c.args.to.now))
    (lined _ _ _ _ _ _ c.in-Ok.ensures.ok c.add_zero.ensures)
    (both (Err c.in-Err-make_space-2.fault) _ _ _ _ _ [] (offsets_fact c.args.frame.now) (ends_fact (place_of c.args.from.now) (place_of c.args.to.now))
    (lined _ _ _ _ _ _ c.in-Ok-make_space.ensures.ok c.add_offsets.ensures) (longer _ _ _ _ c.in-Err-make_space-2.ensures.fault))

pub returns-clause-text : goal.returns-clause-text
returns-clause-text g c =
    both (Ok tt) _ _ _ _ _ _ (zero_fact c.args.frame.now) (offsets_fact c.args.frame.now ++ ends_fact (place_of c.args.from.now) (place_of c.args.to.now))
    (lined _ _ _ _ _ _ c.in-Ok.ensures.ok c.add_zero.ensures)
    (both (Ok tt) _ _ _ _ _ _ (offsets_fact c.args.frame.now) (ends_fact (place_of c.args.from.now) (place_of c.args.to.now))
    (lined _ _ _ _ _ _ c.in-Ok-make_space.ensures.ok c.add_offsets.ensures) (lined _ _ _ _ _ _ c.in-Ok-make_space-2.ensures.ok c.add_ends.ensures))
