use Rattle.std.proofs.Common.{[], ◌++◌, Ok, Err}
use Rattle.ngc_certificate_text.proofs.CollectedTexts.{longer}
use Rattle.ngc_collision.specs.Inside.{place_of}
use Rattle.ngc_frames.specs.Words.{goes_words, lengths_words, zero_words}
use Rattle.ngc_frames.proofs.CollectedTexts.{both, lined}
use Rattle.ngc_frames.proofs.words.collect_motion_words.Goals as goal

pub returns-in-Err-clause-text : goal.returns-in-Err-clause-text
returns-in-Err-clause-text g c = longer _ _ _ _ c.in-Err.ensures.fault

pub returns-in-Err-make_space-clause-text : goal.returns-in-Err-make_space-clause-text
returns-in-Err-make_space-clause-text g c =
    both (Err c.in-Err-make_space.fault) _ _ _ _ _ [] (goes_words c.args.frame.now (place_of c.args.from.now) (place_of c.args.to.now))
    (zero_words c.args.given c.args.frame.now ++ lengths_words c.args.frame.now)
    (lined _ _ _ _ _ _ c.in-Ok.ensures.ok c.add_goes.ensures) (longer _ _ _ _ c.in-Err-make_space.ensures.fault)

pub returns-in-Err-make_space-2-clause-text : goal.returns-in-Err-make_space-2-clause-text
returns-in-Err-make_space-2-clause-text g c =
    both (Err c.in-Err-make_space-2.fault) _ _ _ _ _ [] (goes_words c.args.frame.now (place_of c.args.from.now) (place_of c.args.to.now))
    (zero_words c.args.given c.args.frame.now ++ lengths_words c.args.frame.now)
    (lined _ _ _ _ _ _ c.in-Ok.ensures.ok c.add_goes.ensures)
    (both (Err c.in-Err-make_space-2.fault) _ _ _ _ _ [] (zero_words c.args.given c.args.frame.now) (lengths_words c.args.frame.now)
    (lined _ _ _ _ _ _ c.in-Ok-make_space.ensures.ok c.add_zero.ensures) (longer _ _ _ _ c.in-Err-make_space-2.ensures.fault))

pub returns-clause-text : goal.returns-clause-text
returns-clause-text g c =
    both (Ok tt) _ _ _ _ _ _ (goes_words c.args.frame.now (place_of c.args.from.now) (place_of c.args.to.now)) (zero_words c.args.given c.args.frame.now ++ lengths_words c.args.frame.now)
    (lined _ _ _ _ _ _ c.in-Ok.ensures.ok c.add_goes.ensures)
    (both (Ok tt) _ _ _ _ _ _ (zero_words c.args.given c.args.frame.now) (lengths_words c.args.frame.now)
    (lined _ _ _ _ _ _ c.in-Ok-make_space.ensures.ok c.add_zero.ensures) (lined _ _ _ _ _ _ c.in-Ok-make_space-2.ensures.ok c.add_lengths.ensures))
