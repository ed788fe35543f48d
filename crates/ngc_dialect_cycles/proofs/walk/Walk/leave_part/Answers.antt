use Rattle.std.proofs.Common.{◌≡◌, ◌+◌, ◌++◌, sym, ◌∙◌, ap}
use Rattle.ngc_dialect_cycles.specs.Levels.{site_of}
use Rattle.ngc_dialect_cycles.specs.Holes.{peck_count}
use Rattle.ngc_dialect_cycles.specs.Walk.{after_part, from_hole}
use Rattle.ngc_dialect_cycles.proofs.Joined.{same_count, done, after_pecks, hole_begins}
use Rattle.ngc_dialect_cycles.proofs.walk.Walk.leave_part.Goals as goal

pub returns-in-Arrival-clause-left : goal.returns-in-Arrival-clause-left
returns-in-Arrival-clause-left c =
    let w = c.args.self.now in
    let s = w.plan.series in
    let l = w.plan.line in
    let count : w.plan.pecks ≡ peck_count s.kind (site_of s l w.hole) = ap (λ p. p.pecks) c.requires.plan.plan ∙ same_count s.kind s l w.hole in
    let old = done s l w.hole w.part w.index c.requires.hole c.requires.done ∙ ap (λ part. after_part s l w.hole part ++ from_hole s l (w.hole + 1)) c.in-Arrival.is in
    rw (c.next_part-self.ensures, count) (after_pecks s l w.hole 0 c.requires.hole ∙ sym old)

pub returns-in-OnePeck-clause-left : goal.returns-in-OnePeck-clause-left
returns-in-OnePeck-clause-left c =
    let w = c.args.self.now in
    let s = w.plan.series in
    let l = w.plan.line in
    let count : w.plan.pecks ≡ peck_count s.kind (site_of s l w.hole) = ap (λ p. p.pecks) c.requires.plan.plan ∙ same_count s.kind s l w.hole in
    let old = done s l w.hole w.part w.index c.requires.hole c.requires.done ∙ ap (λ part. after_part s l w.hole part ++ from_hole s l (w.hole + 1)) c.in-OnePeck.is in
    rw (c.next_part-self-in-OnePeck.ensures, count) (after_pecks s l w.hole c.in-OnePeck.peck c.requires.hole ∙ sym old)

pub returns-in-Ending-clause-left : goal.returns-in-Ending-clause-left
returns-in-Ending-clause-left c =
    let w = c.args.self.now in
    let s = w.plan.series in
    let l = w.plan.line in
    let old = done s l w.hole w.part w.index c.requires.hole c.requires.done ∙ ap (λ part. after_part s l w.hole part ++ from_hole s l (w.hole + 1)) c.in-Ending.is in
    hole_begins s l (w.hole + 1) ∙ sym old
