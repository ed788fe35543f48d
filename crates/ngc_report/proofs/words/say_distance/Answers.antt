use Rattle.std.proofs.Common.{◌≡◌, ◌∙◌, ap, arith, to_z, of_z}
use Rattle.std.specs.Int.{w128}
use Rattle.std.proofs.lemmas.Int.{ints}
use Rattle.ngc_sentences.proofs.Said.{says_as, then}
use Rattle.ngc_text.specs.Millimetres.{mm_text}
use Rattle.ngc_report.proofs.words.say_distance.Goals as goal

pub returns : goal.returns
returns g c =
    let v0 : to_z w128 (of_z w128 c.args.nearest.now.distance) ≡ c.args.nearest.now.distance = omega (arith, ints) in
    rw (← c.from.ensures)
    (then (then (then (then c.say.ensures c.say_bracketed.ensures) c.say-2.ensures) (says_as c.say-3.ensures (c.distance.ensures ∙ ap mm_text v0)))
    c.say-4.ensures)
