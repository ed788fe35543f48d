use Rattle.std.proofs.Common.{◌≡◌, ◌∙◌, ap, arith, to_z, of_z}
use Rattle.std.specs.Int.{w128}
use Rattle.std.proofs.lemmas.Int.{ints}
use Rattle.std.specs.Fmt.{signed_decimal}
use Rattle.ngc_sentences.proofs.Said.{says_as, then}
use Rattle.ngc_report.proofs.facts.say_distance.Goals as goal

pub returns : goal.returns
returns g c =
    let v0 : to_z w128 (of_z w128 c.args.nearest.now.distance) ≡ c.args.nearest.now.distance = omega (arith, ints) in
    rw (← c.from.ensures)
    (then (then (then (then c.say.ensures c.say_name.ensures) c.say-2.ensures) (says_as c.say-3.ensures (c.distance.ensures ∙ ap signed_decimal v0)))
    c.say-4.ensures)
