use Rattle.std.proofs.Common.{get_or, w64, SFits, rules}
use Rattle.std.specs.Prelude.{pos}
use Rattle.std.proofs.lemmas.Int.{to_z-of_z}
use Rattle.ngc_certificate_text.proofs.StepLemmas.{box_is_said}
use Rattle.ngc_certificate_text.proofs.lines.box_in.Goals as goal

pub returns-in-len6 : goal.returns-in-len6
returns-in-len6 c =
    let f0 : SFits w64 (get_or c.args.numbers.now 0 (pos 0)) = search rules in
    let f1 : SFits w64 (get_or c.args.numbers.now 1 (pos 0)) = search rules in
    let f2 : SFits w64 (get_or c.args.numbers.now 2 (pos 0)) = search rules in
    let f3 : SFits w64 (get_or c.args.numbers.now 3 (pos 0)) = search rules in
    let f4 : SFits w64 (get_or c.args.numbers.now 4 (pos 0)) = search rules in
    let f5 : SFits w64 (get_or c.args.numbers.now 5 (pos 0)) = search rules in
    box_is_said c.args.numbers.now _ _ _ _ _ _ c.corner.result c.corner-in-len6.result c.box_between.result c.in-len6.len_at_least c.in-len6.len_below
    (to_z-of_z w64 _ f0) (to_z-of_z w64 _ f1) (to_z-of_z w64 _ f2) (to_z-of_z w64 _ f3) (to_z-of_z w64 _ f4) (to_z-of_z w64 _ f5)
    c.corner.ensures c.corner-in-len6.ensures c.box_between.ensures
