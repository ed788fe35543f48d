use Rattle.std.proofs.Common.{get_or, w64, SFits, rules}
use Rattle.std.specs.Prelude.{pos}
use Rattle.std.proofs.lemmas.Int.{to_z-of_z}
use Rattle.ngc_certificate_text.proofs.PartLemmas.{two_are_said}
use Rattle.ngc_certificate_text.proofs.lines.two_counts.Goals as goal

pub returns-in-len2 : goal.returns-in-len2
returns-in-len2 c =
    let f0 : SFits w64 (get_or c.args.numbers.now 0 (pos 0)) = search rules in
    let f1 : SFits w64 (get_or c.args.numbers.now 1 (pos 0)) = search rules in
    two_are_said c.args.numbers.now _ _ c.count_between.result c.count_between-in-len2.result c.motion_of.result c.in-len2.len_at_least c.in-len2.len_below
    (to_z-of_z w64 _ f0) (to_z-of_z w64 _ f1) c.count_between.ensures c.count_between-in-len2.ensures c.motion_of.ensures
