use Rattle.std.proofs.Common.{get_or, w64, SFits, rules}
use Rattle.std.specs.Prelude.{pos}
use Rattle.std.proofs.lemmas.Int.{to_z-of_z}
use Rattle.ngc_certificate_text.proofs.EntryWords.{three_are_said}
use Rattle.ngc_certificate_text.proofs.lines.three_counts.Goals as goal

pub returns-in-len3 : goal.returns-in-len3
returns-in-len3 c =
    let f0 : SFits w64 (get_or c.args.numbers.now 0 (pos 0)) = search rules in
    let f1 : SFits w64 (get_or c.args.numbers.now 1 (pos 0)) = search rules in
    let f2 : SFits w64 (get_or c.args.numbers.now 2 (pos 0)) = search rules in
    three_are_said c.args.numbers.now _ _ _ c.count_between.result c.count_between-in-len3.result c.count_between-in-len3-2.result c.motion_of.result
    c.both_of.result c.in-len3.len_at_least c.in-len3.len_below
    (to_z-of_z w64 _ f0) (to_z-of_z w64 _ f1) (to_z-of_z w64 _ f2) c.count_between.ensures c.count_between-in-len3.ensures c.count_between-in-len3-2.ensures
    c.motion_of.ensures c.both_of.ensures
