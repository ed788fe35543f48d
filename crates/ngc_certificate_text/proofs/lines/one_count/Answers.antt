use Rattle.std.proofs.Common.{get_or, w64, SFits, rules}
use Rattle.std.specs.Prelude.{pos}
use Rattle.std.proofs.lemmas.Int.{to_z-of_z}
use Rattle.ngc_certificate_text.proofs.PartLemmas.{one_is_said}
use Rattle.ngc_certificate_text.proofs.lines.one_count.Goals as goal

pub returns-in-len1 : goal.returns-in-len1
returns-in-len1 c =
    let f0 : SFits w64 (get_or c.args.numbers.now 0 (pos 0)) = search rules in
    one_is_said c.args.numbers.now _ c.count_between.result c.in-len1.len_at_least c.in-len1.len_below (to_z-of_z w64 _ f0) c.count_between.ensures
