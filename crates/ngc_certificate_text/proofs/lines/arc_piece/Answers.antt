use Rattle.std.proofs.Common.{get_or, w64, SFits, rules}
use Rattle.std.specs.Prelude.{pos}
use Rattle.std.proofs.lemmas.Int.{to_z-of_z}
use Rattle.ngc_certificate_text.proofs.PartLemmas.{arc_is_said}
use Rattle.ngc_certificate_text.proofs.lines.arc_piece.Goals as goal

pub returns-in-len2-up : goal.returns-in-len2-up
returns-in-len2-up c =
    let f0 : SFits w64 (get_or c.args.numbers.now 0 (pos 0)) = search rules in
    let f1 : SFits w64 (get_or c.args.numbers.now 1 (pos 0)) = search rules in
    arc_is_said c.args.numbers.now _ _ c.cut_length.result c.cut_length-in-len2-up.result c.place.result c.box_in.result c.piece_with.result
    c.in-len2-up.len_at_least
    (to_z-of_z w64 _ f0) (to_z-of_z w64 _ f1) c.cut_length.ensures c.cut_length-in-len2-up.ensures c.place.ensures c.box_in.ensures c.piece_with.ensures
