use Rattle.std.proofs.Common.{get_or, w64, SFits, rules}
use Rattle.std.specs.Prelude.{pos}
use Rattle.std.proofs.lemmas.Int.{to_z-of_z}
use Rattle.ngc_certificate_text.proofs.PartLemmas.{line_is_said}
use Rattle.ngc_certificate_text.proofs.lines.line_piece.Goals as goal

pub returns-in-len1-up : goal.returns-in-len1-up
returns-in-len1-up c =
    let f0 : SFits w64 (get_or c.args.numbers.now 0 (pos 0)) = search rules in
    line_is_said c.args.numbers.now _ c.part.result c.box_in.result c.piece_with.result c.in-len1-up.len_at_least
    (to_z-of_z w64 _ f0) c.part.ensures c.box_in.ensures c.piece_with.ensures
