use Rattle.std.proofs.Common.{◌<◌, length}
use Rattle.ngc_certificate_text.specs.Held.{held_entries}
use Rattle.ngc_certificate_text.proofs.HeldMotions.{its_pieces}
use Rattle.ngc_certificate_text.proofs.motions.Motions.pieces.Goals as goal

pub returns-clause-some : goal.returns-clause-some
returns-clause-some g c =
    let inside : c.args.i < length (held_entries c.self.inside.pieces.items c.self.inside.held.items) = rw c.self.view_is c.requires in
    (its_pieces _ _ _ _ _ _ c.self.invariant inside c.index-held.ensures c.from.ensures c.deref.ensures.value).some

pub returns-clause-good : goal.returns-clause-good
returns-clause-good g c =
    let inside : c.args.i < length (held_entries c.self.inside.pieces.items c.self.inside.held.items) = rw c.self.view_is c.requires in
    (its_pieces _ _ _ _ _ _ c.self.invariant inside c.index-held.ensures c.from.ensures c.deref.ensures.value).pieces
