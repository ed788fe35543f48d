use Rattle.std.proofs.Common.{◌≡◌, ◌<◌, ◌++◌, ◌∷◌, List, [], length, ap, ◌∙◌, arith}
use Rattle.ngc_certificate_text.specs.Certificate.{Entry, MOTION_LIMIT}
use Rattle.ngc_certificate_text.specs.Held.{held_entries}
use Rattle.ngc_certificate_text.proofs.HeldMotions.{one_more, still_held}
use Rattle.ngc_certificate_text.proofs.motions.Motions.push.Goals as goal

pub invariant_of-self-in-Ok : goal.invariant_of-self-in-Ok
invariant_of-self-in-Ok g c =
    let begins : c.len-start.result ≡ length c.self.inside.pieces.items = omega arith in
    let room : length (held_entries c.self.inside.pieces.items c.self.inside.held.items) < MOTION_LIMIT = rw c.self.view_is c.requires.room in
    still_held c.self.inside.pieces.items c.args.pieces.now c.extend_from_slice.new.self.items c.self.inside.held.items c.push.new.self.items c.args.index
    c.len-start.result
    c.self.invariant begins c.in_ok-extend_from_slice.ensures.items c.in-Ok.ensures.items room c.requires.entry

pub returns-in-Ok-clause-ok : goal.returns-in-Ok-clause-ok
returns-in-Ok-clause-ok g c =
    let begins : c.len-start.result ≡ length c.self.inside.pieces.items = omega arith in
    let more : List Entry = record { index = c.args.index; pieces = c.args.pieces.now } ∷ [] in
    one_more c.self.inside.pieces.items c.args.pieces.now c.extend_from_slice.new.self.items c.self.inside.held.items c.push.new.self.items c.args.index
    c.len-start.result
    c.self.invariant begins c.in_ok-extend_from_slice.ensures.items c.in-Ok.ensures.items ∙ ap (λ es. es ++ more) c.self.view_is
