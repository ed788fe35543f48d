use Rattle.std.specs.Prelude.{IfSome}
use Rattle.ngc_sure_contacts.specs.Contacts.{IsThrough}
use Rattle.ngc_sure_contacts.specs.Maps.{IsUnder}
use Rattle.ngc_sure_contacts.proofs.seen.line_contact.Given as goal

abbrev pub invariant-loop-part : goal.invariant-loop-part
invariant-loop-part l = IfSome l.deepest (IsThrough l.stock (IsUnder l.stock l.heights) l.cylinder l.line.start l.line.end)
