use Rattle.std.proofs.Common.{take}
use Rattle.std.specs.Prelude.{IfSome}
use Rattle.ngc_sure_contacts.specs.Contacts.{IsThroughByAny}
use Rattle.ngc_sure_contacts.specs.Maps.{IsUnder}
use Rattle.ngc_sure_contacts.proofs.seen.deepest_contact.Given as goal

-- the deepest contact of the cylinders so far
abbrev pub invariant-loop-cylinder : goal.invariant-loop-cylinder
invariant-loop-cylinder l = IfSome l.deepest (IsThroughByAny l.stock (IsUnder l.stock l.heights) (take l.cylinder-index l.cylinders) l.line.start l.line.end)
