use Rattle.std.proofs.Common.{◌≡◌, ◌++◌, drop}
use Rattle.ngc_sure_contacts.specs.Swept.{stacked}
use Rattle.ngc_sure_contacts.proofs.body.body.Given as goal

-- the parts so far, and those that are left
abbrev pub invariant-loop-part : goal.invariant-loop-part
invariant-loop-part g l = l.cylinders.items ++ stacked l.foot (drop l.part-index l.parts) ≡ stacked l.tool.bottom l.tool.parts
