use Rattle.ngc_tool_warnings.proofs.spelling.say_remark.Goals as goal

pub returns-in-LowChange : goal.returns-in-LowChange
returns-in-LowChange g c = rw (c.in-LowChange.is, ← c.millimetres.ensures, ← c.millimetres-in-LowChange.ensures) c.say.ensures

pub returns-in-BareChange : goal.returns-in-BareChange
returns-in-BareChange g c = rw c.in-BareChange.is c.say-in-BareChange.ensures
