use Rattle.ngc_origin_warnings.proofs.missing.say_missing.Goals as goal

pub returns-in-Json : goal.returns-in-Json
returns-in-Json g c = rw (c.in-Json.is, ← c.system_name-name.ensures.text) c.say-in-Json.ensures
