use Rattle.std.proofs.Common.{◌≡◌, ◌∙◌}
use Rattle.ngc_map_picture.specs.Maps.{palette}
use Rattle.ngc_map_picture.proofs.picture.write_palette.Goals as goal

pub returns-clause-ok : goal.returns-clause-ok
returns-clause-ok g c =
    let is : c.as_slice.result.now ≡ palette = c.as_slice.ensures.value ∙ c.palette-colours.ensures in rw (← is) c.write_chunk.ensures.ok

pub returns-clause-fault : goal.returns-clause-fault
returns-clause-fault g c =
    let is : c.as_slice.result.now ≡ palette = c.as_slice.ensures.value ∙ c.palette-colours.ensures in rw (← is) c.write_chunk.ensures.fault
