use Rattle.ngc_material.proofs.material.Material.test_feed.Goals as goal

pub returns-in-Arc-clause-none : goal.returns-in-Arc-clause-none
returns-in-Arc-clause-none g c = λ f. rw c.in-Arc.is (rw c.as_slice-in-Arc.ensures.value at c.arc_touch.ensures.none)
