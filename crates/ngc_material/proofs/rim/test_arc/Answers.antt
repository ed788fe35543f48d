use Rattle.ngc_material.proofs.rim.test_arc.Goals as goal

pub returns-in-Some-clause-clear : goal.returns-in-Some-clause-clear
returns-in-Some-clause-clear c = rw (c.in-Some.ensures.0, c.in-Some.ensures.1) at c.test.ensures.clear
