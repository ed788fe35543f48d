use Rattle.std.proofs.Common.{◌∙◌, IfSome, None, Option, Some, codes, refl, subst, sym}
use Rattle.clap.specs.Words.{IsUnsignedIn, Text, found_of}
use Rattle.clap.proofs.WalkLemmas.{first_value-rows}
use Rattle.ngc_command_line.specs.Meant.{AreCells}
use Rattle.ngc_command_line.proofs.report.cells_of.Goals as goal

pub cells_in-requires : goal.cells_in-requires
cells_in-requires c =
    let found = c.in-Some.ensures ∙ first_value-rows (found_of c.args.found.now) (codes "cells") in
    subst (λ (text : Option Text). IfSome text (IsUnsignedIn 1 4000000)) (sym found) c.requires

pub returns-in-Some : goal.returns-in-Some
returns-in-Some c =
    let found = c.in-Some.ensures ∙ first_value-rows (found_of c.args.found.now) (codes "cells") in
    subst (λ (text : Option Text). AreCells text (Some c.cells_in.result)) found c.cells_in.ensures

pub returns-in-None : goal.returns-in-None
returns-in-None c =
    let found = c.in-None.ensures ∙ first_value-rows (found_of c.args.found.now) (codes "cells") in
    subst (λ (text : Option Text). AreCells text None) found refl
