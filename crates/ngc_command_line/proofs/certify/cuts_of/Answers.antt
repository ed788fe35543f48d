use Rattle.std.proofs.Common.{◌∙◌, IfSome, Option, codes, refl, subst, sym}
use Rattle.clap.specs.Words.{IsUnsignedIn, Text, found_of}
use Rattle.clap.proofs.WalkLemmas.{first_value-rows}
use Rattle.ngc_command_line.specs.Meant.{AreCuts}
use Rattle.ngc_command_line.proofs.certify.cuts_of.Goals as goal

pub cuts_in-requires : goal.cuts_in-requires
cuts_in-requires c =
    let found = c.in-Some.ensures ∙ first_value-rows (found_of c.args.found.now) (codes "cuts") in
    subst (λ (text : Option Text). IfSome text (IsUnsignedIn 1 65535)) (sym found) c.requires

pub returns-in-Some : goal.returns-in-Some
returns-in-Some c =
    let found = c.in-Some.ensures ∙ first_value-rows (found_of c.args.found.now) (codes "cuts") in
    subst (λ (text : Option Text). AreCuts text c.cuts_in.result) found c.cuts_in.ensures

pub returns-in-None : goal.returns-in-None
returns-in-None c =
    let found = c.in-None.ensures ∙ first_value-rows (found_of c.args.found.now) (codes "cuts") in
    subst (λ (text : Option Text). AreCuts text 8) found refl
