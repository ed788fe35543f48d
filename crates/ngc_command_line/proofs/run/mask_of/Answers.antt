use Rattle.std.proofs.Common.{◌∙◌, IfSome, Option, codes, refl, subst, sym}
use Rattle.clap.specs.Words.{IsUnsignedIn, Text, found_of}
use Rattle.clap.proofs.WalkLemmas.{first_value-rows}
use Rattle.ngc_command_line.specs.Meant.{IsMask}
use Rattle.ngc_command_line.proofs.run.mask_of.Goals as goal

pub mask_in-requires : goal.mask_in-requires
mask_in-requires c =
    let found = c.in-Some.ensures ∙ first_value-rows (found_of c.args.found.now) (codes "inverted") in
    subst (λ (text : Option Text). IfSome text (IsUnsignedIn 0 255)) (sym found) c.requires

pub returns-in-Some : goal.returns-in-Some
returns-in-Some c =
    let found = c.in-Some.ensures ∙ first_value-rows (found_of c.args.found.now) (codes "inverted") in
    subst (λ (text : Option Text). IsMask text c.mask_in.result) found c.mask_in.ensures

pub returns-in-None : goal.returns-in-None
returns-in-None c =
    let found = c.in-None.ensures ∙ first_value-rows (found_of c.args.found.now) (codes "inverted") in
    subst (λ (text : Option Text). IsMask text 0) found refl
