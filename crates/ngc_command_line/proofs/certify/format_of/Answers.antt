use Rattle.std.proofs.Common.{◌∙◌, IfSome, Option, codes, refl, subst, sym}
use Rattle.clap.specs.Words.{IsUnsignedIn, Text, found_of}
use Rattle.clap.proofs.WalkLemmas.{first_value-rows}
use Rattle.ngc_command_line.specs.Meant.{IsFormat}
use Rattle.ngc_command_line.specs.declared.options.Format.TheVariants.{One}
use Rattle.ngc_command_line.proofs.certify.format_of.Goals as goal

pub format_in-requires : goal.format_in-requires
format_in-requires c =
    let found = c.in-Some.ensures ∙ first_value-rows (found_of c.args.found.now) (codes "format") in
    subst (λ (text : Option Text). IfSome text (IsUnsignedIn 1 2)) (sym found) c.requires

pub returns-in-Some : goal.returns-in-Some
returns-in-Some c =
    let found = c.in-Some.ensures ∙ first_value-rows (found_of c.args.found.now) (codes "format") in
    subst (λ (text : Option Text). IsFormat text c.format_in.result) found c.format_in.ensures

pub returns-in-None : goal.returns-in-None
returns-in-None c =
    let found = c.in-None.ensures ∙ first_value-rows (found_of c.args.found.now) (codes "format") in
    subst (λ (text : Option Text). IsFormat text One) found refl
