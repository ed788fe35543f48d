use Rattle.std.proofs.Common.{◌≡◌, ◌∙◌, Option, Ok, ap, codes, option_map, subst, sym}
use Rattle.clap.specs.Words.{Text, found_of}
use Rattle.clap.proofs.WalkLemmas.{first_value-rows}
use Rattle.ngc_added_boxes.specs.Texts.{and_stock}
use Rattle.ngc_command_line.proofs.changes.with_stock_of.Goals as goal

pub returns-in-Some : goal.returns-in-Some
returns-in-Some c =
    let found = c.in-Some.ensures ∙ first_value-rows (found_of c.args.found.now) (codes "stock") in
    subst (λ (text : Option Text). c.read_stock.result ≡ and_stock (Ok c.args.boxes) text) found c.read_stock.ensures

pub returns-in-None : goal.returns-in-None
returns-in-None c =
    let found = c.in-None.ensures ∙ first_value-rows (found_of c.args.found.now) (codes "stock") in
    ap (and_stock (Ok c.args.boxes)) found
