use Rattle.std.proofs.Common.{◌+◌, ◌++◌, length, List, ℕ, refl, ap, sym, ◌∙◌, arith, append-nil, length-append}
use Rattle.ngc_map_picture.proofs.Rows.{first_colours, grey_added, no_greys}
use Rattle.ngc_map_picture.proofs.palette.palette.Goals as goal

pub loop-grey-init : goal.loop-grey-init
loop-grey-init c = record {
  made = rw (c.add_colour-3.ensures, c.add_colour-2.ensures, c.add_colour.ensures, c.new-colours.ensures) first_colours;
  count = rw (c.add_colour-3.ensures, c.add_colour-2.ensures, c.add_colour.ensures, c.new-colours.ensures) refl;
}

pub loop-grey-preserved : goal.loop-grey-preserved
loop-grey-preserved c = record {
  made = grey_added c.loop-grey.colours.items _ c.loop-grey.grey (omega arith) c.add_colour-in-loop-grey.ensures ∙ c.loop-grey.invariant.made;
  count = ap length c.add_colour-in-loop-grey.ensures ∙ length-append c.loop-grey.colours.items _ ∙ omega (arith, c.loop-grey.invariant.count);
}

pub returns : goal.returns
returns c =
    sym (append-nil c.loop-grey.colours.items) ∙ ap (λ l. c.loop-grey.colours.items ++ l) (sym (no_greys c.loop-grey.grey (omega arith))) ∙ c.loop-grey.invariant.made

pub returns-2 : goal.returns-2
returns-2 c =
    let grey : ℕ = c.loop-grey.grey in
    let bytes : List ℕ = c.add_colour-in-loop-grey.new.colours.items in
    sym (append-nil bytes) ∙ ap (λ l. bytes ++ l) (sym (no_greys (grey + 1) (omega arith)))
    ∙ grey_added c.loop-grey.colours.items bytes grey (omega arith) c.add_colour-in-loop-grey.ensures ∙ c.loop-grey.invariant.made
