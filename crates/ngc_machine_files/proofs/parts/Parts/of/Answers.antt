use Rattle.std.proofs.Common.{◌∙◌, sym}
use Rattle.ngc_machine_files.proofs.PartLists.{room, take-bound, first-rest, nonempty, one_to_four-yes}
use Rattle.ngc_machine_files.proofs.parts.Parts.of.Goals as goal

pub push-requires : goal.push-requires
push-requires c =
    let made = rw c.one-made.ensures at c.loop-part.invariant in
    room c.args.parts.now c.loop-part.made _ c.loop-part.part-index _ made (take-bound _ _) c.loop-part-test.true c.if-parts-gt4.false

pub returns : goal.returns
returns c =
    let least = nonempty c.args.parts.now (sym c.is_empty.ensures ∙ c.if-is_empty.false) in
    let whole = (rw c.one-made.ensures at c.loop-part.invariant) ∙ first-rest c.args.parts.now _ c.loop-part.part-index least c.index-parts-0.is
    c.loop-part-test.false in
    rw whole (sym (one_to_four-yes c.args.parts.now least c.if-parts-gt4.false))
