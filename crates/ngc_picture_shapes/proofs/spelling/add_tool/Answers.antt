use Rattle.std.proofs.Common.{◌++◌, List, ℕ, ap, sym, codes, decimal, ◌∙◌}
use Rattle.ngc_picture_shapes.specs.Spelling.{colour_text, tool_text}
use Rattle.ngc_picture_shapes.proofs.ToolNames.{none_text, some_text}
use Rattle.ngc_picture_shapes.proofs.Texts.{more}
use Rattle.ngc_picture_shapes.proofs.spelling.add_tool.Goals as goal

pub returns-then-number-eq0 : goal.returns-then-number-eq0
returns-then-number-eq0 c =
    let head : List ℕ = codes "<tspan x=\"0\" dy=\"3\" fill=\"" ++ colour_text c.args.rank in
    let begun = more c.args.chunk.now c.add_text.new.self c.add_text-2.new.self (codes "<tspan x=\"0\" dy=\"3\" fill=\"")
    (colour_text c.args.rank) c.add_text.ensures (rw c.colour.ensures.text at c.add_text-2.ensures) in
    let ready = more c.args.chunk.now c.add_text-2.new.self c.add_text-3.new.self head (codes "\">&#9632; ") begun c.add_text-3.ensures in
    more c.args.chunk.now c.add_text-3.new.self c.add_text-then-number-eq0.new.self (head ++ codes "\">&#9632; ") (tool_text c.args.number) ready
    (c.add_text-then-number-eq0.ensures ∙ ap (λ l. c.add_text-3.new.self ++ l) (sym (none_text c.args.number c.if-number-eq0.true)))

pub returns-else-number-eq0 : goal.returns-else-number-eq0
returns-else-number-eq0 c =
    let head : List ℕ = codes "<tspan x=\"0\" dy=\"3\" fill=\"" ++ colour_text c.args.rank in
    let begun = more c.args.chunk.now c.add_text.new.self c.add_text-2.new.self (codes "<tspan x=\"0\" dy=\"3\" fill=\"")
    (colour_text c.args.rank) c.add_text.ensures (rw c.colour.ensures.text at c.add_text-2.ensures) in
    let ready = more c.args.chunk.now c.add_text-2.new.self c.add_text-3.new.self head (codes "\">&#9632; ") begun c.add_text-3.ensures in
    let called = more c.add_text-3.new.self c.add_text-else-number-eq0.new.self c.add_number.new.self (codes "T")
    (decimal c.args.number) c.add_text-else-number-eq0.ensures c.add_number.ensures.text in
    more c.args.chunk.now c.add_text-3.new.self c.add_number.new.self (head ++ codes "\">&#9632; ") (tool_text c.args.number) ready
    (called ∙ ap (λ l. c.add_text-3.new.self ++ l) (sym (some_text c.args.number c.if-number-eq0.false)))
