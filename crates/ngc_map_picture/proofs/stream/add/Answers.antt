use Rattle.std.proofs.Common.{◌≡◌, ℕ, List, ◌++◌, ◌∷◌, [], length, arith, ap, subst, ◌∙◌, length-append}
use Rattle.std.specs.Io.KnownBytes.{Appends}
use Rattle.ngc_text.specs.Written.{AppendsPrefix}
use Rattle.ngc_map_picture.specs.Blocks.{block}
use Rattle.ngc_map_picture.proofs.Blocked.{adds_waiting, adds_block, stops_in_block}
use Rattle.ngc_map_picture.proofs.stream.add.Goals as goal

pub returns-then-len-lt-BLOCK_SIZE-clause-ok : goal.returns-then-len-lt-BLOCK_SIZE-clause-ok
returns-then-len-lt-BLOCK_SIZE-clause-ok g c =
    adds_waiting (g.W.Sink.written c.args.sink.now) c.args.stream.now _ c.args.byte (omega (arith, ap length c.push.ensures.items, c.len.ensures.value, c.if-len-lt-BLOCK_SIZE.true))
    c.push.ensures.items (λ earlier are. c.add.ensures earlier are)

pub returns-in-Ok-clause-ok : goal.returns-in-Ok-clause-ok
returns-in-Ok-clause-ok g c =
    let start : List ℕ = c.args.stream.now.waiting.items in
    let P : List ℕ → Type 0 = λ bs. Appends (g.W.Sink.written c.args.sink.now) (g.W.Sink.written c.write_block.new.sink) (block 0 bs) in
    let full : length (start ++ c.args.byte ∷ []) ≡ 16000 = omega (
      arith,
      length-append start (c.args.byte ∷ []),
      ap length c.push.ensures.items,
      c.len.ensures.value,
      c.if-len-lt-BLOCK_SIZE.false,
      c.requires,
    ) in
    adds_block (g.W.Sink.written c.args.sink.now) (g.W.Sink.written c.write_block.new.sink) c.args.stream.now _ c.args.byte full c.clear.ensures
    (λ earlier are. c.add.ensures earlier are) (subst P (c.as_slice.ensures.value ∙ c.push.ensures.items) c.in-Ok.ensures.ok)

pub returns-in-Err-clause-fault : goal.returns-in-Err-clause-fault
returns-in-Err-clause-fault g c =
    let start : List ℕ = c.args.stream.now.waiting.items in
    let P : List ℕ → Type 0 = λ bs. AppendsPrefix (g.W.Sink.written c.args.sink.now) (g.W.Sink.written c.write_block.new.sink) (block 0 bs) in
    let full : length (start ++ c.args.byte ∷ []) ≡ 16000 = omega (
      arith,
      length-append start (c.args.byte ∷ []),
      ap length c.push.ensures.items,
      c.len.ensures.value,
      c.if-len-lt-BLOCK_SIZE.false,
      c.requires,
    ) in
    stops_in_block (g.W.Sink.written c.args.sink.now) (g.W.Sink.written c.write_block.new.sink) (start ++ c.args.byte ∷ []) full
    (subst P (c.as_slice.ensures.value ∙ c.push.ensures.items) c.in-Err.ensures.fault)
