use Rattle.std.proofs.Common.{ap, ◌∙◌}
use Rattle.std.specs.Int.{w32, to_be_bytes}
use Rattle.std.proofs.lemmas.Result.{on_ok_weaker, on_err_weaker}
use Rattle.ngc_text.proofs.AppendedTexts.{appends_both}
use Rattle.ngc_map_picture.proofs.Written.{prefix_longer, begins_last}
use Rattle.ngc_map_picture.proofs.stream.finish.Goals as goal

pub returns-in-Ok-clause-ok : goal.returns-in-Ok-clause-ok
returns-in-Ok-clause-ok g c =
    on_ok_weaker c.write_chunk.result (λ wrote bytes are.
    let same = c.to_be_bytes-checksum.ensures ∙ ap (to_be_bytes w32) (c.value.ensures bytes are) in
    rw (← c.as_slice.ensures.value) (appends_both _ _ _ _ _ c.in-Ok.ensures.ok (rw (← same) wrote)))
    c.write_chunk.ensures.ok

pub returns-in-Ok-clause-fault : goal.returns-in-Ok-clause-fault
returns-in-Ok-clause-fault g c =
    on_err_weaker c.write_chunk.result (λ stop bytes are.
    let same = c.to_be_bytes-checksum.ensures ∙ ap (to_be_bytes w32) (c.value.ensures bytes are) in
    rw (← c.as_slice.ensures.value) (begins_last _ _ _ _ _ c.in-Ok.ensures.ok (rw (← same) stop)))
    c.write_chunk.ensures.fault

pub returns-in-Err-clause-fault : goal.returns-in-Err-clause-fault
returns-in-Err-clause-fault g c = λ bytes are. rw (← c.as_slice.ensures.value) (prefix_longer _ _ _ _ c.in-Err.ensures.fault)
