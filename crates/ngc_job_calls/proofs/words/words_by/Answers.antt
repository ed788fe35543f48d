use Rattle.std.proofs.Common.{map, rules}
use Rattle.std.specs.Prelude.{string_bytes}
use Rattle.toml.specs.View.{view}
use Rattle.ngc_job_calls.proofs.Stopped.{read, without_memory, unread}
use Rattle.ngc_job_calls.proofs.words.words_by.Goals as goal

pub returns-in-Ok : goal.returns-in-Ok
returns-in-Ok c =
    read (λ added. map string_bytes added.items) c.args.name.now c.args.bytes.now (map (λ w. w.now) c.args.words.now) (view c.in-Ok.tree) c.words_in.result
    c.in-Ok.ensures.tree c.words_in.ensures

pub returns-in-Err : goal.returns-in-Err
returns-in-Err c = without_memory c.args.name.now c.args.bytes.now (map (λ w. w.now) c.args.words.now)

pub returns-in-Err-2 : goal.returns-in-Err-2
returns-in-Err-2 c =
    unread c.args.name.now c.args.bytes.now (map (λ w. w.now) c.args.words.now) c.no_document.result (c.in-Err.ensures.refused (search rules))
    c.no_document.ensures
