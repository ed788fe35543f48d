use Rattle.std.proofs.Common.{rules}
use Rattle.toml.specs.View.{view}
use Rattle.ngc_refused_files.proofs.Stopped.{read_ok, read_whole, read_fault, unread_ok, unread_either, unread_fault}
use Rattle.ngc_tool_mistakes.specs.Mistakes.{text_in}
use Rattle.ngc_tool_mistakes.proofs.mistake.write_mistake.Goals as goal

pub returns-in-Ok-clause-ok : goal.returns-in-Ok-clause-ok
returns-in-Ok-clause-ok g c =
    rw (← c.as_bytes.ensures.value)
    (read_ok c.args.bytes.now (text_in c.as_bytes.result.now c.args.bytes.now c.args.fault) (view c.in-Ok.tree) c.in-Ok.ensures.tree _ _ _
    c.write_in_tree.ensures.ok)

pub returns-in-Ok-clause-fault : goal.returns-in-Ok-clause-fault
returns-in-Ok-clause-fault g c =
    rw (← c.as_bytes.ensures.value)
    (read_fault c.args.bytes.now (text_in c.as_bytes.result.now c.args.bytes.now c.args.fault) (view c.in-Ok.tree) c.in-Ok.ensures.tree _ _ _
    c.write_in_tree.ensures.fault)

pub returns-in-Ok-clause-blank : goal.returns-in-Ok-clause-blank
returns-in-Ok-clause-blank g c =
    rw (← c.as_bytes.ensures.value)
    (λ blank. read_whole c.args.bytes.now (text_in c.as_bytes.result.now c.args.bytes.now c.args.fault) (view c.in-Ok.tree) c.in-Ok.ensures.tree _ _ _
    (c.write_in_tree.ensures.blank blank))

pub returns-in-Err-2-clause-ok : goal.returns-in-Err-2-clause-ok
returns-in-Err-2-clause-ok g c =
    rw (← c.as_bytes-in-Err-2.ensures.value)
    (unread_either c.args.bytes.now (text_in c.as_bytes-in-Err-2.result.now c.args.bytes.now c.args.fault) (c.in-Err.ensures.refused (search rules)) _ _ _
    c.write_stop.ensures.ok)

pub returns-in-Err-2-clause-fault : goal.returns-in-Err-2-clause-fault
returns-in-Err-2-clause-fault g c =
    rw (← c.as_bytes-in-Err-2.ensures.value)
    (unread_fault c.args.bytes.now (text_in c.as_bytes-in-Err-2.result.now c.args.bytes.now c.args.fault) (c.in-Err.ensures.refused (search rules)) _ _ _
    c.write_stop.ensures.fault)

pub returns-in-Err-2-clause-blank : goal.returns-in-Err-2-clause-blank
returns-in-Err-2-clause-blank g c =
    rw (← c.as_bytes-in-Err-2.ensures.value)
    (λ blank. unread_ok c.args.bytes.now (text_in c.as_bytes-in-Err-2.result.now c.args.bytes.now c.args.fault) (c.in-Err.ensures.refused (search rules)) _ _ _
    c.write_stop.ensures.ok)
