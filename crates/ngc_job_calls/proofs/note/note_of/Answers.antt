use Rattle.std.specs.Prelude.{string_bytes}
use Rattle.ngc_job_calls.proofs.Noted.{some_note}
use Rattle.ngc_job_calls.proofs.note.note_of.Goals as goal

pub returns-in-len1-up : goal.returns-in-len1-up
returns-in-len1-up c =
    rw (some_note c.args.name.now string_bytes c.args.added.now c.in-len1-up.len_at_least) c.line_of.ensures
