use Rattle.std.proofs.Common.{rules}
use Rattle.ngc_page.proofs.InMemory.{result_of}
use Rattle.ngc_page.proofs.answering.answer_in_memory.Goals as goal

pub returns : goal.returns
returns c = result_of _ c.args.options.now c.new-saved.result _ _ _ c.args.files c.into_inner.result.items c.note_wide.new.errors.taken.items
    c.note_wide.new.errors.failures c.get.result c.answer_by_machine-status.ensures.answers c.new-saved.ensures.lines c.new-saved.ensures.inner
    (search rules) (search rules) (search rules) (search rules) (search rules) (search rules)
