use Rattle.std.proofs.Common.{rules}
use Rattle.ngc_machine_files.proofs.StoredNames.{text_kept}
use Rattle.ngc_machine_files.proofs.name.Name.of.Goals as goal

pub invariant_of-result : goal.invariant_of-result
invariant_of-result c = rw c.copy_from_slice.ensures.after (text_kept c.as_bytes-text.result.now (search rules))
