use Rattle.std.proofs.Common.{length, arith, ap}
use Rattle.ngc_machine_files.proofs.Trees.{coordinates-length}
use Rattle.ngc_machine_files.proofs.tree.coordinates.Goals as goal

pub returns-in_default : goal.returns-in_default
returns-in_default c =
    let same = ap length c.as_slice.ensures.value in
    coordinates-length _ c.in_ok-as_array.field-0.now.items c.in_ok-as_array.ensures (λ e. omega arith)

pub returns-in_default-2 : goal.returns-in_default-2
returns-in_default-2 c =
    let same = ap length c.as_slice.ensures.value in
    coordinates-length _ c.in_ok-as_array.field-0.now.items c.in_ok-as_array.ensures (λ e. omega arith)
