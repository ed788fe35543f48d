use Rattle.std.proofs.lemmas.Result.{on_err_weaker, on_ok_weaker}
use Rattle.ngc_fault_texts.proofs.WrittenProgress.{first_broken, second_broken, third_broken, three_written}
use Rattle.ngc_fault_texts.proofs.explaining.write_row.Goals as goal

pub returns-in-Err-clause-fault : goal.returns-in-Err-clause-fault
returns-in-Err-clause-fault g c = first_broken _ _ _ _ c.in-Err.ensures.fault

pub returns-in-Err-write_column-clause-fault : goal.returns-in-Err-write_column-clause-fault
returns-in-Err-write_column-clause-fault g c = second_broken _ _ _ _ _ _ c.in-Ok.ensures.ok c.in-Err-write_column.ensures.fault

pub returns-clause-ok : goal.returns-clause-ok
returns-clause-ok g c =
    on_ok_weaker c.write_fix.result (three_written _ _ _ _ _ _ _ c.in-Ok.ensures.ok c.in-Ok-write_column.ensures.ok) c.write_fix.ensures.ok

pub returns-clause-fault : goal.returns-clause-fault
returns-clause-fault g c =
    on_err_weaker c.write_fix.result (third_broken _ _ _ _ _ _ _ c.in-Ok.ensures.ok c.in-Ok-write_column.ensures.ok) c.write_fix.ensures.fault
