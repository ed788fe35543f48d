use Rattle.std.proofs.Common.{◌≡◌, ℕ, List, ◌++◌, ap}
use Rattle.std.proofs.lemmas.Result.{on_ok_weaker, on_err_weaker}
use Rattle.ngc_certificate_text.specs.Spelling.{version_1_text}
use Rattle.ngc_certificate_text.proofs.CollectedTexts.{all_written, beginning_written}
use Rattle.ngc_certificate_text.proofs.write.write_parted.Goals as goal

pub returns-in-Ok-clause-ok : goal.returns-in-Ok-clause-ok
returns-in-Ok-clause-ok g c =
    let text = version_1_text (record { off = g.M.MotionList.entries c.args.off.now; on = g.M.MotionList.entries c.args.on.now }) in
    let from_start : c.new-chunk.result ++ text ≡ text = ap (λ (l : List ℕ). l ++ text) c.new-chunk.ensures in
    on_ok_weaker c.write_out.result (all_written _ _ _ _ _ (rw from_start at c.in-Ok.ensures.text)) c.write_out.ensures.ok

pub returns-in-Ok-clause-fault : goal.returns-in-Ok-clause-fault
returns-in-Ok-clause-fault g c =
    let text = version_1_text (record { off = g.M.MotionList.entries c.args.off.now; on = g.M.MotionList.entries c.args.on.now }) in
    let from_start : c.new-chunk.result ++ text ≡ text = ap (λ (l : List ℕ). l ++ text) c.new-chunk.ensures in
    on_err_weaker c.write_out.result (beginning_written _ _ _ _ _ (rw from_start at c.in-Ok.ensures.text)) c.write_out.ensures.fault
