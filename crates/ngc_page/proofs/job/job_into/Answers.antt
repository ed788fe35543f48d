use Rattle.std.proofs.Common.{◌≡◌, inl, rules}
use Rattle.ngc_page.proofs.job.job_into.Goals as goal

pub returns : goal.returns
returns c =
    let words : c.in-Ok.text.now ≡ c.args.text.now = search rules in
    let named : c.in-Ok-from_utf8.name.now ≡ c.args.name.now = search rules in
    inl (record { utf8 = (search rules, search rules); reads = rw words at rw named at c.read_text.ensures })
