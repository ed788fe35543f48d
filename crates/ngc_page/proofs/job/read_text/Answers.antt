use Rattle.std.proofs.Common.{◌≡◌, ◌∙◌, ap, inl, map}
use Rattle.std.specs.Str.Lines.{lines}
use Rattle.ngc_page.proofs.job.read_text.Goals as goal

pub returns : goal.returns
returns c =
    let given : map (λ w. w.now) c.as_slice.result.now ≡ lines c.args.text.now = ap (map (λ w. w.now)) c.as_slice.ensures.value ∙ c.in-Ok.ensures in
    inl (rw given at c.read_with.ensures)
