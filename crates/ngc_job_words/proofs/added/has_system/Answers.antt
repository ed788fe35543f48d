use Rattle.std.proofs.Common.{◌≡◌, ◌∙◌, ap, sym}
use Rattle.std.specs.List.{list_any}
use Rattle.ngc_job_words.specs.Added.{begins_code}
use Rattle.ngc_job_words.specs.Texts.{system_code}
use Rattle.ngc_job_words.proofs.Anys.{list_any-map}
use Rattle.ngc_job_words.proofs.added.has_system.Goals as goal

pub returns : goal.returns
returns c =
    c.has_system_in.ensures
    ∙ ap (λ code. list_any (λ v. begins_code code v.now) c.args.values.now) c.system_code.ensures
    ∙ sym (list_any-map (begins_code (system_code c.args.system)) (λ v. v.now) c.args.values.now)
