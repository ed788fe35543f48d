use Rattle.std.proofs.Common.{◌≡◌, ◌∙◌, sym}
use Rattle.ngc_job_words.specs.Words.{is_option}
use Rattle.ngc_job_words.proofs.Anys.{list_any-map}
use Rattle.ngc_job_words.proofs.word.has.Goals as goal

pub returns : goal.returns
returns c =
    c.has_option_in.ensures ∙ sym (list_any-map (is_option c.args.name.now) (λ w. w.now) c.args.words.now)
