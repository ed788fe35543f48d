use Rattle.std.proofs.Common.{rules}
use Rattle.ngc_sentences.proofs.Said.{says_as, said_by, parts_flat}
use Rattle.ngc_sentences.proofs.page.Page.say.Goals as goal

pub returns-then-not-self : goal.returns-then-not-self
returns-then-not-self g c =
    says_as (record {
      by = said_by c.write_parts.result c.args.self.now.failed c.is_err-self.result _ _ _ _ _ _ _ (search rules) (search rules) c.write_parts.ensures.text
          c.write_parts.ensures.counts;
    }) (parts_flat c.args.parts.now)
