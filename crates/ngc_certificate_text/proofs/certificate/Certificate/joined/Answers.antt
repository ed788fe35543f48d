use Rattle.std.proofs.Common.{List, ap, subst}
use Rattle.std.proofs.lemmas.Option.{same_Some}
use Rattle.ngc_certificate_text.specs.declared.certificate.EntryKind.{EntryKind}
use Rattle.ngc_certificate_text.specs.Joined.{Item, Joined}
use Rattle.ngc_certificate_text.specs.Order.{IsWhole}
use Rattle.ngc_certificate_text.proofs.certificate.Certificate.joined.Goals as goal

pub invariant_of-result : goal.invariant_of-result
invariant_of-result g c =
    record {
      whole = λ kinds is. subst (λ (ks : List EntryKind). IsWhole ks c.args.self.off c.args.self.on) (same_Some _ _ is)
          c.in_ok-first_joined.ensures.whole;
    }

pub returns-clause-form : goal.returns-clause-form
returns-clause-form g c = ap (λ (items : List Item). Joined items) c.in_ok-first_joined.ensures.items
