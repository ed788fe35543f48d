use Rattle.std.proofs.Common.{ap, subst, sym, refl, arith, length}
use Rattle.ngc_certificate_text.specs.declared.next_line.NextLine.{NextLine}
use Rattle.ngc_certificate_text.specs.declared.expected.Expected.TheVariants as expect
use Rattle.ngc_certificate_text.specs.Ahead.{IsSound}
use Rattle.ngc_certificate_text.specs.Parted.{is_feedless}
use Rattle.ngc_certificate_text.proofs.LinesSoFar.{motions_text, motions_firm, form_text, form_firm}
use Rattle.ngc_certificate_text.proofs.certificate_lines.CertificateLines.new.Goals as goal

first_sound : IsSound expect.Header 1
first_sound =
    record { first = λ e. refl; motion = λ k e. absurd (cc e); piece = λ b e. absurd (cc e); going = refl }

pub returns-clause-text : goal.returns-clause-text
returns-clause-text c bytes =
    motions_text (record { next = c.first.result; cut = c.new.result }) bytes (ap (λ (n : NextLine). n.expected) c.first.ensures) c.new.ensures

pub returns-clause-firm : goal.returns-clause-firm
returns-clause-firm c bytes rest =
    motions_firm (record { next = c.first.result; cut = c.new.result }) bytes rest (ap (λ (n : NextLine). n.expected) c.first.ensures) c.new.ensures

pub returns-clause-form : goal.returns-clause-form
returns-clause-form c bytes =
    form_text (record { next = c.first.result; cut = c.new.result }) bytes (ap (λ (n : NextLine). n.expected) c.first.ensures) c.new.ensures

pub returns-clause-firm_form : goal.returns-clause-firm_form
returns-clause-firm_form c bytes rest =
    form_firm (record { next = c.first.result; cut = c.new.result }) bytes rest (ap (λ (n : NextLine). n.expected) c.first.ensures) c.new.ensures

pub returns-clause-reading : goal.returns-clause-reading
returns-clause-reading c = record {
  sound = subst (λ (n : NextLine). IsSound n.expected n.number) (sym c.first.ensures) first_sound;
  feedless = ap is_feedless c.new.ensures;
  short = let none = ap length c.new.ensures in omega (arith, none);
}
