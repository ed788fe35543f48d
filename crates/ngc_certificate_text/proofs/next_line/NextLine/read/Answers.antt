use Rattle.std.proofs.Common.{◌≡◌, ◌<◌, ◌∷◌, ap, subst, sym, ◌∙◌, length, Err, true, false, arith}
use Rattle.ngc_certificate_text.specs.declared.fault.CertificateFault.{CertificateFault}
use Rattle.ngc_certificate_text.specs.declared.expected.Expected.{Expected}
use Rattle.ngc_certificate_text.specs.declared.next_line.NextLine.{NextLine}
use Rattle.ngc_certificate_text.specs.Ahead.{Left, left_from, lines_ahead, wrong_line, is_open, IsSound}
use Rattle.ngc_certificate_text.specs.LineContent.{IsFront, after_content}
use Rattle.ngc_certificate_text.proofs.LinesAhead.{wrong_said, two_left}
use Rattle.ngc_certificate_text.proofs.NextLines.{told_front, told_closed, told_refused, told_next, told_sound, told_lines}
use Rattle.ngc_certificate_text.proofs.next_line.NextLine.read.Goals as goal

abbrev refused : CertificateFault → Left
refused fault = Err fault

pub returns-then-line-gt-LINE_BYTES-clause-tells : goal.returns-then-line-gt-LINE_BYTES-clause-tells
returns-then-line-gt-LINE_BYTES-clause-tells c line left =
    let n = c.args.self.now in
    let long : 256 < length c.args.line.now = omega arith in
    wrong_said n.expected n.number _ c.requires long (λ _. two_left c.args.line.now line left)
    ∙ ap (λ (f : CertificateFault). refused f) (sym c.wrong_line.ensures)

pub returns-then-not-is_open-clause-tells : goal.returns-then-not-is_open-clause-tells
returns-then-not-is_open-clause-tells c line left =
    let n = c.args.self.now in
    let line_content = c.in-Ok.line_content in
    let expected : c.afterwards-next.result.expected ≡ after_content line_content = ap (λ (x : NextLine). x.expected) c.afterwards-next.ensures in
    let closed : is_open (after_content line_content) ≡ false = ap is_open (sym expected) ∙ sym c.is_open.ensures ∙ c.if-not-is_open.true in
    told_closed n.number c.args.line.now line left (omega arith) n.expected line_content c.requires (sym c.line_content.ensures ∙ c.in-Ok.is) closed
    ∙ ap (λ (x : NextLine). refused (wrong_line x.expected x.number)) (sym c.afterwards-next.ensures)
    ∙ ap (λ (f : CertificateFault). refused f) (sym c.wrong_line-then-not-is_open.ensures)

pub returns-else-not-is_open-clause-tells : goal.returns-else-not-is_open-clause-tells
returns-else-not-is_open-clause-tells c line left =
    let n = c.args.self.now in
    let line_content = c.in-Ok.line_content in
    let front = told_front n.number c.args.line.now line left (omega arith) n.expected line_content c.requires (sym c.line_content.ensures ∙ c.in-Ok.is) in
    subst (λ (x : NextLine). IsFront line_content (left_from n.expected n.number (c.args.line.now ∷ line ∷ left)) (left_from x.expected x.number (line ∷ left)))
    (sym c.afterwards-next.ensures) front

pub returns-else-not-is_open-clause-expected : goal.returns-else-not-is_open-clause-expected
returns-else-not-is_open-clause-expected c =
    let n = c.args.self.now in (
      told_next n.expected n.number c.args.line.now c.in-Ok.line_content c.requires (sym c.line_content.ensures ∙ c.in-Ok.is),
      ap (λ (x : NextLine). x.expected) c.afterwards-next.ensures,
    )

pub returns-else-not-is_open-clause-sound : goal.returns-else-not-is_open-clause-sound
returns-else-not-is_open-clause-sound c =
    let n = c.args.self.now in
    let expected : c.afterwards-next.result.expected ≡ after_content c.in-Ok.line_content = ap (λ (x : NextLine). x.expected) c.afterwards-next.ensures in
    let open_next : is_open (after_content c.in-Ok.line_content) ≡ true = ap is_open (sym expected) ∙ sym c.is_open.ensures ∙ c.if-not-is_open.false in
    subst (λ (e : Expected). IsSound e c.afterwards-next.result.number) (sym expected)
    (told_sound n.expected c.in-Ok.line_content c.afterwards-next.result.number
    (told_next n.expected n.number c.args.line.now c.in-Ok.line_content c.requires (sym c.line_content.ensures ∙ c.in-Ok.is)) open_next)

pub returns-else-not-is_open-clause-progress : goal.returns-else-not-is_open-clause-progress
returns-else-not-is_open-clause-progress c =
    let n = c.args.self.now in
    let new = ap (λ (x : NextLine). lines_ahead x.expected) c.afterwards-next.ensures in
    omega (
      arith,
      new,
      told_lines n.expected c.in-Ok.line_content n.number c.requires
          (told_next n.expected n.number c.args.line.now c.in-Ok.line_content c.requires (sym c.line_content.ensures ∙ c.in-Ok.is)),
    )

pub returns-in-Err-clause-tells : goal.returns-in-Err-clause-tells
returns-in-Err-clause-tells c line left =
    let n = c.args.self.now in
    told_refused n.number c.args.line.now line left (omega arith) n.expected c.in-Err.flaw c.requires (sym c.line_content.ensures ∙ c.in-Err.is)
    ∙ ap (λ (f : CertificateFault). refused f) (sym c.fault.ensures)
