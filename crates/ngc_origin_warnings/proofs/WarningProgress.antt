-- The warnings of commands, one command further.
use Rattle.std.proofs.Common.{◌≡◌, ◌+◌, ◌<◌, ℕ, ℤ, List, ◌++◌, length, get_or, drop, Option, ap, subst, sym, ◌∙◌}
use Rattle.std.proofs.lemmas.List.{append_assoc, drop_more}
use Rattle.ngc_certificate_text.proofs.CollectedTexts.{beginning_written}
use Rattle.ngc_commands.specs.declared.command.Command.{Command}
use Rattle.ngc_frames.proofs.CollectedTexts.{first_stopped}
use Rattle.ngc_frames.specs.declared.change.FrameChange.{FrameChange}
use Rattle.ngc_frames.specs.declared.frame.Frame.{Frame}
use Rattle.ngc_machine_files.specs.Machine.{MachineFile}
use Rattle.ngc_report.specs.declared.form.Form.{Form}
use Rattle.ngc_text.proofs.AppendedTexts.{appends_both}
use Rattle.ngc_text.specs.Collected.{WritesPrefix}
use Rattle.ngc_text.specs.Written.{AppendsPrefix}
use Rattle.ngc_origin_warnings.specs.Texts.{warning_text}
use Rattle.ngc_origin_warnings.specs.Warnings.{new_origin, warnings_from, with_warned}

-- the next text is collected
pub went : (old mid new : Option (List ℕ)) (whole before after left text told rest : List ℕ) → left ≡ text ++ rest → told ≡ text
    → WritesPrefix old mid whole (before ++ left) → WritesPrefix mid new (before ++ told) after → WritesPrefix old new whole (after ++ rest)
went old mid new whole before after left text told rest splits is h k =
    let more : before ++ left ≡ k.0 ++ (after ++ rest) =
    ap (λ l. before ++ l) splits ∙ sym (append_assoc before text rest) ∙ ap (λ l. l ++ rest) (ap (λ l. before ++ l) (sym is) ∙ k.2)
    ∙ append_assoc k.0 after rest in (
      h.0 ++ k.0,
      appends_both old mid new h.0 k.0 h.1 k.1,
      h.2 ∙ ap (λ l. h.0 ++ l) more ∙ sym (append_assoc h.0 k.0 (after ++ rest)),
    )

-- a write fails while it is collected
pub stopped : (old mid new : Option (List ℕ)) (whole before left text told rest : List ℕ) → left ≡ text ++ rest → told ≡ text
    → WritesPrefix old mid whole (before ++ left) → AppendsPrefix mid new (before ++ told) → AppendsPrefix old new whole
stopped old mid new whole before left text told rest splits is h k =
    let all : AppendsPrefix mid new (before ++ (told ++ rest)) = first_stopped mid new before told rest k in
    beginning_written old mid new whole (before ++ left) h
    (subst (λ (l : List ℕ). AppendsPrefix mid new (before ++ l)) (ap (λ l. l ++ rest) is ∙ sym splits) all)

pub next_command : (form : Form) (m : MachineFile) (low : ℤ) (start : Frame) (changes : List FrameChange) (warned : List (Option ℕ)) (cs : List Command)
    (i : ℕ) (c : Command)
    → i < length cs → c ≡ get_or cs i c
    → warnings_from form m low start changes warned i (drop i cs)
    ≡ warning_text form c.line (new_origin m low start changes warned i c)
    ++ warnings_from form m low start changes (with_warned warned (new_origin m low start changes warned i c)) (i + 1) (drop (i + 1) cs)
next_command form m low start changes warned cs i c inside found =
    ap (warnings_from form m low start changes warned i) (drop_more cs i c inside)
    ∙ ap (λ (x : Command). warning_text form x.line (new_origin m low start changes warned i x)
    ++ warnings_from form m low start changes (with_warned warned (new_origin m low start changes warned i x)) (i + 1) (drop (i + 1) cs)) (sym found)
