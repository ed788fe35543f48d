-- The texts of lowest heights, one height further.
use Rattle.std.proofs.Common.{◌≡◌, ◌+◌, ◌<◌, ℕ, List, ◌++◌, length, get_or, drop, Option, ap, subst, sym, ◌∙◌}
use Rattle.std.proofs.lemmas.List.{append_assoc, drop_more}
use Rattle.ngc_certificate_text.proofs.CollectedTexts.{beginning_written}
use Rattle.ngc_frames.proofs.CollectedTexts.{first_stopped}
use Rattle.ngc_report.specs.declared.form.Form.{Form}
use Rattle.ngc_text.proofs.AppendedTexts.{appends_both}
use Rattle.ngc_text.specs.Collected.{WritesPrefix}
use Rattle.ngc_text.specs.Written.{AppendsPrefix}
use Rattle.ngc_lowest_tips.specs.Texts.{tip_text, tips_text}
use Rattle.ngc_lowest_tips.specs.declared.tip.LowestTip.{LowestTip}

-- the next text is collected
went : (old mid new : Option (List ℕ)) (whole before after left text rest : List ℕ) → left ≡ text ++ rest
    → WritesPrefix old mid whole (before ++ left) → WritesPrefix mid new (before ++ text) after → WritesPrefix old new whole (after ++ rest)
went old mid new whole before after left text rest splits h k =
    let more : before ++ left ≡ k.0 ++ (after ++ rest) =
    ap (λ l. before ++ l) splits ∙ sym (append_assoc before text rest) ∙ ap (λ l. l ++ rest) k.2 ∙ append_assoc k.0 after rest in (
      h.0 ++ k.0,
      appends_both old mid new h.0 k.0 h.1 k.1,
      h.2 ∙ ap (λ l. h.0 ++ l) more ∙ sym (append_assoc h.0 k.0 (after ++ rest)),
    )

-- a write fails while it is collected
stopped : (old mid new : Option (List ℕ)) (whole before left text rest : List ℕ) → left ≡ text ++ rest
    → WritesPrefix old mid whole (before ++ left) → AppendsPrefix mid new (before ++ text) → AppendsPrefix old new whole
stopped old mid new whole before left text rest splits h k =
    let all : AppendsPrefix mid new (before ++ (text ++ rest)) = first_stopped mid new before text rest k in
    beginning_written old mid new whole (before ++ left) h
    (subst (λ (l : List ℕ). AppendsPrefix mid new (before ++ l)) (sym splits) all)

next_tip : (form : Form) (ts : List LowestTip) (i : ℕ) (d : LowestTip) → i < length ts
    → tips_text form (drop i ts) ≡ tip_text form (get_or ts i d) ++ tips_text form (drop (i + 1) ts)
next_tip form ts i d inside = ap (tips_text form) (drop_more ts i d inside)

-- the text of the next height is collected, or a write fails
pub tip_went : (form : Form) (ts : List LowestTip) (i : ℕ) (d : LowestTip) (old mid new : Option (List ℕ)) (whole before after : List ℕ) → i < length ts
    → WritesPrefix old mid whole (before ++ tips_text form (drop i ts)) → WritesPrefix mid new (before ++ tip_text form (get_or ts i d)) after
    → WritesPrefix old new whole (after ++ tips_text form (drop (i + 1) ts))
tip_went form ts i d old mid new whole before after inside h k =
    went old mid new whole before after (tips_text form (drop i ts)) (tip_text form (get_or ts i d)) (tips_text form (drop (i + 1) ts))
    (next_tip form ts i d inside) h k

pub tip_stopped : (form : Form) (ts : List LowestTip) (i : ℕ) (d : LowestTip) (old mid new : Option (List ℕ)) (whole before : List ℕ) → i < length ts
    → WritesPrefix old mid whole (before ++ tips_text form (drop i ts)) → AppendsPrefix mid new (before ++ tip_text form (get_or ts i d))
    → AppendsPrefix old new whole
tip_stopped form ts i d old mid new whole before inside h k =
    stopped old mid new whole before (tips_text form (drop i ts)) (tip_text form (get_or ts i d)) (tips_text form (drop (i + 1) ts))
    (next_tip form ts i d inside) h k
