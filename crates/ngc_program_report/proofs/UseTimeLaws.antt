-- Times of uses are written in order.
use Rattle.std.proofs.Common.{◌≡◌, ℕ, ◌*◌, ◌/◌, ◌%◌, List, [], ◌∷◌, ◌++◌, Option, codes, ap, ap₂, subst, sym, ◌∙◌}
use Rattle.std.specs.Prelude.{decimal}
use Rattle.std.proofs.KnownBytes.{Appends-nil}
use Rattle.std.proofs.lemmas.List.{append_assoc, append-nil}
use Rattle.std.specs.Io.KnownBytes.{Appends}
use Rattle.ngc_text.proofs.AppendedTexts.{appends_both}
use Rattle.ngc_text.specs.Written.{AppendsPrefix}
use Rattle.ngc_machine_files.specs.declared.tools.Tool.{Tool}
use Rattle.ngc_report.specs.Words.{tool_text}
use Rattle.ngc_report.specs.declared.form.Form.{Form}
use Rattle.ngc_report.specs.declared.form.Form.TheVariants.{Words, Json}
use Rattle.ngc_findings.specs.declared.uses.ToolUse.{ToolUse}
use Rattle.ngc_program_report.specs.Times.{tool_value, use_time, use_times}
use Rattle.ngc_sentences.proofs.Said.{says_as}
use Rattle.ngc_sentences.specs.Parts.{clock_text, three_digits}
use Rattle.ngc_sentences.specs.Saying.{Says}
use Rattle.ngc_sentences.specs.declared.page.Page.{Page}
use Rattle.ngc_program_report.specs.declared.run_time.RunTime.{RunTime}
use Rattle.ngc_program_report.proofs.WrittenLaws.{begins_first, begins_last}

-- a prefix of a text is written, and the rest remains
pub record IsLeft (old now : Option (List ℕ)) (left all : List ℕ) : Type 0 where
  pub front : List ℕ
  pub wrote : Appends old now front
  pub splits : front ++ left ≡ all

pub all_left : (old : Option (List ℕ)) (left all : List ℕ) → left ≡ all → IsLeft old old left all
all_left old left all is = record { front = []; wrote = Appends-nil old; splits = is }

pub less_left : (old now next : Option (List ℕ)) (one left before all : List ℕ) → before ≡ one ++ left → IsLeft old now before all → Appends now next one →
    IsLeft old next left all
less_left old now next one left before all is h wrote = record {
  front = h.front ++ one;
  wrote = appends_both old now next h.front one h.wrote wrote;
  splits = append_assoc h.front one left ∙ ap (λ l. h.front ++ l) (sym is) ∙ h.splits;
}

pub breaks_off : (old now next : Option (List ℕ)) (one left before all : List ℕ) → before ≡ one ++ left → IsLeft old now before all →
    AppendsPrefix now next one → AppendsPrefix old next all
breaks_off old now next one left before all is h wrote =
    let P : List ℕ → Type 0 = λ l. AppendsPrefix old next l in
    let whole : (h.front ++ one) ++ left ≡ all = append_assoc h.front one left ∙ ap (λ l. h.front ++ l) (sym is) ∙ h.splits in
    subst P whole (begins_first old next (h.front ++ one) left (begins_last old now next h.front one h.wrote wrote))

pub none_left : (old now : Option (List ℕ)) (left all : List ℕ) → left ≡ [] → IsLeft old now left all → Appends old now all
none_left old now left all is h =
    let P : List ℕ → Type 0 = λ l. Appends old now l in
    let whole : h.front ≡ all = sym (append-nil h.front) ∙ ap (λ l. h.front ++ l) (sym is) ∙ h.splits in
    subst P whole h.wrote

-- ---- a time

-- its text depends only on these numbers
same_time : (form : Form) (tool : Option Tool) (a b : RunTime) → a.ticks ≡ b.ticks → a.ticks_per_second ≡ b.ticks_per_second →
    use_time form tool a ≡ use_time form tool b
unfolding use_time
same_time Words tool a b same even =
    ap₂ (λ x y. codes "With " ++ tool_text tool ++ codes " it takes " ++ decimal x ++ codes " ticks, "
    ++ (clock_text (x / y) ++ codes "." ++ three_digits (x % y * 1000 / y)) ++ codes ".\n") same even
same_time Json tool a b same even =
    ap₂ (λ x y. codes ",\n{\"fact\":\"use_time\",\"tool\":" ++ tool_value tool ++ codes ",\"ticks\":" ++ decimal x ++ codes ",\"seconds\":"
    ++ (decimal (x / y) ++ codes "." ++ three_digits (x % y * 1000 / y)) ++ codes "}") same even

pub time_said : {old new : Option (List ℕ)} {n m : ℕ} {p q : Page} (form : Form) (tool : Option Tool) (a b : RunTime) →
    Says old new n m p q (use_time form tool a) → a.ticks ≡ b.ticks → a.ticks_per_second ≡ b.ticks_per_second → Says old new n m p q (use_time form tool b)
time_said {old} {new} {n} {m} {p} {q} form tool a b said same even = says_as said (same_time form tool a b same even)

-- ---- the lines

pub next_time : (form : Form) (whole : RunTime) (us : List ToolUse) (u : ToolUse) (more : List ToolUse) (ns : List ℕ) (n : ℕ) (later : List ℕ) → us ≡ u ∷ more →
    ns ≡ n ∷ later →
    use_times form whole us ns ≡ use_time form u.tool (record whole { ticks = n }) ++ use_times form whole more later
next_time form whole us u more ns n later is_use is_ticks = ap₂ (λ x y. use_times form whole x y) is_use is_ticks
