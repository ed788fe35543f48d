-- The motions of a use, if there may be fewer.
use Rattle.std.proofs.Common.{◌≡◌, ℕ, ◌+◌, ◌-◌, ◌≤◌, inl, inr, List, [], ◌∷◌, ◌++◌, length, drop, take, min, ap, sym, ◌∙◌, arith}
use Rattle.std.proofs.lemmas.List.{drop-take, take_all, drop_all, drop-drop, length-drop}
use Rattle.ngc_text.proofs.ListPrefixes.{enough}
use Rattle.ngc_machine_files.specs.Machine.{MachineFile}
use Rattle.ngc_certificate_text.specs.Certificate.{Entry}
use Rattle.ngc_findings.specs.Nearing.{nearest}
use Rattle.ngc_report.specs.Reports.{use_lines, near_line, motions_in}
use Rattle.ngc_findings.specs.declared.line.Line.TheVariants as lines
use Rattle.ngc_findings.specs.declared.uses.ToolUse.{ToolUse}

few : {X : Type 0} (n k : ℕ) (xs : List X) → k ≡ min n (length xs) → take k xs ≡ take n xs
few n k xs is = elim (enough n (length xs)) [
  | inl h ↦ ap (λ i. take i xs) (omega arith)
  | inr h ↦ take_all k xs (omega arith) ∙ sym (take_all n xs h)
]

gone : {X : Type 0} (n k : ℕ) (xs : List X) → k ≡ min n (length xs) → drop k xs ≡ drop n xs
gone n k xs is = elim (enough n (length xs)) [
  | inl h ↦ ap (λ i. drop i xs) (omega arith)
  | inr h ↦ drop_all k xs (omega arith) ∙ sym (drop_all n xs h)
]

-- the next use, of the motions from `first` on
pub next_use : (machine : MachineFile) (left : List ToolUse) (u : ToolUse) (us : List ToolUse) (motions : List Entry) (first k end : ℕ) → left ≡ u ∷ us
    → first ≤ length motions → k ≡ min (motions_in u) (length motions - first) → end ≡ first + k
    → use_lines machine left (drop first motions) ≡ (lines.Use u ∷ near_line machine (nearest machine u.tool (drop first (take end motions))) ∷ [])
    ++ use_lines machine us (drop end motions)
next_use machine left u us motions first k end is inside short ends =
    let rest : List Entry = drop first motions in
    let some : k ≡ min (motions_in u) (length rest) = short ∙ ap (λ n. min (motions_in u) n) (sym (length-drop first motions)) in
    let taken : take (motions_in u) rest ≡ drop first (take end motions) =
    sym (few (motions_in u) k rest some) ∙ sym (drop-take first k motions) ∙ ap (λ i. drop first (take i motions)) (sym ends) in
    let left_over : drop (motions_in u) rest ≡ drop end motions =
    sym (gone (motions_in u) k rest some) ∙ drop-drop k first motions ∙ ap (λ i. drop i motions) (sym ends) in
    ap (λ (l : List ToolUse). use_lines machine l rest) is
    ∙ ap (λ (l : List Entry). lines.Use u ∷ near_line machine (nearest machine u.tool l) ∷ use_lines machine us (drop (motions_in u) rest)) taken
    ∙ ap (λ (l : List Entry). lines.Use u ∷ near_line machine (nearest machine u.tool (drop first (take end motions))) ∷ use_lines machine us l) left_over
