-- A listing that is partly written; the next lines are collected first.
use Rattle.std.proofs.Common.{◌≡◌, ◌+◌, ◌<◌, ◌≤◌, ℕ, ℤ, List, [], ◌++◌, length, get_or, drop, Option, ap, sym, subst, ◌∙◌}
use Rattle.std.proofs.lemmas.List.{append_assoc, append-nil, drop_more}
use Rattle.std.proofs.Math.ListN.{drop_of_length-le}
use Rattle.std.specs.Io.KnownBytes.{Appends}
use Rattle.ngc_text.specs.Written.{AppendsPrefix}
use Rattle.ngc_text.proofs.AppendedTexts.{appends_both, begins_after}
use Rattle.ngc_text.specs.Collected.{WritesPrefix}
use Rattle.ngc_commands.specs.declared.command.Command.{Command}
use Rattle.ngc_listing.specs.Listing.{listing_line, listing_from}

-- some bytes are written, then the collected ones follow, and then the rest
abbrev pub Progress : Option (List ℕ) → Option (List ℕ) → List ℕ → List ℕ → List ℕ → Type 0
Progress old now chunk rest whole = (bs : List ℕ) × Appends old now bs × (whole ≡ bs ++ (chunk ++ rest))

-- a prefix of the collected text is written
pub wrote_front : (old mid new : Option (List ℕ)) (before after rest whole : List ℕ) → Progress old mid before rest whole → WritesPrefix mid new before after →
    Progress old new after rest whole
wrote_front old mid new before after rest whole done front =
    let moved : before ++ rest ≡ front.0 ++ (after ++ rest) = ap (λ l. l ++ rest) front.2 ∙ append_assoc front.0 after rest in (
      done.0 ++ front.0,
      appends_both old mid new done.0 front.0 done.1 front.1,
      done.2 ∙ ap (λ l. done.0 ++ l) moved ∙ sym (append_assoc done.0 front.0 (after ++ rest)),
    )

-- the next line is collected
pub collected_line : (step : ℤ) (commands : List Command) (index : ℕ) (d : Command) → index < length commands
    → listing_from index step (drop index commands) ≡ listing_line step index (get_or commands index d)
    ++ listing_from (index + 1) step (drop (index + 1) commands)
collected_line step commands index d h = ap (listing_from index step) (drop_more commands index d h)

pub one_more : (old now : Option (List ℕ)) (step : ℤ) (commands : List Command) (index : ℕ) (command : Command) (before after whole : List ℕ) →
    index < length commands
    → command ≡ get_or commands index command → Progress old now before (listing_from index step (drop index commands)) whole →
    after ≡ before ++ listing_line step index command
    → Progress old now after (listing_from (index + 1) step (drop (index + 1) commands)) whole
one_more old now step commands index command before after whole h found done is =
    let line : List ℕ = listing_line step index (get_or commands index command) in
    let rest : List ℕ = listing_from (index + 1) step (drop (index + 1) commands) in
    let joined : before ++ listing_from index step (drop index commands) ≡ after ++ rest =
    ap (λ l. before ++ l) (collected_line step commands index command h) ∙ sym (append_assoc before line rest)
    ∙ ap (λ l. l ++ rest) (sym (is ∙ ap (λ (x : Command). before ++ listing_line step index x) found)) in
    (done.0, done.1, done.2 ∙ ap (λ l. done.0 ++ l) joined)

-- after the last line nothing remains
pub no_rest : (step : ℤ) (commands : List Command) (index : ℕ) → length commands ≤ index → listing_from index step (drop index commands) ≡ []
no_rest step commands index h = ap (listing_from index step) (drop_of_length-le commands h)

-- a part of the collected text was written
pub stopped : (old mid new : Option (List ℕ)) (chunk rest whole : List ℕ) → Progress old mid chunk rest whole → AppendsPrefix mid new chunk →
    AppendsPrefix old new whole
stopped old mid new chunk rest whole done part =
    let P : List ℕ → Type 0 = λ text. AppendsPrefix old new text in
    subst P (sym done.2) (begins_after old mid new done.0 chunk rest done.1 part)

-- all is written
pub finished : (old mid new : Option (List ℕ)) (chunk rest whole : List ℕ) → rest ≡ [] → Progress old mid chunk rest whole → Appends mid new chunk →
    Appends old new whole
finished old mid new chunk rest whole none done all =
    let P : List ℕ → Type 0 = λ text. Appends old new text in
    subst P (sym (done.2 ∙ ap (λ l. done.0 ++ (chunk ++ l)) none ∙ ap (λ l. done.0 ++ l) (append-nil chunk))) (appends_both old mid new done.0 chunk done.1 all)
