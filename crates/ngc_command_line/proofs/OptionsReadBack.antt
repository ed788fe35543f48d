-- The options are read back from the words in which they are written.
use Rattle.std.proofs.Common.{◌≡◌, ◌==◌, ◌∙◌, [], ◌∷◌, cond, drop, if◌then◌else◌, ℕ, Bool, true, false, List, Option, Some, None, refl, inl, inr, subst, sym}
use Rattle.std.proofs.Common.{codes, ◌≤◌, ◌<◌, ◌^◌, ap, option_map, arith}
use Rattle.std.specs.Prelude.{unwrap_or, IsSome}
use Rattle.ngc_margins.specs.Changes.{no_changes}
use Rattle.ngc_margins.specs.declared.changes.Changes.{Changes}
use Rattle.std.specs.Fmt.{decimal}
use Rattle.std.specs.Str.Parse.{IsNumeral, digits_value, without_leading_plus}
use Rattle.std.proofs.lemmas.Fmt.{decimal_is_IsNumeral}
use Rattle.std.proofs.lemmas.Option.{same_Some}
use Rattle.clap.specs.Words.{Row, Text, first_of, subcommand_of}
use Rattle.clap.proofs.OnLiterals.{clap_on_literals}
use Rattle.clap.specs.Values.{IsUnsignedIn}
use Rattle.clap.specs.ValueTests.{accepts}
use Rattle.clap.specs.Kinds.{Kinds, or_else, value_kinds}
use Rattle.clap.specs.declared.error.kind.ErrorKind.{ErrorKind}
use Rattle.std.proofs.lemmas.Bool.{ne_eqb}
use Rattle.std.proofs.lemmas.Str.Parse.{digit_from_value}
use Rattle.clap.specs.declared.builder.value_parser.ValueParser.TheVariants.{Unsigned}
use Rattle.clap.proofs.ValueTestLemmas.{Accepts-accepts}
use Rattle.ngc_command_line.specs.CommandLine.{MachineSource, FromGrbl, FromFigures, adapt_words, machine_words}
use Rattle.ngc_command_line.specs.CommandLine.{certify_words, check_words, draw_words, format_text, help_words, list_words, live_words, ngc_app, place_words, report_words, run_name}
use Rattle.ngc_command_line.specs.CommandLine.{run_words, show_words}
use Rattle.ngc_command_line.specs.Meant.{AreCells, AreCommands, AreCuts, AreCutsInRange, AreOptions, IsCertifyRequest, IsCheckRequest, IsDrawRequest, IsHelpRequest, IsListRequest}
use Rattle.ngc_command_line.specs.Meant.{IsAdaptRequest, IsLiveRequest, IsMachineRequest, acceleration_in, feed_in, grbl_in, steps_in, travel_in}
use Rattle.ngc_command_line.specs.Meant.{ChangeTexts, HaveChanges, change_texts, changes_in, changes_written, no_texts}
use Rattle.ngc_command_line.specs.Meant.{IsPlaceRequest, IsReportRequest, IsRunRequest, IsShowRequest, IsFormat, IsMask, IsTaken, is_set}
use Rattle.ngc_command_line.specs.declared.options.Format.{Format}
use Rattle.ngc_command_line.specs.declared.options.Format.TheVariants.{One, Two}
use Rattle.ngc_command_line.specs.declared.options.Options.{Options}
use Rattle.ngc_command_line.specs.declared.options.Options.TheVariants.{Adapt as ToAdapt, Machine as ToMachine}
use Rattle.ngc_command_line.specs.declared.options.Options.TheVariants.{Certify as ToCertify, Check as ToCheck, Draw as ToDraw, Explain as ToExplain, Live as ToLive}
use Rattle.ngc_command_line.specs.declared.options.Options.TheVariants.{Help as ToHelp, List as ToList, Place as ToPlace, Report as ToReport, Run as ToRun}
use Rattle.ngc_command_line.specs.declared.options.Options.TheVariants.{RunThrough as ToRunThrough, Show as ToShow, Version as ToVersion}
use Rattle.ngc_command_line.specs.declared.options.Recording.{Recording}
use Rattle.ngc_command_line.specs.declared.options.Recording.TheVariants.{Log, Pulses}
use Rattle.ngc_command_line.proofs.RequiredValues.{no_run, other_letter, other_name, other_third, report_is_no_run}

-- the words are taken, and this holds of the subcommand that they name
abbrev Spells : List Text → (Option (Text × List Row) → Type 0) → Type 0
Spells words Finds = IsTaken words × Finds (subcommand_of ngc_app words)

-- no key is replaced where no value of such an option was found
none_replaced : (rows : List Row) (changes : Changes) → changes_in rows ≡ Some changes → change_texts rows ≡ no_texts → changes ≡ no_changes
none_replaced rows changes are none =
    let In : ChangeTexts → Type 0 = λ texts. changes_written texts ≡ Some changes in
    let said : Some no_changes ≡ Some changes = subst In none are in
    sym (same_Some _ _ said)

-- words without such options have no wrong one
none_wrong : (found : Text × List Row) → change_texts found.1 ≡ no_texts → HaveChanges (Some found)
none_wrong found none =
    let Are : ChangeTexts → Type 0 = λ texts. IsSome (changes_written texts) in
    subst Are (sym none) refl

-- a wrong value isn't in words without one
pub wrong_changes : {X : Type 0} (found : Option (Text × List Row)) (name : Text) (rows : List Row) → found ≡ Some (name, rows)
    → changes_in rows ≡ None → HaveChanges found → X
wrong_changes found name rows is wrong have =
    let said : HaveChanges (Some (name, rows)) = subst HaveChanges is have in
    let refused : Option Changes = None in
    let bad : IsSome refused = subst (λ (r : Option Changes). IsSome r) wrong said in
    cc

-- the values of `list` that were found are these
abbrev FindsList : Option Text → Option Text → Option Text → Bool → Option (Text × List Row) → Type 0
FindsList program machine tools delete None = ⊥
FindsList program machine tools delete (Some found) = (found.0 ≡ codes "list") × (first_of (codes "program") found.1 ≡ program)
    × (first_of (codes "machine") found.1 ≡ machine) × (first_of (codes "tools") found.1 ≡ tools) × (is_set (codes "delete") found.1 ≡ delete)
    × (change_texts found.1 ≡ no_texts) × (first_of (codes "dialect") found.1 ≡ None)

list_spells : (program machine tools : Option Text) (delete : Bool) → Spells (list_words program machine tools delete) (FindsList program machine tools delete)
unfolding clap_on_literals
list_spells None None None false = (refl, (refl, refl, refl, refl, refl, refl, refl))
list_spells None None None true = (refl, (refl, refl, refl, refl, refl, refl, refl))
list_spells None None (Some tools) false = (refl, (refl, refl, refl, refl, refl, refl, refl))
list_spells None None (Some tools) true = (refl, (refl, refl, refl, refl, refl, refl, refl))
list_spells None (Some machine) None false = (refl, (refl, refl, refl, refl, refl, refl, refl))
list_spells None (Some machine) None true = (refl, (refl, refl, refl, refl, refl, refl, refl))
list_spells None (Some machine) (Some tools) false = (refl, (refl, refl, refl, refl, refl, refl, refl))
list_spells None (Some machine) (Some tools) true = (refl, (refl, refl, refl, refl, refl, refl, refl))
list_spells (Some program) None None false = (refl, (refl, refl, refl, refl, refl, refl, refl))
list_spells (Some program) None None true = (refl, (refl, refl, refl, refl, refl, refl, refl))
list_spells (Some program) None (Some tools) false = (refl, (refl, refl, refl, refl, refl, refl, refl))
list_spells (Some program) None (Some tools) true = (refl, (refl, refl, refl, refl, refl, refl, refl))
list_spells (Some program) (Some machine) None false = (refl, (refl, refl, refl, refl, refl, refl, refl))
list_spells (Some program) (Some machine) None true = (refl, (refl, refl, refl, refl, refl, refl, refl))
list_spells (Some program) (Some machine) (Some tools) false = (refl, (refl, refl, refl, refl, refl, refl, refl))
list_spells (Some program) (Some machine) (Some tools) true = (refl, (refl, refl, refl, refl, refl, refl, refl))

requested_list : (program machine tools : Option Text) (delete : Bool) (found : Option (Text × List Row)) (options : Options) →
    FindsList program machine tools delete found
    → AreOptions found options → IsListRequest program machine tools delete options
requested_list program machine tools delete None options finds are = absurd finds
requested_list program machine tools delete (Some found) (ToList list) finds are = (
  are.1.program ∙ finds.1,
  are.1.machine ∙ finds.2,
  are.1.tools ∙ finds.3,
  are.1.delete ∙ finds.4,
  none_replaced found.1 list.changes are.1.changes finds.5,
  are.1.dialect ∙ finds.6,
)
requested_list program machine tools delete (Some found) (ToCertify certify) finds are =
    other_name (codes "list") (codes "certify") (sym finds.0 ∙ are.0) (λ lengths. omega (arith, lengths))
requested_list program machine tools delete (Some found) (ToCheck check) finds are =
    other_name (codes "list") (codes "check") (sym finds.0 ∙ are.0) (λ lengths. omega (arith, lengths))
requested_list program machine tools delete (Some found) (ToRun run) finds are =
    no_run (codes "list") run.recording (sym finds.0 ∙ are.0) (λ three. omega (arith, three)) (λ six. omega (arith, six))
requested_list program machine tools delete (Some found) (ToRunThrough run) finds are =
    no_run (codes "list") run.recording (sym finds.0 ∙ are.0) (λ three. omega (arith, three)) (λ six. omega (arith, six))
requested_list program machine tools delete (Some found) (ToLive live) finds are =
    other_third (codes "list") (codes "live") (sym finds.0 ∙ are.0) (λ thirds. omega (arith, thirds))
requested_list program machine tools delete (Some found) (ToDraw draw) finds are =
    other_letter (codes "list") (codes "draw") (sym finds.0 ∙ are.0) (λ letters. omega (arith, letters))
requested_list program machine tools delete (Some found) (ToShow show) finds are =
    other_letter (codes "list") (codes "show") (sym finds.0 ∙ are.0) (λ letters. omega (arith, letters))
requested_list program machine tools delete (Some found) (ToReport report) finds are =
    other_name (codes "list") (codes "report") (sym finds.0 ∙ are.0) (λ lengths. omega (arith, lengths))
requested_list program machine tools delete (Some found) (ToPlace place) finds are =
    other_name (codes "list") (codes "place") (sym finds.0 ∙ are.0) (λ lengths. omega (arith, lengths))
requested_list program machine tools delete (Some found) (ToAdapt adapt) finds are =
    other_letter (codes "list") (codes "adapt") (sym finds.0 ∙ are.0) (λ letters. omega (arith, letters))
requested_list program machine tools delete (Some found) (ToMachine made) finds are =
    other_letter (codes "list") (codes "machine") (sym finds.0 ∙ are.0) (λ letters. omega (arith, letters))
requested_list program machine tools delete (Some found) (ToExplain number) finds are =
    other_name (codes "list") (codes "explain") (sym finds.0 ∙ are.0) (λ differ. omega (arith, differ))
requested_list program machine tools delete (Some found) (ToHelp command) finds are =
    other_letter (codes "list") (codes "help") (sym finds.0 ∙ are.0) (λ differ. omega (arith, differ))
requested_list program machine tools delete (Some found) ToVersion finds are =
    other_name (codes "list") (codes "version") (sym finds.0 ∙ are) (λ differ. omega (arith, differ))

pub list_taken : (words : List Text) (program machine tools : Option Text) (delete : Bool) → words ≡ list_words program machine tools delete → IsTaken words
list_taken words program machine tools delete spelled = subst IsTaken (sym spelled) (list_spells program machine tools delete).0

list_have : (found : Option (Text × List Row)) (program : Option Text) (machine : Option Text) (tools : Option Text) (delete : Bool) → FindsList program machine tools delete found → HaveChanges found
list_have None program machine tools delete finds = absurd finds
list_have (Some found) program machine tools delete finds = none_wrong found finds.5

pub list_changes : (words : List Text) (program machine tools : Option Text) (delete : Bool) → words ≡ list_words program machine tools delete → HaveChanges (subcommand_of ngc_app words)
list_changes words program machine tools delete spelled =
    let Have : List Text → Type 0 = λ ws. HaveChanges (subcommand_of ngc_app ws) in
    subst Have (sym spelled) (list_have _ program machine tools delete (list_spells program machine tools delete).1)

pub list_read : (words : List Text) (program machine tools : Option Text) (delete : Bool) (options : Options) → words ≡ list_words program machine tools delete
    → AreOptions (subcommand_of ngc_app words) options → IsListRequest program machine tools delete options
list_read words program machine tools delete options spelled are =
    let Are : List Text → Type 0 = λ ws. AreOptions (subcommand_of ngc_app ws) options in
    requested_list program machine tools delete _ options (list_spells program machine tools delete).1 (subst Are spelled are)

-- the values of `check` that were found are these
abbrev FindsCheck : Text → Text → Text → Option Text → Option (Text × List Row) → Type 0
FindsCheck machine tools certificate program None = ⊥
FindsCheck machine tools certificate program (Some found) = (found.0 ≡ codes "check") × (first_of (codes "machine") found.1 ≡ Some machine)
    × (first_of (codes "tools") found.1 ≡ Some tools) × (first_of (codes "certificate") found.1 ≡ Some certificate) ×
    (first_of (codes "program") found.1 ≡ program)
    × (change_texts found.1 ≡ no_texts) × (first_of (codes "dialect") found.1 ≡ None)

check_spells : (machine tools certificate : Text) (program : Option Text) →
    Spells (check_words machine tools certificate program) (FindsCheck machine tools certificate program)
unfolding clap_on_literals
check_spells machine tools certificate None = (refl, (refl, refl, refl, refl, refl, refl, refl))
check_spells machine tools certificate (Some program) = (refl, (refl, refl, refl, refl, refl, refl, refl))

pub same_text : (a b : Text) (o : Option Text) → Some a ≡ o → o ≡ Some b → a ≡ b
same_text a b o first second = same_Some _ _ (first ∙ second)

requested_check : (machine tools certificate : Text) (program : Option Text) (found : Option (Text × List Row)) (options : Options)
    → FindsCheck machine tools certificate program found → AreOptions found options → IsCheckRequest machine tools certificate program options
requested_check machine tools certificate program None options finds are = absurd finds
requested_check machine tools certificate program (Some found) (ToCheck check) finds are = (
  same_text _ _ _ are.1.machine finds.1,
  same_text _ _ _ are.1.tools finds.2,
  same_text _ _ _ are.1.certificate finds.3,
  are.1.program ∙ finds.4,
  none_replaced found.1 check.changes are.1.changes finds.5,
  are.1.dialect ∙ finds.6,
)
requested_check machine tools certificate program (Some found) (ToCertify certify) finds are =
    other_name (codes "check") (codes "certify") (sym finds.0 ∙ are.0) (λ lengths. omega (arith, lengths))
requested_check machine tools certificate program (Some found) (ToList list) finds are =
    other_name (codes "check") (codes "list") (sym finds.0 ∙ are.0) (λ lengths. omega (arith, lengths))
requested_check machine tools certificate program (Some found) (ToRun run) finds are =
    no_run (codes "check") run.recording (sym finds.0 ∙ are.0) (λ three. omega (arith, three)) (λ six. omega (arith, six))
requested_check machine tools certificate program (Some found) (ToRunThrough run) finds are =
    no_run (codes "check") run.recording (sym finds.0 ∙ are.0) (λ three. omega (arith, three)) (λ six. omega (arith, six))
requested_check machine tools certificate program (Some found) (ToLive live) finds are =
    other_letter (codes "check") (codes "live") (sym finds.0 ∙ are.0) (λ letters. omega (arith, letters))
requested_check machine tools certificate program (Some found) (ToDraw draw) finds are =
    other_name (codes "check") (codes "draw") (sym finds.0 ∙ are.0) (λ lengths. omega (arith, lengths))
requested_check machine tools certificate program (Some found) (ToShow show) finds are =
    other_letter (codes "check") (codes "show") (sym finds.0 ∙ are.0) (λ letters. omega (arith, letters))
requested_check machine tools certificate program (Some found) (ToReport report) finds are =
    other_name (codes "check") (codes "report") (sym finds.0 ∙ are.0) (λ lengths. omega (arith, lengths))
requested_check machine tools certificate program (Some found) (ToPlace place) finds are =
    other_letter (codes "check") (codes "place") (sym finds.0 ∙ are.0) (λ letters. omega (arith, letters))
requested_check machine tools certificate program (Some found) (ToAdapt adapt) finds are =
    other_letter (codes "check") (codes "adapt") (sym finds.0 ∙ are.0) (λ letters. omega (arith, letters))
requested_check machine tools certificate program (Some found) (ToMachine made) finds are =
    other_letter (codes "check") (codes "machine") (sym finds.0 ∙ are.0) (λ letters. omega (arith, letters))
requested_check machine tools certificate program (Some found) (ToExplain number) finds are =
    other_name (codes "check") (codes "explain") (sym finds.0 ∙ are.0) (λ differ. omega (arith, differ))
requested_check machine tools certificate program (Some found) (ToHelp command) finds are =
    other_name (codes "check") (codes "help") (sym finds.0 ∙ are.0) (λ differ. omega (arith, differ))
requested_check machine tools certificate program (Some found) ToVersion finds are =
    other_name (codes "check") (codes "version") (sym finds.0 ∙ are) (λ differ. omega (arith, differ))

pub check_taken : (words : List Text) (machine tools certificate : Text) (program : Option Text) → words ≡ check_words machine tools certificate program →
    IsTaken words
check_taken words machine tools certificate program spelled = subst IsTaken (sym spelled) (check_spells machine tools certificate program).0

check_have : (found : Option (Text × List Row)) (machine : Text) (tools : Text) (certificate : Text) (program : Option Text) → FindsCheck machine tools certificate program found → HaveChanges found
check_have None machine tools certificate program finds = absurd finds
check_have (Some found) machine tools certificate program finds = none_wrong found finds.5

pub check_changes : (words : List Text) (machine tools certificate : Text) (program : Option Text) → words ≡ check_words machine tools certificate program → HaveChanges (subcommand_of ngc_app words)
check_changes words machine tools certificate program spelled =
    let Have : List Text → Type 0 = λ ws. HaveChanges (subcommand_of ngc_app ws) in
    subst Have (sym spelled) (check_have _ machine tools certificate program (check_spells machine tools certificate program).1)

pub check_read : (words : List Text) (machine tools certificate : Text) (program : Option Text) (options : Options) →
    words ≡ check_words machine tools certificate program
    → AreOptions (subcommand_of ngc_app words) options → IsCheckRequest machine tools certificate program options
check_read words machine tools certificate program options spelled are =
    let Are : List Text → Type 0 = λ ws. AreOptions (subcommand_of ngc_app ws) options in
    requested_check machine tools certificate program _ options (check_spells machine tools certificate program).1 (subst Are spelled are)

-- the values of a run that were found are these
abbrev FindsRun : Recording → Text → Text → Text → Option Text → Option Text → Bool → Option Text → Option (Text × List Row) → Type 0
FindsRun recording machine tools certificate events program delete output None = ⊥
FindsRun recording machine tools certificate events program delete output (Some found) = (found.0 ≡ run_name recording)
    × (first_of (codes "machine") found.1 ≡ Some machine) × (first_of (codes "tools") found.1 ≡ Some tools)
    × (first_of (codes "certificate") found.1 ≡ Some certificate) × (first_of (codes "events") found.1 ≡ events)
    × (first_of (codes "program") found.1 ≡ program) × (is_set (codes "delete") found.1 ≡ delete)
    × (first_of (codes "output") found.1 ≡ output) × (first_of (codes "inverted") found.1 ≡ None)
    × (change_texts found.1 ≡ no_texts) × (first_of (codes "dialect") found.1 ≡ None)

run_spells : (recording : Recording) (machine tools certificate : Text) (events program : Option Text) (delete : Bool) (output : Option Text)
    → Spells (run_words recording machine tools certificate events program delete output) (FindsRun recording machine tools certificate events program delete output)
unfolding clap_on_literals
run_spells Log machine tools certificate None None false None = (refl, (refl, refl, refl, refl, refl, refl, refl, refl, refl, refl, refl))
run_spells Log machine tools certificate None None false (Some output) = (refl, (refl, refl, refl, refl, refl, refl, refl, refl, refl, refl, refl))
run_spells Log machine tools certificate None None true None = (refl, (refl, refl, refl, refl, refl, refl, refl, refl, refl, refl, refl))
run_spells Log machine tools certificate None None true (Some output) = (refl, (refl, refl, refl, refl, refl, refl, refl, refl, refl, refl, refl))
run_spells Log machine tools certificate None (Some program) false None = (refl, (refl, refl, refl, refl, refl, refl, refl, refl, refl, refl, refl))
run_spells Log machine tools certificate None (Some program) false (Some output) = (refl, (refl, refl, refl, refl, refl, refl, refl, refl, refl, refl, refl))
run_spells Log machine tools certificate None (Some program) true None = (refl, (refl, refl, refl, refl, refl, refl, refl, refl, refl, refl, refl))
run_spells Log machine tools certificate None (Some program) true (Some output) = (refl, (refl, refl, refl, refl, refl, refl, refl, refl, refl, refl, refl))
run_spells Log machine tools certificate (Some events) None false None = (refl, (refl, refl, refl, refl, refl, refl, refl, refl, refl, refl, refl))
run_spells Log machine tools certificate (Some events) None false (Some output) = (refl, (refl, refl, refl, refl, refl, refl, refl, refl, refl, refl, refl))
run_spells Log machine tools certificate (Some events) None true None = (refl, (refl, refl, refl, refl, refl, refl, refl, refl, refl, refl, refl))
run_spells Log machine tools certificate (Some events) None true (Some output) = (refl, (refl, refl, refl, refl, refl, refl, refl, refl, refl, refl, refl))
run_spells Log machine tools certificate (Some events) (Some program) false None = (refl, (refl, refl, refl, refl, refl, refl, refl, refl, refl, refl, refl))
run_spells Log machine tools certificate (Some events) (Some program) false (Some output) = (refl, (refl, refl, refl, refl, refl, refl, refl, refl, refl, refl, refl))
run_spells Log machine tools certificate (Some events) (Some program) true None = (refl, (refl, refl, refl, refl, refl, refl, refl, refl, refl, refl, refl))
run_spells Log machine tools certificate (Some events) (Some program) true (Some output) = (refl, (refl, refl, refl, refl, refl, refl, refl, refl, refl, refl, refl))
run_spells Pulses machine tools certificate None None false None = (refl, (refl, refl, refl, refl, refl, refl, refl, refl, refl, refl, refl))
run_spells Pulses machine tools certificate None None false (Some output) = (refl, (refl, refl, refl, refl, refl, refl, refl, refl, refl, refl, refl))
run_spells Pulses machine tools certificate None None true None = (refl, (refl, refl, refl, refl, refl, refl, refl, refl, refl, refl, refl))
run_spells Pulses machine tools certificate None None true (Some output) = (refl, (refl, refl, refl, refl, refl, refl, refl, refl, refl, refl, refl))
run_spells Pulses machine tools certificate None (Some program) false None = (refl, (refl, refl, refl, refl, refl, refl, refl, refl, refl, refl, refl))
run_spells Pulses machine tools certificate None (Some program) false (Some output) = (refl, (refl, refl, refl, refl, refl, refl, refl, refl, refl, refl, refl))
run_spells Pulses machine tools certificate None (Some program) true None = (refl, (refl, refl, refl, refl, refl, refl, refl, refl, refl, refl, refl))
run_spells Pulses machine tools certificate None (Some program) true (Some output) = (refl, (refl, refl, refl, refl, refl, refl, refl, refl, refl, refl, refl))
run_spells Pulses machine tools certificate (Some events) None false None = (refl, (refl, refl, refl, refl, refl, refl, refl, refl, refl, refl, refl))
run_spells Pulses machine tools certificate (Some events) None false (Some output) = (refl, (refl, refl, refl, refl, refl, refl, refl, refl, refl, refl, refl))
run_spells Pulses machine tools certificate (Some events) None true None = (refl, (refl, refl, refl, refl, refl, refl, refl, refl, refl, refl, refl))
run_spells Pulses machine tools certificate (Some events) None true (Some output) = (refl, (refl, refl, refl, refl, refl, refl, refl, refl, refl, refl, refl))
run_spells Pulses machine tools certificate (Some events) (Some program) false None = (refl, (refl, refl, refl, refl, refl, refl, refl, refl, refl, refl, refl))
run_spells Pulses machine tools certificate (Some events) (Some program) false (Some output) = (refl, (refl, refl, refl, refl, refl, refl, refl, refl, refl, refl, refl))
run_spells Pulses machine tools certificate (Some events) (Some program) true None = (refl, (refl, refl, refl, refl, refl, refl, refl, refl, refl, refl, refl))
run_spells Pulses machine tools certificate (Some events) (Some program) true (Some output) = (refl, (refl, refl, refl, refl, refl, refl, refl, refl, refl, refl, refl))

-- no bits are turned over
no_mask : (found : Option Text) (mask : ℕ) → IsMask found mask → found ≡ None → mask ≡ 0
no_mask None mask is none = is
no_mask (Some text) mask is none = let h : Some text ≡ None = none in cc

-- what writes the one isn't called as what writes the other
same_recording : (a b : Recording) → run_name a ≡ run_name b → a ≡ b
same_recording Log Log same = refl
same_recording Log Pulses same = other_name (codes "run") (codes "pulses") same (λ lengths. omega (arith, lengths))
same_recording Pulses Log same = other_name (codes "pulses") (codes "run") same (λ lengths. omega (arith, lengths))
same_recording Pulses Pulses same = refl

requested_run : (recording : Recording) (machine tools certificate : Text) (events program : Option Text) (delete : Bool) (output : Option Text) (found : Option (Text × List Row))
    (options : Options)
    → FindsRun recording machine tools certificate events program delete output found → AreOptions found options
    → IsRunRequest recording machine tools certificate events program delete output options
requested_run recording machine tools certificate events program delete output None options finds are = absurd finds
requested_run recording machine tools certificate (Some events) program delete output (Some found) (ToRun run) finds are = (
  same_recording _ _ (sym are.0 ∙ finds.0),
  same_text _ _ _ are.1.machine finds.1,
  same_text _ _ _ are.1.tools finds.2,
  same_text _ _ _ are.1.certificate finds.3,
  same_text _ _ _ are.1.events finds.4,
  are.1.program ∙ finds.5,
  are.1.delete ∙ finds.6,
  are.1.output ∙ finds.7,
  no_mask _ run.inverted are.1.inverted finds.8,
  none_replaced found.1 run.changes are.1.changes finds.9,
  are.1.dialect ∙ finds.10,
)
requested_run recording machine tools certificate None program delete output (Some found) (ToRun run) finds are = let h : Some run.events.now ≡ None =
    are.1.events ∙ finds.4 in cc
requested_run recording machine tools certificate (Some events) program delete output (Some found) (ToRunThrough run) finds are = let h : None ≡ Some events =
    are.1.events ∙ finds.4 in cc
requested_run recording machine tools certificate None program delete output (Some found) (ToRunThrough run) finds are = (
  same_recording _ _ (sym are.0 ∙ finds.0),
  same_text _ _ _ are.1.machine finds.1,
  same_text _ _ _ are.1.tools finds.2,
  same_text _ _ _ are.1.certificate finds.3,
  are.1.program ∙ finds.5,
  are.1.delete ∙ finds.6,
  are.1.output ∙ finds.7,
  no_mask _ run.inverted are.1.inverted finds.8,
  none_replaced found.1 run.changes are.1.changes finds.9,
  are.1.dialect ∙ finds.10,
)
requested_run recording machine tools certificate events program delete output (Some found) (ToList list) finds are =
    no_run (codes "list") recording (sym (are.0) ∙ finds.0) (λ three. omega (arith, three)) (λ six. omega (arith, six))
requested_run recording machine tools certificate events program delete output (Some found) (ToCertify certify) finds are =
    no_run (codes "certify") recording (sym (are.0) ∙ finds.0) (λ three. omega (arith, three)) (λ six. omega (arith, six))
requested_run recording machine tools certificate events program delete output (Some found) (ToCheck check) finds are =
    no_run (codes "check") recording (sym (are.0) ∙ finds.0) (λ three. omega (arith, three)) (λ six. omega (arith, six))
requested_run recording machine tools certificate events program delete output (Some found) (ToLive live) finds are =
    no_run (codes "live") recording (sym (are.0) ∙ finds.0) (λ three. omega (arith, three)) (λ six. omega (arith, six))
requested_run recording machine tools certificate events program delete output (Some found) (ToDraw draw) finds are =
    no_run (codes "draw") recording (sym (are.0) ∙ finds.0) (λ three. omega (arith, three)) (λ six. omega (arith, six))
requested_run recording machine tools certificate events program delete output (Some found) (ToShow show) finds are =
    no_run (codes "show") recording (sym (are.0) ∙ finds.0) (λ three. omega (arith, three)) (λ six. omega (arith, six))
requested_run recording machine tools certificate events program delete output (Some found) (ToReport report) finds are = report_is_no_run recording (sym are.0 ∙ finds.0)
requested_run recording machine tools certificate events program delete output (Some found) (ToPlace place) finds are =
    no_run (codes "place") recording (sym are.0 ∙ finds.0) (λ three. omega (arith, three)) (λ six. omega (arith, six))
requested_run recording machine tools certificate events program delete output (Some found) (ToAdapt adapt) finds are =
    no_run (codes "adapt") recording (sym (are.0) ∙ finds.0) (λ three. omega (arith, three)) (λ six. omega (arith, six))
requested_run recording machine tools certificate events program delete output (Some found) (ToMachine made) finds are =
    no_run (codes "machine") recording (sym (are.0) ∙ finds.0) (λ three. omega (arith, three)) (λ six. omega (arith, six))
requested_run recording machine tools certificate events program delete output (Some found) (ToExplain number) finds are =
    no_run (codes "explain") recording (sym (are.0) ∙ finds.0) (λ three. omega (arith, three)) (λ six. omega (arith, six))
requested_run recording machine tools certificate events program delete output (Some found) (ToHelp command) finds are =
    no_run (codes "help") recording (sym (are.0) ∙ finds.0) (λ three. omega (arith, three)) (λ six. omega (arith, six))
requested_run recording machine tools certificate events program delete output (Some found) ToVersion finds are =
    no_run (codes "version") recording (sym (are) ∙ finds.0) (λ three. omega (arith, three)) (λ six. omega (arith, six))

pub run_taken : (words : List Text) (recording : Recording) (machine tools certificate : Text) (events program : Option Text) (delete : Bool) (output : Option Text)
    → words ≡ run_words recording machine tools certificate events program delete output → IsTaken words
run_taken words recording machine tools certificate events program delete output spelled =
    subst IsTaken (sym spelled) (run_spells recording machine tools certificate events program delete output).0

run_have : (found : Option (Text × List Row)) (recording : Recording) (machine : Text) (tools : Text) (certificate : Text) (events : Option Text) (program : Option Text) (delete : Bool) (output : Option Text) → FindsRun recording machine tools certificate events program delete output found → HaveChanges found
run_have None recording machine tools certificate events program delete output finds = absurd finds
run_have (Some found) recording machine tools certificate events program delete output finds = none_wrong found finds.9

pub run_changes : (words : List Text) (recording : Recording) (machine tools certificate : Text) (events program : Option Text) (delete : Bool) (output : Option Text) → words ≡ run_words recording machine tools certificate events program delete output → HaveChanges (subcommand_of ngc_app words)
run_changes words recording machine tools certificate events program delete output spelled =
    let Have : List Text → Type 0 = λ ws. HaveChanges (subcommand_of ngc_app ws) in
    subst Have (sym spelled) (run_have _ recording machine tools certificate events program delete output (run_spells recording machine tools certificate events program delete output).1)

pub run_read : (words : List Text) (recording : Recording) (machine tools certificate : Text) (events program : Option Text) (delete : Bool) (output : Option Text) (options : Options)
    → words ≡ run_words recording machine tools certificate events program delete output → AreOptions (subcommand_of ngc_app words) options
    → IsRunRequest recording machine tools certificate events program delete output options
run_read words recording machine tools certificate events program delete output options spelled are =
    let Are : List Text → Type 0 = λ ws. AreOptions (subcommand_of ngc_app ws) options in
    requested_run recording machine tools certificate events program delete output _ options (run_spells recording machine tools certificate events program delete output).1
    (subst Are spelled are)

-- the values of `live` that were found are these
abbrev FindsLive : Text → Text → Text → Text → Bool → Option Text → Bool → Option (Text × List Row) → Type 0
FindsLive machine tools certificate program delete output feed_ring None = ⊥
FindsLive machine tools certificate program delete output feed_ring (Some found) = (found.0 ≡ codes "live") × (first_of (codes "machine") found.1 ≡ Some machine)
    × (first_of (codes "tools") found.1 ≡ Some tools) × (first_of (codes "certificate") found.1 ≡ Some certificate)
    × (first_of (codes "program") found.1 ≡ Some program) × (is_set (codes "delete") found.1 ≡ delete)
    × (first_of (codes "output") found.1 ≡ output) × (first_of (codes "inverted") found.1 ≡ None) × (is_set (codes "feed-ring") found.1 ≡ feed_ring)
    × (is_set (codes "abort") found.1 ≡ false) × (change_texts found.1 ≡ no_texts)
    × (first_of (codes "dialect") found.1 ≡ None)

live_spells : (machine tools certificate program : Text) (delete : Bool) (output : Option Text) (feed_ring : Bool)
    → Spells (live_words machine tools certificate program delete output feed_ring) (FindsLive machine tools certificate program delete output feed_ring)
unfolding clap_on_literals
live_spells machine tools certificate program false None false = (refl, (refl, refl, refl, refl, refl, refl, refl, refl, refl, refl, refl, refl))
live_spells machine tools certificate program false None true = (refl, (refl, refl, refl, refl, refl, refl, refl, refl, refl, refl, refl, refl))
live_spells machine tools certificate program false (Some output) false = (refl, (refl, refl, refl, refl, refl, refl, refl, refl, refl, refl, refl, refl))
live_spells machine tools certificate program false (Some output) true = (refl, (refl, refl, refl, refl, refl, refl, refl, refl, refl, refl, refl, refl))
live_spells machine tools certificate program true None false = (refl, (refl, refl, refl, refl, refl, refl, refl, refl, refl, refl, refl, refl))
live_spells machine tools certificate program true None true = (refl, (refl, refl, refl, refl, refl, refl, refl, refl, refl, refl, refl, refl))
live_spells machine tools certificate program true (Some output) false = (refl, (refl, refl, refl, refl, refl, refl, refl, refl, refl, refl, refl, refl))
live_spells machine tools certificate program true (Some output) true = (refl, (refl, refl, refl, refl, refl, refl, refl, refl, refl, refl, refl, refl))

requested_live : (machine tools certificate program : Text) (delete : Bool) (output : Option Text) (feed_ring : Bool) (found : Option (Text × List Row)) (options : Options)
    → FindsLive machine tools certificate program delete output feed_ring found → AreOptions found options →
    IsLiveRequest machine tools certificate program delete output feed_ring options
requested_live machine tools certificate program delete output feed_ring None options finds are = absurd finds
requested_live machine tools certificate program delete output feed_ring (Some found) (ToLive live) finds are = (
  same_text _ _ _ are.1.machine finds.1,
  same_text _ _ _ are.1.tools finds.2,
  same_text _ _ _ are.1.certificate finds.3,
  same_text _ _ _ are.1.program finds.4,
  are.1.delete ∙ finds.5,
  are.1.output ∙ finds.6,
  no_mask _ live.inverted are.1.inverted finds.7,
  are.1.feed_ring ∙ finds.8,
  are.1.aborts ∙ finds.9,
  none_replaced found.1 live.changes are.1.changes finds.10,
  are.1.dialect ∙ finds.11,
)
requested_live machine tools certificate program delete output feed_ring (Some found) (ToList list) finds are =
    other_third (codes "live") (codes "list") (sym finds.0 ∙ are.0) (λ thirds. omega (arith, thirds))
requested_live machine tools certificate program delete output feed_ring (Some found) (ToCertify certify) finds are =
    other_letter (codes "live") (codes "certify") (sym finds.0 ∙ are.0) (λ letters. omega (arith, letters))
requested_live machine tools certificate program delete output feed_ring (Some found) (ToCheck check) finds are =
    other_letter (codes "live") (codes "check") (sym finds.0 ∙ are.0) (λ letters. omega (arith, letters))
requested_live machine tools certificate program delete output feed_ring (Some found) (ToRun run) finds are =
    no_run (codes "live") run.recording (sym finds.0 ∙ are.0) (λ three. omega (arith, three)) (λ six. omega (arith, six))
requested_live machine tools certificate program delete output feed_ring (Some found) (ToRunThrough run) finds are =
    no_run (codes "live") run.recording (sym finds.0 ∙ are.0) (λ three. omega (arith, three)) (λ six. omega (arith, six))
requested_live machine tools certificate program delete output feed_ring (Some found) (ToDraw draw) finds are =
    other_letter (codes "live") (codes "draw") (sym finds.0 ∙ are.0) (λ letters. omega (arith, letters))
requested_live machine tools certificate program delete output feed_ring (Some found) (ToShow show) finds are =
    other_letter (codes "live") (codes "show") (sym finds.0 ∙ are.0) (λ letters. omega (arith, letters))
requested_live machine tools certificate program delete output feed_ring (Some found) (ToReport report) finds are =
    other_letter (codes "live") (codes "report") (sym finds.0 ∙ are.0) (λ letters. omega (arith, letters))
requested_live machine tools certificate program delete output feed_ring (Some found) (ToPlace place) finds are =
    other_name (codes "live") (codes "place") (sym finds.0 ∙ are.0) (λ lengths. omega (arith, lengths))
requested_live machine tools certificate program delete output feed_ring (Some found) (ToAdapt adapt) finds are =
    other_letter (codes "live") (codes "adapt") (sym finds.0 ∙ are.0) (λ letters. omega (arith, letters))
requested_live machine tools certificate program delete output feed_ring (Some found) (ToMachine made) finds are =
    other_letter (codes "live") (codes "machine") (sym finds.0 ∙ are.0) (λ letters. omega (arith, letters))
requested_live machine tools certificate program delete output feed_ring (Some found) (ToExplain number) finds are =
    other_letter (codes "live") (codes "explain") (sym finds.0 ∙ are.0) (λ letters. omega (arith, letters))
requested_live machine tools certificate program delete output feed_ring (Some found) (ToHelp command) finds are =
    other_letter (codes "live") (codes "help") (sym finds.0 ∙ are.0) (λ letters. omega (arith, letters))
requested_live machine tools certificate program delete output feed_ring (Some found) ToVersion finds are =
    other_letter (codes "live") (codes "version") (sym finds.0 ∙ are) (λ letters. omega (arith, letters))

pub live_taken : (words : List Text) (machine tools certificate program : Text) (delete : Bool) (output : Option Text) (feed_ring : Bool)
    → words ≡ live_words machine tools certificate program delete output feed_ring → IsTaken words
live_taken words machine tools certificate program delete output feed_ring spelled =
    subst IsTaken (sym spelled) (live_spells machine tools certificate program delete output feed_ring).0

live_have : (found : Option (Text × List Row)) (machine : Text) (tools : Text) (certificate : Text) (program : Text) (delete : Bool) (output : Option Text) (feed_ring : Bool) → FindsLive machine tools certificate program delete output feed_ring found → HaveChanges found
live_have None machine tools certificate program delete output feed_ring finds = absurd finds
live_have (Some found) machine tools certificate program delete output feed_ring finds = none_wrong found finds.10

pub live_changes : (words : List Text) (machine tools certificate program : Text) (delete : Bool) (output : Option Text) (feed_ring : Bool) → words ≡ live_words machine tools certificate program delete output feed_ring → HaveChanges (subcommand_of ngc_app words)
live_changes words machine tools certificate program delete output feed_ring spelled =
    let Have : List Text → Type 0 = λ ws. HaveChanges (subcommand_of ngc_app ws) in
    subst Have (sym spelled) (live_have _ machine tools certificate program delete output feed_ring (live_spells machine tools certificate program delete output feed_ring).1)

pub live_read : (words : List Text) (machine tools certificate program : Text) (delete : Bool) (output : Option Text) (feed_ring : Bool) (options : Options)
    → words ≡ live_words machine tools certificate program delete output feed_ring → AreOptions (subcommand_of ngc_app words) options
    → IsLiveRequest machine tools certificate program delete output feed_ring options
live_read words machine tools certificate program delete output feed_ring options spelled are =
    let Are : List Text → Type 0 = λ ws. AreOptions (subcommand_of ngc_app ws) options in
    requested_live machine tools certificate program delete output feed_ring _ options (live_spells machine tools certificate program delete output feed_ring).1
    (subst Are spelled are)

-- the values of `draw` that were found are these
abbrev FindsDraw : Text → Text → Option Text → Option Text → Option Text → Bool → Bool → Bool → Option (Text × List Row) → Type 0
FindsDraw machine tools certificate program view delete bodies whole None = ⊥
FindsDraw machine tools certificate program view delete bodies whole (Some found) = (found.0 ≡ codes "draw") × (first_of (codes "machine") found.1 ≡ Some machine)
    × (first_of (codes "tools") found.1 ≡ Some tools) × (first_of (codes "certificate") found.1 ≡ certificate)
    × (first_of (codes "program") found.1 ≡ program) × (first_of (codes "view") found.1 ≡ view)
    × (is_set (codes "delete") found.1 ≡ delete) × (is_set (codes "bodies") found.1 ≡ bodies)
    × (is_set (codes "whole") found.1 ≡ whole)
    × (change_texts found.1 ≡ no_texts) × (first_of (codes "dialect") found.1 ≡ None)
    × (is_set (codes "map") found.1 ≡ false) × (first_of (codes "cells") found.1 ≡ None)

draw_spells : (machine tools : Text) (certificate program view : Option Text) (delete bodies whole : Bool)
    → Spells (draw_words machine tools certificate program view delete bodies whole) (FindsDraw machine tools certificate program view delete bodies whole)
unfolding clap_on_literals
draw_spells machine tools None None None false false false = (refl, (refl, refl, refl, refl, refl, refl, refl, refl, refl, refl, refl, refl, refl))
draw_spells machine tools None None None false false true = (refl, (refl, refl, refl, refl, refl, refl, refl, refl, refl, refl, refl, refl, refl))
draw_spells machine tools None None None false true false = (refl, (refl, refl, refl, refl, refl, refl, refl, refl, refl, refl, refl, refl, refl))
draw_spells machine tools None None None false true true = (refl, (refl, refl, refl, refl, refl, refl, refl, refl, refl, refl, refl, refl, refl))
draw_spells machine tools None None None true false false = (refl, (refl, refl, refl, refl, refl, refl, refl, refl, refl, refl, refl, refl, refl))
draw_spells machine tools None None None true false true = (refl, (refl, refl, refl, refl, refl, refl, refl, refl, refl, refl, refl, refl, refl))
draw_spells machine tools None None None true true false = (refl, (refl, refl, refl, refl, refl, refl, refl, refl, refl, refl, refl, refl, refl))
draw_spells machine tools None None None true true true = (refl, (refl, refl, refl, refl, refl, refl, refl, refl, refl, refl, refl, refl, refl))
draw_spells machine tools None None (Some view) false false false = (refl, (refl, refl, refl, refl, refl, refl, refl, refl, refl, refl, refl, refl, refl))
draw_spells machine tools None None (Some view) false false true = (refl, (refl, refl, refl, refl, refl, refl, refl, refl, refl, refl, refl, refl, refl))
draw_spells machine tools None None (Some view) false true false = (refl, (refl, refl, refl, refl, refl, refl, refl, refl, refl, refl, refl, refl, refl))
draw_spells machine tools None None (Some view) false true true = (refl, (refl, refl, refl, refl, refl, refl, refl, refl, refl, refl, refl, refl, refl))
draw_spells machine tools None None (Some view) true false false = (refl, (refl, refl, refl, refl, refl, refl, refl, refl, refl, refl, refl, refl, refl))
draw_spells machine tools None None (Some view) true false true = (refl, (refl, refl, refl, refl, refl, refl, refl, refl, refl, refl, refl, refl, refl))
draw_spells machine tools None None (Some view) true true false = (refl, (refl, refl, refl, refl, refl, refl, refl, refl, refl, refl, refl, refl, refl))
draw_spells machine tools None None (Some view) true true true = (refl, (refl, refl, refl, refl, refl, refl, refl, refl, refl, refl, refl, refl, refl))
draw_spells machine tools None (Some program) None false false false = (refl, (refl, refl, refl, refl, refl, refl, refl, refl, refl, refl, refl, refl, refl))
draw_spells machine tools None (Some program) None false false true = (refl, (refl, refl, refl, refl, refl, refl, refl, refl, refl, refl, refl, refl, refl))
draw_spells machine tools None (Some program) None false true false = (refl, (refl, refl, refl, refl, refl, refl, refl, refl, refl, refl, refl, refl, refl))
draw_spells machine tools None (Some program) None false true true = (refl, (refl, refl, refl, refl, refl, refl, refl, refl, refl, refl, refl, refl, refl))
draw_spells machine tools None (Some program) None true false false = (refl, (refl, refl, refl, refl, refl, refl, refl, refl, refl, refl, refl, refl, refl))
draw_spells machine tools None (Some program) None true false true = (refl, (refl, refl, refl, refl, refl, refl, refl, refl, refl, refl, refl, refl, refl))
draw_spells machine tools None (Some program) None true true false = (refl, (refl, refl, refl, refl, refl, refl, refl, refl, refl, refl, refl, refl, refl))
draw_spells machine tools None (Some program) None true true true = (refl, (refl, refl, refl, refl, refl, refl, refl, refl, refl, refl, refl, refl, refl))
draw_spells machine tools None (Some program) (Some view) false false false = (refl, (refl, refl, refl, refl, refl, refl, refl, refl, refl, refl, refl, refl, refl))
draw_spells machine tools None (Some program) (Some view) false false true = (refl, (refl, refl, refl, refl, refl, refl, refl, refl, refl, refl, refl, refl, refl))
draw_spells machine tools None (Some program) (Some view) false true false = (refl, (refl, refl, refl, refl, refl, refl, refl, refl, refl, refl, refl, refl, refl))
draw_spells machine tools None (Some program) (Some view) false true true = (refl, (refl, refl, refl, refl, refl, refl, refl, refl, refl, refl, refl, refl, refl))
draw_spells machine tools None (Some program) (Some view) true false false = (refl, (refl, refl, refl, refl, refl, refl, refl, refl, refl, refl, refl, refl, refl))
draw_spells machine tools None (Some program) (Some view) true false true = (refl, (refl, refl, refl, refl, refl, refl, refl, refl, refl, refl, refl, refl, refl))
draw_spells machine tools None (Some program) (Some view) true true false = (refl, (refl, refl, refl, refl, refl, refl, refl, refl, refl, refl, refl, refl, refl))
draw_spells machine tools None (Some program) (Some view) true true true = (refl, (refl, refl, refl, refl, refl, refl, refl, refl, refl, refl, refl, refl, refl))
draw_spells machine tools (Some certificate) None None false false false = (refl, (refl, refl, refl, refl, refl, refl, refl, refl, refl, refl, refl, refl, refl))
draw_spells machine tools (Some certificate) None None false false true = (refl, (refl, refl, refl, refl, refl, refl, refl, refl, refl, refl, refl, refl, refl))
draw_spells machine tools (Some certificate) None None false true false = (refl, (refl, refl, refl, refl, refl, refl, refl, refl, refl, refl, refl, refl, refl))
draw_spells machine tools (Some certificate) None None false true true = (refl, (refl, refl, refl, refl, refl, refl, refl, refl, refl, refl, refl, refl, refl))
draw_spells machine tools (Some certificate) None None true false false = (refl, (refl, refl, refl, refl, refl, refl, refl, refl, refl, refl, refl, refl, refl))
draw_spells machine tools (Some certificate) None None true false true = (refl, (refl, refl, refl, refl, refl, refl, refl, refl, refl, refl, refl, refl, refl))
draw_spells machine tools (Some certificate) None None true true false = (refl, (refl, refl, refl, refl, refl, refl, refl, refl, refl, refl, refl, refl, refl))
draw_spells machine tools (Some certificate) None None true true true = (refl, (refl, refl, refl, refl, refl, refl, refl, refl, refl, refl, refl, refl, refl))
draw_spells machine tools (Some certificate) None (Some view) false false false = (refl, (refl, refl, refl, refl, refl, refl, refl, refl, refl, refl, refl, refl, refl))
draw_spells machine tools (Some certificate) None (Some view) false false true = (refl, (refl, refl, refl, refl, refl, refl, refl, refl, refl, refl, refl, refl, refl))
draw_spells machine tools (Some certificate) None (Some view) false true false = (refl, (refl, refl, refl, refl, refl, refl, refl, refl, refl, refl, refl, refl, refl))
draw_spells machine tools (Some certificate) None (Some view) false true true = (refl, (refl, refl, refl, refl, refl, refl, refl, refl, refl, refl, refl, refl, refl))
draw_spells machine tools (Some certificate) None (Some view) true false false = (refl, (refl, refl, refl, refl, refl, refl, refl, refl, refl, refl, refl, refl, refl))
draw_spells machine tools (Some certificate) None (Some view) true false true = (refl, (refl, refl, refl, refl, refl, refl, refl, refl, refl, refl, refl, refl, refl))
draw_spells machine tools (Some certificate) None (Some view) true true false = (refl, (refl, refl, refl, refl, refl, refl, refl, refl, refl, refl, refl, refl, refl))
draw_spells machine tools (Some certificate) None (Some view) true true true = (refl, (refl, refl, refl, refl, refl, refl, refl, refl, refl, refl, refl, refl, refl))
draw_spells machine tools (Some certificate) (Some program) None false false false = (refl, (refl, refl, refl, refl, refl, refl, refl, refl, refl, refl, refl, refl, refl))
draw_spells machine tools (Some certificate) (Some program) None false false true = (refl, (refl, refl, refl, refl, refl, refl, refl, refl, refl, refl, refl, refl, refl))
draw_spells machine tools (Some certificate) (Some program) None false true false = (refl, (refl, refl, refl, refl, refl, refl, refl, refl, refl, refl, refl, refl, refl))
draw_spells machine tools (Some certificate) (Some program) None false true true = (refl, (refl, refl, refl, refl, refl, refl, refl, refl, refl, refl, refl, refl, refl))
draw_spells machine tools (Some certificate) (Some program) None true false false = (refl, (refl, refl, refl, refl, refl, refl, refl, refl, refl, refl, refl, refl, refl))
draw_spells machine tools (Some certificate) (Some program) None true false true = (refl, (refl, refl, refl, refl, refl, refl, refl, refl, refl, refl, refl, refl, refl))
draw_spells machine tools (Some certificate) (Some program) None true true false = (refl, (refl, refl, refl, refl, refl, refl, refl, refl, refl, refl, refl, refl, refl))
draw_spells machine tools (Some certificate) (Some program) None true true true = (refl, (refl, refl, refl, refl, refl, refl, refl, refl, refl, refl, refl, refl, refl))
draw_spells machine tools (Some certificate) (Some program) (Some view) false false false = (refl, (refl, refl, refl, refl, refl, refl, refl, refl, refl, refl, refl, refl, refl))
draw_spells machine tools (Some certificate) (Some program) (Some view) false false true = (refl, (refl, refl, refl, refl, refl, refl, refl, refl, refl, refl, refl, refl, refl))
draw_spells machine tools (Some certificate) (Some program) (Some view) false true false = (refl, (refl, refl, refl, refl, refl, refl, refl, refl, refl, refl, refl, refl, refl))
draw_spells machine tools (Some certificate) (Some program) (Some view) false true true = (refl, (refl, refl, refl, refl, refl, refl, refl, refl, refl, refl, refl, refl, refl))
draw_spells machine tools (Some certificate) (Some program) (Some view) true false false = (refl, (refl, refl, refl, refl, refl, refl, refl, refl, refl, refl, refl, refl, refl))
draw_spells machine tools (Some certificate) (Some program) (Some view) true false true = (refl, (refl, refl, refl, refl, refl, refl, refl, refl, refl, refl, refl, refl, refl))
draw_spells machine tools (Some certificate) (Some program) (Some view) true true false = (refl, (refl, refl, refl, refl, refl, refl, refl, refl, refl, refl, refl, refl, refl))
draw_spells machine tools (Some certificate) (Some program) (Some view) true true true = (refl, (refl, refl, refl, refl, refl, refl, refl, refl, refl, refl, refl, refl, refl))

requested_draw : (machine tools : Text) (certificate program view : Option Text) (delete bodies whole : Bool) (found : Option (Text × List Row)) (options : Options)
    → FindsDraw machine tools certificate program view delete bodies whole found → AreOptions found options →
    IsDrawRequest machine tools certificate program view delete bodies whole options
requested_draw machine tools certificate program view delete bodies whole None options finds are = absurd finds
requested_draw machine tools certificate program view delete bodies whole (Some found) (ToDraw draw) finds are = (
  same_text _ _ _ are.1.machine finds.1,
  same_text _ _ _ are.1.tools finds.2,
  are.1.certificate ∙ finds.3,
  are.1.program ∙ finds.4,
  are.1.view ∙ finds.5,
  are.1.delete ∙ finds.6,
  are.1.bodies ∙ finds.7,
  are.1.whole ∙ finds.8,
  none_replaced found.1 draw.changes are.1.changes finds.9,
  are.1.dialect ∙ finds.10,
  are.1.map ∙ finds.11,
  subst (λ (text : Option Text). AreCells text draw.cells) finds.12 are.1.cells,
)
requested_draw machine tools certificate program view delete bodies whole (Some found) (ToLive live) finds are =
    other_letter (codes "draw") (codes "live") (sym finds.0 ∙ are.0) (λ letters. omega (arith, letters))
requested_draw machine tools certificate program view delete bodies whole (Some found) (ToList list) finds are =
    other_letter (codes "draw") (codes "list") (sym finds.0 ∙ are.0) (λ letters. omega (arith, letters))
requested_draw machine tools certificate program view delete bodies whole (Some found) (ToCertify certify) finds are =
    other_name (codes "draw") (codes "certify") (sym finds.0 ∙ are.0) (λ lengths. omega (arith, lengths))
requested_draw machine tools certificate program view delete bodies whole (Some found) (ToCheck check) finds are =
    other_name (codes "draw") (codes "check") (sym finds.0 ∙ are.0) (λ lengths. omega (arith, lengths))
requested_draw machine tools certificate program view delete bodies whole (Some found) (ToRun run) finds are =
    no_run (codes "draw") run.recording (sym finds.0 ∙ are.0) (λ three. omega (arith, three)) (λ six. omega (arith, six))
requested_draw machine tools certificate program view delete bodies whole (Some found) (ToRunThrough run) finds are =
    no_run (codes "draw") run.recording (sym finds.0 ∙ are.0) (λ three. omega (arith, three)) (λ six. omega (arith, six))
requested_draw machine tools certificate program view delete bodies whole (Some found) (ToShow show) finds are =
    other_letter (codes "draw") (codes "show") (sym finds.0 ∙ are.0) (λ letters. omega (arith, letters))
requested_draw machine tools certificate program view delete bodies whole (Some found) (ToReport report) finds are =
    other_name (codes "draw") (codes "report") (sym finds.0 ∙ are.0) (λ lengths. omega (arith, lengths))
requested_draw machine tools certificate program view delete bodies whole (Some found) (ToPlace place) finds are =
    other_name (codes "draw") (codes "place") (sym finds.0 ∙ are.0) (λ lengths. omega (arith, lengths))
requested_draw machine tools certificate program view delete bodies whole (Some found) (ToAdapt adapt) finds are =
    other_letter (codes "draw") (codes "adapt") (sym finds.0 ∙ are.0) (λ letters. omega (arith, letters))
requested_draw machine tools certificate program view delete bodies whole (Some found) (ToMachine made) finds are =
    other_letter (codes "draw") (codes "machine") (sym finds.0 ∙ are.0) (λ letters. omega (arith, letters))
requested_draw machine tools certificate program view delete bodies whole (Some found) (ToExplain number) finds are =
    other_name (codes "draw") (codes "explain") (sym finds.0 ∙ are.0) (λ lengths. omega (arith, lengths))
requested_draw machine tools certificate program view delete bodies whole (Some found) (ToHelp command) finds are =
    other_letter (codes "draw") (codes "help") (sym finds.0 ∙ are.0) (λ letters. omega (arith, letters))
requested_draw machine tools certificate program view delete bodies whole (Some found) ToVersion finds are =
    other_name (codes "draw") (codes "version") (sym finds.0 ∙ are) (λ lengths. omega (arith, lengths))

pub draw_taken : (words : List Text) (machine tools : Text) (certificate program view : Option Text) (delete bodies whole : Bool)
    → words ≡ draw_words machine tools certificate program view delete bodies whole → IsTaken words
draw_taken words machine tools certificate program view delete bodies whole spelled =
    subst IsTaken (sym spelled) (draw_spells machine tools certificate program view delete bodies whole).0

draw_have : (found : Option (Text × List Row)) (machine : Text) (tools : Text) (certificate : Option Text) (program : Option Text) (view : Option Text) (delete : Bool) (bodies : Bool) (whole : Bool) → FindsDraw machine tools certificate program view delete bodies whole found → HaveChanges found
draw_have None machine tools certificate program view delete bodies whole finds = absurd finds
draw_have (Some found) machine tools certificate program view delete bodies whole finds = none_wrong found finds.9

pub draw_changes : (words : List Text) (machine tools : Text) (certificate program view : Option Text) (delete bodies whole : Bool) → words ≡ draw_words machine tools certificate program view delete bodies whole → HaveChanges (subcommand_of ngc_app words)
draw_changes words machine tools certificate program view delete bodies whole spelled =
    let Have : List Text → Type 0 = λ ws. HaveChanges (subcommand_of ngc_app ws) in
    subst Have (sym spelled) (draw_have _ machine tools certificate program view delete bodies whole (draw_spells machine tools certificate program view delete bodies whole).1)

pub draw_read : (words : List Text) (machine tools : Text) (certificate program view : Option Text) (delete bodies whole : Bool) (options : Options)
    → words ≡ draw_words machine tools certificate program view delete bodies whole → AreOptions (subcommand_of ngc_app words) options
    → IsDrawRequest machine tools certificate program view delete bodies whole options
draw_read words machine tools certificate program view delete bodies whole options spelled are =
    let Are : List Text → Type 0 = λ ws. AreOptions (subcommand_of ngc_app ws) options in
    requested_draw machine tools certificate program view delete bodies whole _ options (draw_spells machine tools certificate program view delete bodies whole).1 (subst Are spelled are)

-- the values of `show` that were found are these
abbrev FindsShow : Text → Option Text → Bool → Option (Text × List Row) → Type 0
FindsShow machine tools warnings None = ⊥
FindsShow machine tools warnings (Some found) =
    (found.0 ≡ codes "show") × (first_of (codes "machine") found.1 ≡ Some machine) × (first_of (codes "tools") found.1 ≡ tools)
    × (is_set (codes "warnings") found.1 ≡ warnings)
    × (change_texts found.1 ≡ no_texts)

show_spells : (machine : Text) (tools : Option Text) (warnings : Bool) → Spells (show_words machine tools warnings) (FindsShow machine tools warnings)
unfolding clap_on_literals
show_spells machine None false = (refl, (refl, refl, refl, refl, refl))
show_spells machine None true = (refl, (refl, refl, refl, refl, refl))
show_spells machine (Some tools) false = (refl, (refl, refl, refl, refl, refl))
show_spells machine (Some tools) true = (refl, (refl, refl, refl, refl, refl))

requested_show : (machine : Text) (tools : Option Text) (warnings : Bool) (found : Option (Text × List Row)) (options : Options)
    → FindsShow machine tools warnings found → AreOptions found options → IsShowRequest machine tools warnings options
requested_show machine tools warnings None options finds are = absurd finds
requested_show machine tools warnings (Some found) (ToShow show) finds are = (same_text _ _ _ are.1.machine finds.1, are.1.tools ∙ finds.2, are.1.warnings ∙ finds.3)
requested_show machine tools warnings (Some found) (ToList list) finds are =
    other_letter (codes "show") (codes "list") (sym finds.0 ∙ are.0) (λ letters. omega (arith, letters))
requested_show machine tools warnings (Some found) (ToCertify certify) finds are =
    other_letter (codes "show") (codes "certify") (sym finds.0 ∙ are.0) (λ letters. omega (arith, letters))
requested_show machine tools warnings (Some found) (ToCheck check) finds are =
    other_letter (codes "show") (codes "check") (sym finds.0 ∙ are.0) (λ letters. omega (arith, letters))
requested_show machine tools warnings (Some found) (ToLive live) finds are =
    other_letter (codes "show") (codes "live") (sym finds.0 ∙ are.0) (λ letters. omega (arith, letters))
requested_show machine tools warnings (Some found) (ToDraw draw) finds are =
    other_letter (codes "show") (codes "draw") (sym finds.0 ∙ are.0) (λ letters. omega (arith, letters))
requested_show machine tools warnings (Some found) (ToReport report) finds are =
    other_name (codes "show") (codes "report") (sym finds.0 ∙ are.0) (λ lengths. omega (arith, lengths))
requested_show machine tools warnings (Some found) (ToPlace place) finds are =
    other_name (codes "show") (codes "place") (sym finds.0 ∙ are.0) (λ lengths. omega (arith, lengths))
requested_show machine tools warnings (Some found) (ToAdapt adapt) finds are =
    other_letter (codes "show") (codes "adapt") (sym finds.0 ∙ are.0) (λ letters. omega (arith, letters))
requested_show machine tools warnings (Some found) (ToMachine made) finds are =
    other_letter (codes "show") (codes "machine") (sym finds.0 ∙ are.0) (λ letters. omega (arith, letters))
requested_show machine tools warnings (Some found) (ToExplain number) finds are =
    other_letter (codes "show") (codes "explain") (sym finds.0 ∙ are.0) (λ letters. omega (arith, letters))
requested_show machine tools warnings (Some found) (ToHelp command) finds are =
    other_letter (codes "show") (codes "help") (sym finds.0 ∙ are.0) (λ letters. omega (arith, letters))
requested_show machine tools warnings (Some found) (ToRun run) finds are =
    no_run (codes "show") run.recording (sym finds.0 ∙ are.0) (λ three. omega (arith, three)) (λ six. omega (arith, six))
requested_show machine tools warnings (Some found) (ToRunThrough run) finds are =
    no_run (codes "show") run.recording (sym finds.0 ∙ are.0) (λ three. omega (arith, three)) (λ six. omega (arith, six))
requested_show machine tools warnings (Some found) ToVersion finds are =
    other_letter (codes "show") (codes "version") (sym finds.0 ∙ are) (λ letters. omega (arith, letters))

pub show_taken : (words : List Text) (machine : Text) (tools : Option Text) (warnings : Bool) → words ≡ show_words machine tools warnings → IsTaken words
show_taken words machine tools warnings spelled = subst IsTaken (sym spelled) (show_spells machine tools warnings).0

show_have : (found : Option (Text × List Row)) (machine : Text) (tools : Option Text) (warnings : Bool) → FindsShow machine tools warnings found → HaveChanges found
show_have None machine tools warnings finds = absurd finds
show_have (Some found) machine tools warnings finds = none_wrong found finds.4

pub show_changes : (words : List Text) (machine : Text) (tools : Option Text) (warnings : Bool) → words ≡ show_words machine tools warnings → HaveChanges (subcommand_of ngc_app words)
show_changes words machine tools warnings spelled =
    let Have : List Text → Type 0 = λ ws. HaveChanges (subcommand_of ngc_app ws) in
    subst Have (sym spelled) (show_have _ machine tools warnings (show_spells machine tools warnings).1)

pub show_read : (words : List Text) (machine : Text) (tools : Option Text) (warnings : Bool) (options : Options)
    → words ≡ show_words machine tools warnings → AreOptions (subcommand_of ngc_app words) options → IsShowRequest machine tools warnings options
show_read words machine tools warnings options spelled are =
    let Are : List Text → Type 0 = λ ws. AreOptions (subcommand_of ngc_app ws) options in
    requested_show machine tools warnings _ options (show_spells machine tools warnings).1 (subst Are spelled are)

-- the values of `certify` that were found are these
abbrev FindsCertify : Text → Text → Option Text → Option Text → Option Text → Option (Text × List Row) → Type 0
FindsCertify machine tools program cuts format None = ⊥
FindsCertify machine tools program cuts format (Some found) = (found.0 ≡ codes "certify") × (first_of (codes "machine") found.1 ≡ Some machine)
    × (first_of (codes "tools") found.1 ≡ Some tools) × (first_of (codes "program") found.1 ≡ program) × (first_of (codes "cuts") found.1 ≡ cuts)
    × (first_of (codes "format") found.1 ≡ format)
    × (change_texts found.1 ≡ no_texts) × (first_of (codes "dialect") found.1 ≡ None)

-- a number as a text
abbrev text_of : Option ℕ → Option Text
text_of cuts = option_map decimal cuts

-- a version as a text
abbrev text_of_format : Option Format → Option Text
text_of_format format = option_map format_text format

certify_finds : (machine tools : Text) (program : Option Text) (cuts : Option ℕ) (format : Option Format)
    → FindsCertify machine tools program (text_of cuts) (text_of_format format) (subcommand_of ngc_app (certify_words machine tools program cuts format))
unfolding clap_on_literals
certify_finds machine tools None None None = (refl, refl, refl, refl, refl, refl, refl, refl)
certify_finds machine tools None None (Some One) = (refl, refl, refl, refl, refl, refl, refl, refl)
certify_finds machine tools None None (Some Two) = (refl, refl, refl, refl, refl, refl, refl, refl)
certify_finds machine tools None (Some cuts) None = (refl, refl, refl, refl, refl, refl, refl, refl)
certify_finds machine tools None (Some cuts) (Some One) = (refl, refl, refl, refl, refl, refl, refl, refl)
certify_finds machine tools None (Some cuts) (Some Two) = (refl, refl, refl, refl, refl, refl, refl, refl)
certify_finds machine tools (Some program) None None = (refl, refl, refl, refl, refl, refl, refl, refl)
certify_finds machine tools (Some program) None (Some One) = (refl, refl, refl, refl, refl, refl, refl, refl)
certify_finds machine tools (Some program) None (Some Two) = (refl, refl, refl, refl, refl, refl, refl, refl)
certify_finds machine tools (Some program) (Some cuts) None = (refl, refl, refl, refl, refl, refl, refl, refl)
certify_finds machine tools (Some program) (Some cuts) (Some One) = (refl, refl, refl, refl, refl, refl, refl, refl)
certify_finds machine tools (Some program) (Some cuts) (Some Two) = (refl, refl, refl, refl, refl, refl, refl, refl)

-- digits have no sign before them
no_plus : (ds : Text) → IsNumeral 10 ds → without_leading_plus ds ≡ ds
no_plus [] numeral = refl
no_plus (d ∷ ds) numeral =
    let plus : (d == 43) ≡ false = ne_eqb _ _ (λ same. omega (arith, digit_from_value d numeral.1.0, same)) in
    ap (λ (is_plus : Bool). drop (cond is_plus 1 0) (d ∷ ds)) plus

decimal_value : (cuts : ℕ) → cuts ≤ 65535 → digits_value 10 (without_leading_plus (decimal cuts)) ≡ cuts
decimal_value cuts high =
    let (numeral, value) = decimal_is_IsNumeral cuts (omega arith) in
    ap (digits_value 10) (no_plus (decimal cuts) numeral) ∙ value

decimal_in_range : (cuts : ℕ) → 1 ≤ cuts → cuts ≤ 65535 → IsUnsignedIn 1 65535 (decimal cuts)
decimal_in_range cuts low high =
    let small : cuts < 2 ^ 64 = omega arith in
    let (numeral, value) = decimal_is_IsNumeral cuts small in
    let digits = subst (λ (ds : Text). IsNumeral 10 ds) (sym (no_plus (decimal cuts) numeral)) numeral in
    let is = sym (decimal_value cuts high) in
    (digits, subst (λ (n : ℕ). n < 2 ^ 64) is small, subst (λ (n : ℕ). 1 ≤ n) is low, subst (λ (n : ℕ). n ≤ 65535) is high)

-- two steps that return no fault return none together
both : {first second : Kinds} → first ≡ [] → second ≡ [] → or_else first second ≡ []
both {first} {second} none none_after = subst (λ (k : Kinds). or_else k second ≡ []) (sym none) none_after

passes : (takes : Bool) (kind : ErrorKind) → takes ≡ true → (if takes then [] else kind ∷ []) ≡ []
passes takes kind is = subst (λ (b : Bool). (if b then [] else kind ∷ []) ≡ []) (sym is) refl

certify_cuts_taken : (machine tools : Text) (program : Option Text) (cuts : ℕ) (format : Option Format) →
    value_kinds false (Unsigned 1 65535) (decimal cuts) ≡ []
    → IsTaken (certify_words machine tools program (Some cuts) format)
unfolding clap_on_literals
certify_cuts_taken machine tools None cuts None takes = both (both (both (both (both takes refl) refl) refl) refl) refl
certify_cuts_taken machine tools None cuts (Some One) takes = both (both (both (both (both takes refl) refl) refl) refl) refl
certify_cuts_taken machine tools None cuts (Some Two) takes = both (both (both (both (both takes refl) refl) refl) refl) refl
certify_cuts_taken machine tools (Some program) cuts None takes = both (both (both (both (both takes refl) refl) refl) refl) refl
certify_cuts_taken machine tools (Some program) cuts (Some One) takes = both (both (both (both (both takes refl) refl) refl) refl) refl
certify_cuts_taken machine tools (Some program) cuts (Some Two) takes = both (both (both (both (both takes refl) refl) refl) refl) refl

certify_spells : (machine tools : Text) (program : Option Text) (cuts : Option ℕ) (format : Option Format) → AreCutsInRange cuts →
    IsTaken (certify_words machine tools program cuts format)
unfolding clap_on_literals
certify_spells machine tools None None None range = refl
certify_spells machine tools None None (Some One) range = refl
certify_spells machine tools None None (Some Two) range = refl
certify_spells machine tools (Some program) None None range = refl
certify_spells machine tools (Some program) None (Some One) range = refl
certify_spells machine tools (Some program) None (Some Two) range = refl
certify_spells machine tools program (Some cuts) format range =
    let text = Accepts-accepts false (Unsigned 1 65535) (decimal cuts) (decimal_in_range cuts range.0 range.1) in
    certify_cuts_taken machine tools program cuts format (passes (accepts false (Unsigned 1 65535) (decimal cuts)) _ text)

-- the number that is read from its decimal
cuts_read : (cuts : Option ℕ) (read : ℕ) → AreCutsInRange cuts → AreCuts (text_of cuts) read → read ≡ unwrap_or cuts 8
cuts_read None read range are = are
cuts_read (Some cuts) read range are = are.1 ∙ decimal_value cuts range.1

-- the version that is read from its digit
format_read : (format : Option Format) (read : Format) → IsFormat (text_of_format format) read → read ≡ unwrap_or format One
format_read None read is = is
format_read (Some One) One is = refl
format_read (Some One) Two is = let bad : 2 ≡ 1 = is.1 in absurd (omega (arith, bad))
format_read (Some Two) One is = let bad : 1 ≡ 2 = is.1 in absurd (omega (arith, bad))
format_read (Some Two) Two is = refl

requested_certify : (machine tools : Text) (program : Option Text) (cuts : Option ℕ) (format : Option Format) (found : Option (Text × List Row))
    (options : Options) → AreCutsInRange cuts
    → FindsCertify machine tools program (text_of cuts) (text_of_format format) found → AreOptions found options →
    IsCertifyRequest machine tools program cuts format options
requested_certify machine tools program cuts format None options range finds are = absurd finds
requested_certify machine tools program cuts format (Some found) (ToCertify certify) range finds are =
    let read = subst (λ (text : Option Text). AreCuts text certify.cuts) finds.4 are.1.cuts in
    let version = subst (λ (text : Option Text). IsFormat text certify.format) finds.5 are.1.format in (
      same_text _ _ _ are.1.machine finds.1,
      same_text _ _ _ are.1.tools finds.2,
      are.1.program ∙ finds.3,
      cuts_read cuts certify.cuts range read,
      format_read format certify.format version,
      none_replaced found.1 certify.changes are.1.changes finds.6,
      are.1.dialect ∙ finds.7,
    )
requested_certify machine tools program cuts format (Some found) (ToList list) range finds are =
    other_name (codes "certify") (codes "list") (sym finds.0 ∙ are.0) (λ lengths. omega (arith, lengths))
requested_certify machine tools program cuts format (Some found) (ToCheck check) range finds are =
    other_name (codes "certify") (codes "check") (sym finds.0 ∙ are.0) (λ lengths. omega (arith, lengths))
requested_certify machine tools program cuts format (Some found) (ToRun run) range finds are =
    no_run (codes "certify") run.recording (sym finds.0 ∙ are.0) (λ three. omega (arith, three)) (λ six. omega (arith, six))
requested_certify machine tools program cuts format (Some found) (ToRunThrough run) range finds are =
    no_run (codes "certify") run.recording (sym finds.0 ∙ are.0) (λ three. omega (arith, three)) (λ six. omega (arith, six))
requested_certify machine tools program cuts format (Some found) (ToLive live) range finds are =
    other_letter (codes "certify") (codes "live") (sym finds.0 ∙ are.0) (λ letters. omega (arith, letters))
requested_certify machine tools program cuts format (Some found) (ToDraw draw) range finds are =
    other_name (codes "certify") (codes "draw") (sym finds.0 ∙ are.0) (λ lengths. omega (arith, lengths))
requested_certify machine tools program cuts format (Some found) (ToShow show) range finds are =
    other_letter (codes "certify") (codes "show") (sym finds.0 ∙ are.0) (λ letters. omega (arith, letters))
requested_certify machine tools program cuts format (Some found) (ToReport report) range finds are =
    other_name (codes "certify") (codes "report") (sym finds.0 ∙ are.0) (λ lengths. omega (arith, lengths))
requested_certify machine tools program cuts format (Some found) (ToPlace place) range finds are =
    other_name (codes "certify") (codes "place") (sym finds.0 ∙ are.0) (λ lengths. omega (arith, lengths))
requested_certify machine tools program cuts format (Some found) (ToAdapt adapt) range finds are =
    other_letter (codes "certify") (codes "adapt") (sym finds.0 ∙ are.0) (λ letters. omega (arith, letters))
requested_certify machine tools program cuts format (Some found) (ToMachine made) range finds are =
    other_letter (codes "certify") (codes "machine") (sym finds.0 ∙ are.0) (λ letters. omega (arith, letters))
requested_certify machine tools program cuts format (Some found) (ToExplain number) range finds are =
    other_letter (codes "certify") (codes "explain") (sym finds.0 ∙ are.0) (λ differ. omega (arith, differ))
requested_certify machine tools program cuts format (Some found) (ToHelp command) range finds are =
    other_name (codes "certify") (codes "help") (sym finds.0 ∙ are.0) (λ differ. omega (arith, differ))
requested_certify machine tools program cuts format (Some found) ToVersion range finds are =
    other_letter (codes "certify") (codes "version") (sym finds.0 ∙ are) (λ differ. omega (arith, differ))

pub certify_taken : (words : List Text) (machine tools : Text) (program : Option Text) (cuts : Option ℕ) (format : Option Format) → AreCutsInRange cuts
    → words ≡ certify_words machine tools program cuts format → IsTaken words
certify_taken words machine tools program cuts format range spelled = subst IsTaken (sym spelled) (certify_spells machine tools program cuts format range)

certify_have : (found : Option (Text × List Row)) (machine : Text) (tools : Text) (program : Option Text) (cuts : Option Text) (format : Option Text) → FindsCertify machine tools program cuts format found → HaveChanges found
certify_have None machine tools program cuts format finds = absurd finds
certify_have (Some found) machine tools program cuts format finds = none_wrong found finds.6

pub certify_changes : (words : List Text) (machine tools : Text) (program : Option Text) (cuts : Option ℕ) (format : Option Format) → AreCutsInRange cuts → words ≡ certify_words machine tools program cuts format → HaveChanges (subcommand_of ngc_app words)
certify_changes words machine tools program cuts format range spelled =
    let Have : List Text → Type 0 = λ ws. HaveChanges (subcommand_of ngc_app ws) in
    subst Have (sym spelled) (certify_have _ machine tools program (text_of cuts) (text_of_format format) (certify_finds machine tools program cuts format))

pub certify_read : (words : List Text) (machine tools : Text) (program : Option Text) (cuts : Option ℕ) (format : Option Format) (options : Options) →
    AreCutsInRange cuts
    → words ≡ certify_words machine tools program cuts format → AreOptions (subcommand_of ngc_app words) options →
    IsCertifyRequest machine tools program cuts format options
certify_read words machine tools program cuts format options range spelled are =
    let Are : List Text → Type 0 = λ ws. AreOptions (subcommand_of ngc_app ws) options in
    requested_certify machine tools program cuts format _ options range (certify_finds machine tools program cuts format) (subst Are spelled are)

-- the values of `report` that were found are these
abbrev FindsReport : Text → Text → Option Text → Option Text → Bool → Bool → Option (Text × List Row) → Type 0
FindsReport machine tools program cuts all json None = ⊥
FindsReport machine tools program cuts all json (Some found) = (found.0 ≡ codes "report") × (first_of (codes "machine") found.1 ≡ Some machine)
    × (first_of (codes "tools") found.1 ≡ Some tools) × (first_of (codes "program") found.1 ≡ program) × (first_of (codes "cuts") found.1 ≡ cuts)
    × (is_set (codes "all") found.1 ≡ all) × (is_set (codes "json") found.1 ≡ json)
    × (change_texts found.1 ≡ no_texts) × (first_of (codes "dialect") found.1 ≡ None) × (first_of (codes "cells") found.1 ≡ None)

report_finds : (machine tools : Text) (program : Option Text) (cuts : Option ℕ) (all json : Bool)
    → FindsReport machine tools program (text_of cuts) all json (subcommand_of ngc_app (report_words machine tools program cuts all json))
unfolding clap_on_literals
report_finds machine tools None None false false = (refl, refl, refl, refl, refl, refl, refl, refl, refl, refl)
report_finds machine tools None None false true = (refl, refl, refl, refl, refl, refl, refl, refl, refl, refl)
report_finds machine tools None None true false = (refl, refl, refl, refl, refl, refl, refl, refl, refl, refl)
report_finds machine tools None None true true = (refl, refl, refl, refl, refl, refl, refl, refl, refl, refl)
report_finds machine tools None (Some cuts) false false = (refl, refl, refl, refl, refl, refl, refl, refl, refl, refl)
report_finds machine tools None (Some cuts) false true = (refl, refl, refl, refl, refl, refl, refl, refl, refl, refl)
report_finds machine tools None (Some cuts) true false = (refl, refl, refl, refl, refl, refl, refl, refl, refl, refl)
report_finds machine tools None (Some cuts) true true = (refl, refl, refl, refl, refl, refl, refl, refl, refl, refl)
report_finds machine tools (Some program) None false false = (refl, refl, refl, refl, refl, refl, refl, refl, refl, refl)
report_finds machine tools (Some program) None false true = (refl, refl, refl, refl, refl, refl, refl, refl, refl, refl)
report_finds machine tools (Some program) None true false = (refl, refl, refl, refl, refl, refl, refl, refl, refl, refl)
report_finds machine tools (Some program) None true true = (refl, refl, refl, refl, refl, refl, refl, refl, refl, refl)
report_finds machine tools (Some program) (Some cuts) false false = (refl, refl, refl, refl, refl, refl, refl, refl, refl, refl)
report_finds machine tools (Some program) (Some cuts) false true = (refl, refl, refl, refl, refl, refl, refl, refl, refl, refl)
report_finds machine tools (Some program) (Some cuts) true false = (refl, refl, refl, refl, refl, refl, refl, refl, refl, refl)
report_finds machine tools (Some program) (Some cuts) true true = (refl, refl, refl, refl, refl, refl, refl, refl, refl, refl)

report_cuts_taken : (machine tools : Text) (program : Option Text) (cuts : ℕ) (all json : Bool) → value_kinds false (Unsigned 1 65535) (decimal cuts) ≡ []
    → IsTaken (report_words machine tools program (Some cuts) all json)
unfolding clap_on_literals
report_cuts_taken machine tools None cuts false false takes = both (both (both (both (both takes refl) refl) refl) refl) refl
report_cuts_taken machine tools None cuts false true takes = both (both (both (both (both takes refl) refl) refl) refl) refl
report_cuts_taken machine tools None cuts true false takes = both (both (both (both (both takes refl) refl) refl) refl) refl
report_cuts_taken machine tools None cuts true true takes = both (both (both (both (both takes refl) refl) refl) refl) refl
report_cuts_taken machine tools (Some program) cuts false false takes = both (both (both (both (both takes refl) refl) refl) refl) refl
report_cuts_taken machine tools (Some program) cuts false true takes = both (both (both (both (both takes refl) refl) refl) refl) refl
report_cuts_taken machine tools (Some program) cuts true false takes = both (both (both (both (both takes refl) refl) refl) refl) refl
report_cuts_taken machine tools (Some program) cuts true true takes = both (both (both (both (both takes refl) refl) refl) refl) refl

report_spells : (machine tools : Text) (program : Option Text) (cuts : Option ℕ) (all json : Bool) → AreCutsInRange cuts →
    IsTaken (report_words machine tools program cuts all json)
unfolding clap_on_literals
report_spells machine tools None None false false range = refl
report_spells machine tools None None false true range = refl
report_spells machine tools None None true false range = refl
report_spells machine tools None None true true range = refl
report_spells machine tools (Some program) None false false range = refl
report_spells machine tools (Some program) None false true range = refl
report_spells machine tools (Some program) None true false range = refl
report_spells machine tools (Some program) None true true range = refl
report_spells machine tools program (Some cuts) all json range =
    let text = Accepts-accepts false (Unsigned 1 65535) (decimal cuts) (decimal_in_range cuts range.0 range.1) in
    report_cuts_taken machine tools program cuts all json (passes (accepts false (Unsigned 1 65535) (decimal cuts)) _ text)

requested_report : (machine tools : Text) (program : Option Text) (cuts : Option ℕ) (all json : Bool) (found : Option (Text × List Row)) (options : Options) →
    AreCutsInRange cuts
    → FindsReport machine tools program (text_of cuts) all json found → AreOptions found options → IsReportRequest machine tools program cuts all json options
requested_report machine tools program cuts all json None options range finds are = absurd finds
requested_report machine tools program cuts all json (Some found) (ToReport report) range finds are =
    let read = subst (λ (text : Option Text). AreCuts text report.cuts) finds.4 are.1.cuts in (
      same_text _ _ _ are.1.machine finds.1,
      same_text _ _ _ are.1.tools finds.2,
      are.1.program ∙ finds.3,
      cuts_read cuts report.cuts range read,
      are.1.all ∙ finds.5,
      are.1.json ∙ finds.6,
      none_replaced found.1 report.changes are.1.changes finds.7,
      are.1.dialect ∙ finds.8,
      subst (λ (text : Option Text). AreCells text report.cells) finds.9 are.1.cells,
    )
requested_report machine tools program cuts all json (Some found) (ToPlace place) range finds are =
    other_name (codes "report") (codes "place") (sym finds.0 ∙ are.0) (λ lengths. omega (arith, lengths))
requested_report machine tools program cuts all json (Some found) (ToList list) range finds are =
    other_name (codes "report") (codes "list") (sym finds.0 ∙ are.0) (λ lengths. omega (arith, lengths))
requested_report machine tools program cuts all json (Some found) (ToCertify certify) range finds are =
    other_name (codes "report") (codes "certify") (sym finds.0 ∙ are.0) (λ lengths. omega (arith, lengths))
requested_report machine tools program cuts all json (Some found) (ToCheck check) range finds are =
    other_name (codes "report") (codes "check") (sym finds.0 ∙ are.0) (λ lengths. omega (arith, lengths))
requested_report machine tools program cuts all json (Some found) (ToRun run) range finds are = report_is_no_run run.recording (sym finds.0 ∙ are.0)
requested_report machine tools program cuts all json (Some found) (ToRunThrough run) range finds are = report_is_no_run run.recording (sym finds.0 ∙ are.0)
requested_report machine tools program cuts all json (Some found) (ToLive live) range finds are =
    other_letter (codes "report") (codes "live") (sym finds.0 ∙ are.0) (λ letters. omega (arith, letters))
requested_report machine tools program cuts all json (Some found) (ToDraw draw) range finds are =
    other_name (codes "report") (codes "draw") (sym finds.0 ∙ are.0) (λ lengths. omega (arith, lengths))
requested_report machine tools program cuts all json (Some found) (ToShow show) range finds are =
    other_name (codes "report") (codes "show") (sym finds.0 ∙ are.0) (λ lengths. omega (arith, lengths))
requested_report machine tools program cuts all json (Some found) (ToAdapt adapt) range finds are =
    other_letter (codes "report") (codes "adapt") (sym finds.0 ∙ are.0) (λ letters. omega (arith, letters))
requested_report machine tools program cuts all json (Some found) (ToMachine made) range finds are =
    other_letter (codes "report") (codes "machine") (sym finds.0 ∙ are.0) (λ letters. omega (arith, letters))
requested_report machine tools program cuts all json (Some found) (ToExplain number) range finds are =
    other_name (codes "report") (codes "explain") (sym finds.0 ∙ are.0) (λ lengths. omega (arith, lengths))
requested_report machine tools program cuts all json (Some found) (ToHelp command) range finds are =
    other_name (codes "report") (codes "help") (sym finds.0 ∙ are.0) (λ lengths. omega (arith, lengths))
requested_report machine tools program cuts all json (Some found) ToVersion range finds are =
    other_name (codes "report") (codes "version") (sym finds.0 ∙ are) (λ lengths. omega (arith, lengths))

pub report_taken : (words : List Text) (machine tools : Text) (program : Option Text) (cuts : Option ℕ) (all json : Bool) → AreCutsInRange cuts
    → words ≡ report_words machine tools program cuts all json → IsTaken words
report_taken words machine tools program cuts all json range spelled = subst IsTaken (sym spelled) (report_spells machine tools program cuts all json range)

report_have : (found : Option (Text × List Row)) (machine : Text) (tools : Text) (program : Option Text) (cuts : Option Text) (all : Bool) (json : Bool) → FindsReport machine tools program cuts all json found → HaveChanges found
report_have None machine tools program cuts all json finds = absurd finds
report_have (Some found) machine tools program cuts all json finds = none_wrong found finds.7

pub report_changes : (words : List Text) (machine tools : Text) (program : Option Text) (cuts : Option ℕ) (all json : Bool) → AreCutsInRange cuts → words ≡ report_words machine tools program cuts all json → HaveChanges (subcommand_of ngc_app words)
report_changes words machine tools program cuts all json range spelled =
    let Have : List Text → Type 0 = λ ws. HaveChanges (subcommand_of ngc_app ws) in
    subst Have (sym spelled) (report_have _ machine tools program (text_of cuts) all json (report_finds machine tools program cuts all json))

pub report_read : (words : List Text) (machine tools : Text) (program : Option Text) (cuts : Option ℕ) (all json : Bool) (options : Options) →
    AreCutsInRange cuts
    → words ≡ report_words machine tools program cuts all json → AreOptions (subcommand_of ngc_app words) options
    → IsReportRequest machine tools program cuts all json options
report_read words machine tools program cuts all json options range spelled are =
    let Are : List Text → Type 0 = λ ws. AreOptions (subcommand_of ngc_app ws) options in
    requested_report machine tools program cuts all json _ options range (report_finds machine tools program cuts all json) (subst Are spelled are)

-- the values of `place` that were found are these
abbrev FindsPlace : Text → Text → Option Text → Option Text → Option Text → Bool → Option (Text × List Row) → Type 0
FindsPlace machine tools program system cuts json None = ⊥
FindsPlace machine tools program system cuts json (Some found) = (found.0 ≡ codes "place") × (first_of (codes "machine") found.1 ≡ Some machine)
    × (first_of (codes "tools") found.1 ≡ Some tools) × (first_of (codes "program") found.1 ≡ program) × (first_of (codes "system") found.1 ≡ system)
    × (first_of (codes "cuts") found.1 ≡ cuts) × (is_set (codes "json") found.1 ≡ json)
    × (change_texts found.1 ≡ no_texts) × (first_of (codes "dialect") found.1 ≡ None)

place_finds : (machine tools : Text) (program system : Option Text) (cuts : Option ℕ) (json : Bool)
    → FindsPlace machine tools program system (text_of cuts) json (subcommand_of ngc_app (place_words machine tools program system cuts json))
unfolding clap_on_literals
place_finds machine tools None None None false = (refl, refl, refl, refl, refl, refl, refl, refl, refl)
place_finds machine tools None None None true = (refl, refl, refl, refl, refl, refl, refl, refl, refl)
place_finds machine tools None None (Some cuts) false = (refl, refl, refl, refl, refl, refl, refl, refl, refl)
place_finds machine tools None None (Some cuts) true = (refl, refl, refl, refl, refl, refl, refl, refl, refl)
place_finds machine tools None (Some system) None false = (refl, refl, refl, refl, refl, refl, refl, refl, refl)
place_finds machine tools None (Some system) None true = (refl, refl, refl, refl, refl, refl, refl, refl, refl)
place_finds machine tools None (Some system) (Some cuts) false = (refl, refl, refl, refl, refl, refl, refl, refl, refl)
place_finds machine tools None (Some system) (Some cuts) true = (refl, refl, refl, refl, refl, refl, refl, refl, refl)
place_finds machine tools (Some program) None None false = (refl, refl, refl, refl, refl, refl, refl, refl, refl)
place_finds machine tools (Some program) None None true = (refl, refl, refl, refl, refl, refl, refl, refl, refl)
place_finds machine tools (Some program) None (Some cuts) false = (refl, refl, refl, refl, refl, refl, refl, refl, refl)
place_finds machine tools (Some program) None (Some cuts) true = (refl, refl, refl, refl, refl, refl, refl, refl, refl)
place_finds machine tools (Some program) (Some system) None false = (refl, refl, refl, refl, refl, refl, refl, refl, refl)
place_finds machine tools (Some program) (Some system) None true = (refl, refl, refl, refl, refl, refl, refl, refl, refl)
place_finds machine tools (Some program) (Some system) (Some cuts) false = (refl, refl, refl, refl, refl, refl, refl, refl, refl)
place_finds machine tools (Some program) (Some system) (Some cuts) true = (refl, refl, refl, refl, refl, refl, refl, refl, refl)

place_cuts_taken : (machine tools : Text) (program system : Option Text) (cuts : ℕ) (json : Bool) → value_kinds false (Unsigned 1 65535) (decimal cuts) ≡ []
    → IsTaken (place_words machine tools program system (Some cuts) json)
unfolding clap_on_literals
place_cuts_taken machine tools None None cuts false takes = both (both (both (both (both takes refl) refl) refl) refl) refl
place_cuts_taken machine tools None None cuts true takes = both (both (both (both (both takes refl) refl) refl) refl) refl
place_cuts_taken machine tools None (Some system) cuts false takes = both (both (both (both (both takes refl) refl) refl) refl) refl
place_cuts_taken machine tools None (Some system) cuts true takes = both (both (both (both (both takes refl) refl) refl) refl) refl
place_cuts_taken machine tools (Some program) None cuts false takes = both (both (both (both (both takes refl) refl) refl) refl) refl
place_cuts_taken machine tools (Some program) None cuts true takes = both (both (both (both (both takes refl) refl) refl) refl) refl
place_cuts_taken machine tools (Some program) (Some system) cuts false takes = both (both (both (both (both takes refl) refl) refl) refl) refl
place_cuts_taken machine tools (Some program) (Some system) cuts true takes = both (both (both (both (both takes refl) refl) refl) refl) refl

place_spells : (machine tools : Text) (program system : Option Text) (cuts : Option ℕ) (json : Bool) → AreCutsInRange cuts →
    IsTaken (place_words machine tools program system cuts json)
unfolding clap_on_literals
place_spells machine tools None None None false range = refl
place_spells machine tools None None None true range = refl
place_spells machine tools None (Some system) None false range = refl
place_spells machine tools None (Some system) None true range = refl
place_spells machine tools (Some program) None None false range = refl
place_spells machine tools (Some program) None None true range = refl
place_spells machine tools (Some program) (Some system) None false range = refl
place_spells machine tools (Some program) (Some system) None true range = refl
place_spells machine tools program system (Some cuts) json range =
    let text = Accepts-accepts false (Unsigned 1 65535) (decimal cuts) (decimal_in_range cuts range.0 range.1) in
    place_cuts_taken machine tools program system cuts json (passes (accepts false (Unsigned 1 65535) (decimal cuts)) _ text)

requested_place : (machine tools : Text) (program system : Option Text) (cuts : Option ℕ) (json : Bool) (found : Option (Text × List Row)) (options : Options) →
    AreCutsInRange cuts
    → FindsPlace machine tools program system (text_of cuts) json found → AreOptions found options → IsPlaceRequest machine tools program system cuts json options
requested_place machine tools program system cuts json None options range finds are = absurd finds
requested_place machine tools program system cuts json (Some found) (ToPlace place) range finds are =
    let read = subst (λ (text : Option Text). AreCuts text place.cuts) finds.5 are.1.cuts in (
      same_text _ _ _ are.1.machine finds.1,
      same_text _ _ _ are.1.tools finds.2,
      are.1.program ∙ finds.3,
      are.1.system ∙ finds.4,
      cuts_read cuts place.cuts range read,
      are.1.json ∙ finds.6,
      none_replaced found.1 place.changes are.1.changes finds.7,
      are.1.dialect ∙ finds.8,
    )
requested_place machine tools program system cuts json (Some found) (ToList list) range finds are =
    other_name (codes "place") (codes "list") (sym finds.0 ∙ are.0) (λ lengths. omega (arith, lengths))
requested_place machine tools program system cuts json (Some found) (ToCertify certify) range finds are =
    other_name (codes "place") (codes "certify") (sym finds.0 ∙ are.0) (λ lengths. omega (arith, lengths))
requested_place machine tools program system cuts json (Some found) (ToCheck check) range finds are =
    other_letter (codes "place") (codes "check") (sym finds.0 ∙ are.0) (λ letters. omega (arith, letters))
requested_place machine tools program system cuts json (Some found) (ToLive live) range finds are =
    other_name (codes "place") (codes "live") (sym finds.0 ∙ are.0) (λ lengths. omega (arith, lengths))
requested_place machine tools program system cuts json (Some found) (ToDraw draw) range finds are =
    other_name (codes "place") (codes "draw") (sym finds.0 ∙ are.0) (λ lengths. omega (arith, lengths))
requested_place machine tools program system cuts json (Some found) (ToShow show) range finds are =
    other_name (codes "place") (codes "show") (sym finds.0 ∙ are.0) (λ lengths. omega (arith, lengths))
requested_place machine tools program system cuts json (Some found) (ToReport report) range finds are =
    other_name (codes "place") (codes "report") (sym finds.0 ∙ are.0) (λ lengths. omega (arith, lengths))
requested_place machine tools program system cuts json (Some found) (ToAdapt adapt) range finds are =
    other_letter (codes "place") (codes "adapt") (sym finds.0 ∙ are.0) (λ letters. omega (arith, letters))
requested_place machine tools program system cuts json (Some found) (ToMachine made) range finds are =
    other_name (codes "place") (codes "machine") (sym finds.0 ∙ are.0) (λ lengths. omega (arith, lengths))
requested_place machine tools program system cuts json (Some found) (ToExplain number) range finds are =
    other_name (codes "place") (codes "explain") (sym finds.0 ∙ are.0) (λ lengths. omega (arith, lengths))
requested_place machine tools program system cuts json (Some found) (ToHelp command) range finds are =
    other_name (codes "place") (codes "help") (sym finds.0 ∙ are.0) (λ lengths. omega (arith, lengths))
requested_place machine tools program system cuts json (Some found) (ToRun run) range finds are =
    no_run (codes "place") run.recording (sym finds.0 ∙ are.0) (λ three. omega (arith, three)) (λ six. omega (arith, six))
requested_place machine tools program system cuts json (Some found) (ToRunThrough run) range finds are =
    no_run (codes "place") run.recording (sym finds.0 ∙ are.0) (λ three. omega (arith, three)) (λ six. omega (arith, six))
requested_place machine tools program system cuts json (Some found) ToVersion range finds are =
    other_name (codes "place") (codes "version") (sym finds.0 ∙ are) (λ lengths. omega (arith, lengths))

pub place_taken : (words : List Text) (machine tools : Text) (program system : Option Text) (cuts : Option ℕ) (json : Bool) → AreCutsInRange cuts
    → words ≡ place_words machine tools program system cuts json → IsTaken words
place_taken words machine tools program system cuts json range spelled =
    subst IsTaken (sym spelled) (place_spells machine tools program system cuts json range)

place_have : (found : Option (Text × List Row)) (machine tools : Text) (program system cuts : Option Text) (json : Bool)
    → FindsPlace machine tools program system cuts json found → HaveChanges found
place_have None machine tools program system cuts json finds = absurd finds
place_have (Some found) machine tools program system cuts json finds = none_wrong found finds.7

pub place_changes : (words : List Text) (machine tools : Text) (program system : Option Text) (cuts : Option ℕ) (json : Bool) → AreCutsInRange cuts
    → words ≡ place_words machine tools program system cuts json → HaveChanges (subcommand_of ngc_app words)
place_changes words machine tools program system cuts json range spelled =
    let Have : List Text → Type 0 = λ ws. HaveChanges (subcommand_of ngc_app ws) in
    subst Have (sym spelled) (place_have _ machine tools program system (text_of cuts) json (place_finds machine tools program system cuts json))

pub place_read : (words : List Text) (machine tools : Text) (program system : Option Text) (cuts : Option ℕ) (json : Bool) (options : Options) →
    AreCutsInRange cuts
    → words ≡ place_words machine tools program system cuts json → AreOptions (subcommand_of ngc_app words) options
    → IsPlaceRequest machine tools program system cuts json options
place_read words machine tools program system cuts json options range spelled are =
    let Are : List Text → Type 0 = λ ws. AreOptions (subcommand_of ngc_app ws) options in
    requested_place machine tools program system cuts json _ options range (place_finds machine tools program system cuts json) (subst Are spelled are)

-- the values of `adapt` that were found are these
abbrev FindsAdapt : Text → Option Text → Option Text → Option Text → Bool → Option (Text × List Row) → Type 0
FindsAdapt from machine tools program delete None = ⊥
FindsAdapt from machine tools program delete (Some found) = (found.0 ≡ codes "adapt") × (first_of (codes "from") found.1 ≡ Some from)
    × (first_of (codes "machine") found.1 ≡ machine) × (first_of (codes "tools") found.1 ≡ tools) × (first_of (codes "program") found.1 ≡ program)
    × (is_set (codes "delete") found.1 ≡ delete)
    × (change_texts found.1 ≡ no_texts)

adapt_spells : (from : Text) (machine tools program : Option Text) (delete : Bool) →
    Spells (adapt_words from machine tools program delete) (FindsAdapt from machine tools program delete)
unfolding clap_on_literals
adapt_spells from None None None false = (refl, (refl, refl, refl, refl, refl, refl, refl))
adapt_spells from None None None true = (refl, (refl, refl, refl, refl, refl, refl, refl))
adapt_spells from None None (Some program) false = (refl, (refl, refl, refl, refl, refl, refl, refl))
adapt_spells from None None (Some program) true = (refl, (refl, refl, refl, refl, refl, refl, refl))
adapt_spells from None (Some tools) None false = (refl, (refl, refl, refl, refl, refl, refl, refl))
adapt_spells from None (Some tools) None true = (refl, (refl, refl, refl, refl, refl, refl, refl))
adapt_spells from None (Some tools) (Some program) false = (refl, (refl, refl, refl, refl, refl, refl, refl))
adapt_spells from None (Some tools) (Some program) true = (refl, (refl, refl, refl, refl, refl, refl, refl))
adapt_spells from (Some machine) None None false = (refl, (refl, refl, refl, refl, refl, refl, refl))
adapt_spells from (Some machine) None None true = (refl, (refl, refl, refl, refl, refl, refl, refl))
adapt_spells from (Some machine) None (Some program) false = (refl, (refl, refl, refl, refl, refl, refl, refl))
adapt_spells from (Some machine) None (Some program) true = (refl, (refl, refl, refl, refl, refl, refl, refl))
adapt_spells from (Some machine) (Some tools) None false = (refl, (refl, refl, refl, refl, refl, refl, refl))
adapt_spells from (Some machine) (Some tools) None true = (refl, (refl, refl, refl, refl, refl, refl, refl))
adapt_spells from (Some machine) (Some tools) (Some program) false = (refl, (refl, refl, refl, refl, refl, refl, refl))
adapt_spells from (Some machine) (Some tools) (Some program) true = (refl, (refl, refl, refl, refl, refl, refl, refl))

requested_adapt : (from : Text) (machine tools program : Option Text) (delete : Bool) (found : Option (Text × List Row)) (options : Options) →
    FindsAdapt from machine tools program delete found → AreOptions found options →
    IsAdaptRequest from machine tools program delete options
requested_adapt from machine tools program delete None options finds are = absurd finds
requested_adapt from machine tools program delete (Some found) (ToAdapt adapt) finds are = (
  same_text _ _ _ are.1.from finds.1,
  are.1.machine ∙ finds.2,
  are.1.tools ∙ finds.3,
  are.1.program ∙ finds.4,
  are.1.delete ∙ finds.5,
)
requested_adapt from machine tools program delete (Some found) (ToList list) finds are =
    other_letter (codes "adapt") (codes "list") (sym finds.0 ∙ are.0) (λ letters. omega (arith, letters))
requested_adapt from machine tools program delete (Some found) (ToCertify certify) finds are =
    other_letter (codes "adapt") (codes "certify") (sym finds.0 ∙ are.0) (λ letters. omega (arith, letters))
requested_adapt from machine tools program delete (Some found) (ToCheck check) finds are =
    other_letter (codes "adapt") (codes "check") (sym finds.0 ∙ are.0) (λ letters. omega (arith, letters))
requested_adapt from machine tools program delete (Some found) (ToLive live) finds are =
    other_letter (codes "adapt") (codes "live") (sym finds.0 ∙ are.0) (λ letters. omega (arith, letters))
requested_adapt from machine tools program delete (Some found) (ToDraw draw) finds are =
    other_letter (codes "adapt") (codes "draw") (sym finds.0 ∙ are.0) (λ letters. omega (arith, letters))
requested_adapt from machine tools program delete (Some found) (ToShow show) finds are =
    other_letter (codes "adapt") (codes "show") (sym finds.0 ∙ are.0) (λ letters. omega (arith, letters))
requested_adapt from machine tools program delete (Some found) (ToReport report) finds are =
    other_letter (codes "adapt") (codes "report") (sym finds.0 ∙ are.0) (λ letters. omega (arith, letters))
requested_adapt from machine tools program delete (Some found) (ToPlace place) finds are =
    other_letter (codes "adapt") (codes "place") (sym finds.0 ∙ are.0) (λ letters. omega (arith, letters))
requested_adapt from machine tools program delete (Some found) (ToMachine made) finds are =
    other_letter (codes "adapt") (codes "machine") (sym finds.0 ∙ are.0) (λ letters. omega (arith, letters))
requested_adapt from machine tools program delete (Some found) (ToExplain number) finds are =
    other_letter (codes "adapt") (codes "explain") (sym finds.0 ∙ are.0) (λ letters. omega (arith, letters))
requested_adapt from machine tools program delete (Some found) (ToHelp command) finds are =
    other_letter (codes "adapt") (codes "help") (sym finds.0 ∙ are.0) (λ letters. omega (arith, letters))
requested_adapt from machine tools program delete (Some found) (ToRun run) finds are =
    no_run (codes "adapt") run.recording (sym finds.0 ∙ are.0) (λ three. omega (arith, three)) (λ six. omega (arith, six))
requested_adapt from machine tools program delete (Some found) (ToRunThrough run) finds are =
    no_run (codes "adapt") run.recording (sym finds.0 ∙ are.0) (λ three. omega (arith, three)) (λ six. omega (arith, six))
requested_adapt from machine tools program delete (Some found) ToVersion finds are =
    other_letter (codes "adapt") (codes "version") (sym finds.0 ∙ are) (λ letters. omega (arith, letters))

pub adapt_taken : (words : List Text) (from : Text) (machine tools program : Option Text) (delete : Bool)
    → words ≡ adapt_words from machine tools program delete → IsTaken words
adapt_taken words from machine tools program delete spelled = subst IsTaken (sym spelled) (adapt_spells from machine tools program delete).0

adapt_have : (found : Option (Text × List Row)) (from : Text) (machine tools program : Option Text) (delete : Bool) → FindsAdapt from machine tools program delete found → HaveChanges found
adapt_have None from machine tools program delete finds = absurd finds
adapt_have (Some found) from machine tools program delete finds = none_wrong found finds.6

pub adapt_changes : (words : List Text) (from : Text) (machine tools program : Option Text) (delete : Bool) → words ≡ adapt_words from machine tools program delete → HaveChanges (subcommand_of ngc_app words)
adapt_changes words from machine tools program delete spelled =
    let Have : List Text → Type 0 = λ ws. HaveChanges (subcommand_of ngc_app ws) in
    subst Have (sym spelled) (adapt_have _ from machine tools program delete (adapt_spells from machine tools program delete).1)

pub adapt_read : (words : List Text) (from : Text) (machine tools program : Option Text) (delete : Bool) (options : Options) →
    words ≡ adapt_words from machine tools program delete
    → AreOptions (subcommand_of ngc_app words) options → IsAdaptRequest from machine tools program delete options
adapt_read words from machine tools program delete options spelled are =
    let Are : List Text → Type 0 = λ ws. AreOptions (subcommand_of ngc_app ws) options in
    requested_adapt from machine tools program delete _ options (adapt_spells from machine tools program delete).1 (subst Are spelled are)

-- the values of `machine` that were found are these
abbrev FindsMachine : MachineSource → Option Text → Option Text → Option Text → Option (Text × List Row) → Type 0
FindsMachine source corner ticks frame None = ⊥
FindsMachine source corner ticks frame (Some found) = (found.0 ≡ codes "machine") × (first_of (codes "grbl") found.1 ≡ grbl_in source)
    × (first_of (codes "steps-per-mm") found.1 ≡ steps_in source) × (first_of (codes "travel") found.1 ≡ travel_in source)
    × (first_of (codes "feed") found.1 ≡ feed_in source) × (first_of (codes "acceleration") found.1 ≡ acceleration_in source)
    × (first_of (codes "corner") found.1 ≡ corner) × (first_of (codes "ticks") found.1 ≡ ticks) × (first_of (codes "frame") found.1 ≡ frame)
    × (first_of (codes "jump") found.1 ≡ None) × (first_of (codes "turn") found.1 ≡ None) × (first_of (codes "start") found.1 ≡ None) × (first_of (codes "home28") found.1 ≡ None) × (first_of (codes "home30") found.1 ≡ None)
    × (first_of (codes "ring") found.1 ≡ None) × (is_set (codes "arc-feed") found.1 ≡ false)
    × (is_set (codes "rates") found.1 ≡ false) × (change_texts found.1 ≡ no_texts)

machine_spells : (source : MachineSource) (corner ticks frame : Option Text) →
    Spells (machine_words source corner ticks frame) (FindsMachine source corner ticks frame)
unfolding clap_on_literals
machine_spells (FromGrbl file) None None None = (refl, (refl, refl, refl, refl, refl, refl, refl, refl, refl, refl, refl, refl, refl, refl, refl, refl, refl, refl))
machine_spells (FromGrbl file) None None (Some frame) = (refl, (refl, refl, refl, refl, refl, refl, refl, refl, refl, refl, refl, refl, refl, refl, refl, refl, refl, refl))
machine_spells (FromGrbl file) None (Some ticks) None = (refl, (refl, refl, refl, refl, refl, refl, refl, refl, refl, refl, refl, refl, refl, refl, refl, refl, refl, refl))
machine_spells (FromGrbl file) None (Some ticks) (Some frame) = (refl, (refl, refl, refl, refl, refl, refl, refl, refl, refl, refl, refl, refl, refl, refl, refl, refl, refl, refl))
machine_spells (FromGrbl file) (Some corner) None None = (refl, (refl, refl, refl, refl, refl, refl, refl, refl, refl, refl, refl, refl, refl, refl, refl, refl, refl, refl))
machine_spells (FromGrbl file) (Some corner) None (Some frame) = (refl, (refl, refl, refl, refl, refl, refl, refl, refl, refl, refl, refl, refl, refl, refl, refl, refl, refl, refl))
machine_spells (FromGrbl file) (Some corner) (Some ticks) None = (refl, (refl, refl, refl, refl, refl, refl, refl, refl, refl, refl, refl, refl, refl, refl, refl, refl, refl, refl))
machine_spells (FromGrbl file) (Some corner) (Some ticks) (Some frame) = (refl, (refl, refl, refl, refl, refl, refl, refl, refl, refl, refl, refl, refl, refl, refl, refl, refl, refl, refl))
machine_spells (FromFigures steps travel feed acceleration) None None None = (refl, (refl, refl, refl, refl, refl, refl, refl, refl, refl, refl, refl, refl, refl, refl, refl, refl, refl, refl))
machine_spells (FromFigures steps travel feed acceleration) None None (Some frame) = (refl, (refl, refl, refl, refl, refl, refl, refl, refl, refl, refl, refl, refl, refl, refl, refl, refl, refl, refl))
machine_spells (FromFigures steps travel feed acceleration) None (Some ticks) None = (refl, (refl, refl, refl, refl, refl, refl, refl, refl, refl, refl, refl, refl, refl, refl, refl, refl, refl, refl))
machine_spells (FromFigures steps travel feed acceleration) None (Some ticks) (Some frame) = (refl, (refl, refl, refl, refl, refl, refl, refl, refl, refl, refl, refl, refl, refl, refl, refl, refl, refl, refl))
machine_spells (FromFigures steps travel feed acceleration) (Some corner) None None = (refl, (refl, refl, refl, refl, refl, refl, refl, refl, refl, refl, refl, refl, refl, refl, refl, refl, refl, refl))
machine_spells (FromFigures steps travel feed acceleration) (Some corner) None (Some frame) = (refl, (refl, refl, refl, refl, refl, refl, refl, refl, refl, refl, refl, refl, refl, refl, refl, refl, refl, refl))
machine_spells (FromFigures steps travel feed acceleration) (Some corner) (Some ticks) None = (refl, (refl, refl, refl, refl, refl, refl, refl, refl, refl, refl, refl, refl, refl, refl, refl, refl, refl, refl))
machine_spells (FromFigures steps travel feed acceleration) (Some corner) (Some ticks) (Some frame) = (refl, (refl, refl, refl, refl, refl, refl, refl, refl, refl, refl, refl, refl, refl, refl, refl, refl, refl, refl))

requested_machine : (source : MachineSource) (corner ticks frame : Option Text) (found : Option (Text × List Row)) (options : Options)
    → FindsMachine source corner ticks frame found → AreOptions found options → IsMachineRequest source corner ticks frame options
requested_machine source corner ticks frame None options finds are = absurd finds
requested_machine source corner ticks frame (Some found) (ToMachine machine) finds are = (
  are.1.grbl ∙ finds.1,
  are.1.steps ∙ finds.2,
  are.1.travel ∙ finds.3,
  are.1.feed ∙ finds.4,
  are.1.acceleration ∙ finds.5,
  are.1.corner ∙ finds.6,
  are.1.ticks ∙ finds.7,
  are.1.frame ∙ finds.8,
  are.1.jump ∙ finds.9,
  are.1.turn ∙ finds.10,
  are.1.start ∙ finds.11,
  are.1.home28 ∙ finds.12,
  are.1.home30 ∙ finds.13,
  are.1.ring ∙ finds.14,
  are.1.arc_feed ∙ finds.15,
  are.1.rates ∙ finds.16,
)
requested_machine source corner ticks frame (Some found) (ToList list) finds are =
    other_letter (codes "machine") (codes "list") (sym finds.0 ∙ are.0) (λ letters. omega (arith, letters))
requested_machine source corner ticks frame (Some found) (ToCertify certify) finds are =
    other_letter (codes "machine") (codes "certify") (sym finds.0 ∙ are.0) (λ letters. omega (arith, letters))
requested_machine source corner ticks frame (Some found) (ToCheck check) finds are =
    other_letter (codes "machine") (codes "check") (sym finds.0 ∙ are.0) (λ letters. omega (arith, letters))
requested_machine source corner ticks frame (Some found) (ToLive live) finds are =
    other_letter (codes "machine") (codes "live") (sym finds.0 ∙ are.0) (λ letters. omega (arith, letters))
requested_machine source corner ticks frame (Some found) (ToDraw draw) finds are =
    other_letter (codes "machine") (codes "draw") (sym finds.0 ∙ are.0) (λ letters. omega (arith, letters))
requested_machine source corner ticks frame (Some found) (ToShow show) finds are =
    other_letter (codes "machine") (codes "show") (sym finds.0 ∙ are.0) (λ letters. omega (arith, letters))
requested_machine source corner ticks frame (Some found) (ToReport report) finds are =
    other_letter (codes "machine") (codes "report") (sym finds.0 ∙ are.0) (λ letters. omega (arith, letters))
requested_machine source corner ticks frame (Some found) (ToPlace place) finds are =
    other_name (codes "machine") (codes "place") (sym finds.0 ∙ are.0) (λ lengths. omega (arith, lengths))
requested_machine source corner ticks frame (Some found) (ToAdapt adapt) finds are =
    other_letter (codes "machine") (codes "adapt") (sym finds.0 ∙ are.0) (λ letters. omega (arith, letters))
requested_machine source corner ticks frame (Some found) (ToExplain number) finds are =
    other_letter (codes "machine") (codes "explain") (sym finds.0 ∙ are.0) (λ letters. omega (arith, letters))
requested_machine source corner ticks frame (Some found) (ToHelp command) finds are =
    other_letter (codes "machine") (codes "help") (sym finds.0 ∙ are.0) (λ letters. omega (arith, letters))
requested_machine source corner ticks frame (Some found) (ToRun run) finds are =
    no_run (codes "machine") run.recording (sym finds.0 ∙ are.0) (λ three. omega (arith, three)) (λ six. omega (arith, six))
requested_machine source corner ticks frame (Some found) (ToRunThrough run) finds are =
    no_run (codes "machine") run.recording (sym finds.0 ∙ are.0) (λ three. omega (arith, three)) (λ six. omega (arith, six))
requested_machine source corner ticks frame (Some found) ToVersion finds are =
    other_letter (codes "machine") (codes "version") (sym finds.0 ∙ are) (λ letters. omega (arith, letters))

pub machine_taken : (words : List Text) (source : MachineSource) (corner ticks frame : Option Text) → words ≡ machine_words source corner ticks frame →
    IsTaken words
machine_taken words source corner ticks frame spelled = subst IsTaken (sym spelled) (machine_spells source corner ticks frame).0

machine_have : (found : Option (Text × List Row)) (source : MachineSource) (corner : Option Text) (ticks : Option Text) (frame : Option Text) → FindsMachine source corner ticks frame found → HaveChanges found
machine_have None source corner ticks frame finds = absurd finds
machine_have (Some found) source corner ticks frame finds = none_wrong found finds.17

pub machine_changes : (words : List Text) (source : MachineSource) (corner ticks frame : Option Text) → words ≡ machine_words source corner ticks frame → HaveChanges (subcommand_of ngc_app words)
machine_changes words source corner ticks frame spelled =
    let Have : List Text → Type 0 = λ ws. HaveChanges (subcommand_of ngc_app ws) in
    subst Have (sym spelled) (machine_have _ source corner ticks frame (machine_spells source corner ticks frame).1)

pub machine_read : (words : List Text) (source : MachineSource) (corner ticks frame : Option Text) (options : Options) →
    words ≡ machine_words source corner ticks frame
    → AreOptions (subcommand_of ngc_app words) options → IsMachineRequest source corner ticks frame options
machine_read words source corner ticks frame options spelled are =
    let Are : List Text → Type 0 = λ ws. AreOptions (subcommand_of ngc_app ws) options in
    requested_machine source corner ticks frame _ options (machine_spells source corner ticks frame).1 (subst Are spelled are)

-- the command whose help was requested is this
abbrev FindsHelp : Option Text → Option (Text × List Row) → Type 0
FindsHelp command None = ⊥
FindsHelp command (Some found) = (found.0 ≡ codes "help") × (first_of (codes "command") found.1 ≡ command)
    × (change_texts found.1 ≡ no_texts)

help_on : (command name : Text) → command ≡ name → Spells (help_words (Some name)) (FindsHelp (Some name)) →
    Spells (help_words (Some command)) (FindsHelp (Some command))
help_on command name same spells = subst (λ (c : Text). Spells (help_words (Some c)) (FindsHelp (Some c))) (sym same) spells

help_spells : (command : Option Text) → AreCommands command → Spells (help_words command) (FindsHelp command)
unfolding clap_on_literals
help_spells None among = (refl, (refl, refl, refl))
help_spells (Some command) among = elim among [
  | inl same ↦ help_on command (codes "list") same (refl, (refl, refl, refl))
  | inr (inl same) ↦ help_on command (codes "certify") same (refl, (refl, refl, refl))
  | inr (inr (inl same)) ↦ help_on command (codes "check") same (refl, (refl, refl, refl))
  | inr (inr (inr (inl same))) ↦ help_on command (codes "run") same (refl, (refl, refl, refl))
  | inr (inr (inr (inr (inl same)))) ↦ help_on command (codes "pulses") same (refl, (refl, refl, refl))
  | inr (inr (inr (inr (inr (inl same))))) ↦ help_on command (codes "live") same (refl, (refl, refl, refl))
  | inr (inr (inr (inr (inr (inr (inl same)))))) ↦ help_on command (codes "draw") same (refl, (refl, refl, refl))
  | inr (inr (inr (inr (inr (inr (inr (inl same))))))) ↦ help_on command (codes "show") same (refl, (refl, refl, refl))
  | inr (inr (inr (inr (inr (inr (inr (inr (inl same)))))))) ↦ help_on command (codes "report") same (refl, (refl, refl, refl))
  | inr (inr (inr (inr (inr (inr (inr (inr (inr (inl same))))))))) ↦ help_on command (codes "place") same (refl, (refl, refl, refl))
  | inr (inr (inr (inr (inr (inr (inr (inr (inr (inr (inl same)))))))))) ↦ help_on command (codes "adapt") same (refl, (refl, refl, refl))
  | inr (inr (inr (inr (inr (inr (inr (inr (inr (inr (inr (inl same))))))))))) ↦ help_on command (codes "machine") same (refl, (refl, refl, refl))
  | inr (inr (inr (inr (inr (inr (inr (inr (inr (inr (inr (inr (inl same)))))))))))) ↦ help_on command (codes "explain") same (refl, (refl, refl, refl))
  | inr (inr (inr (inr (inr (inr (inr (inr (inr (inr (inr (inr (inr (inl same))))))))))))) ↦ help_on command (codes "help") same (refl, (refl, refl, refl))
  | inr (inr (inr (inr (inr (inr (inr (inr (inr (inr (inr (inr (inr (inr (inl same)))))))))))))) ↦ help_on command (codes "version") same (refl, (refl, refl, refl))
  | inr (inr (inr (inr (inr (inr (inr (inr (inr (inr (inr (inr (inr (inr (inr none)))))))))))))) ↦ absurd none
]

requested_help : (command : Option Text) (found : Option (Text × List Row)) (options : Options) → FindsHelp command found → AreOptions found options →
    IsHelpRequest command options
requested_help command None options finds are = absurd finds
requested_help command (Some found) (ToHelp asked) finds are = are.1 ∙ finds.1
requested_help command (Some found) (ToList list) finds are = other_letter (codes "help") (codes "list") (sym finds.0 ∙ are.0) (λ differ. omega (arith, differ))
requested_help command (Some found) (ToCertify certify) finds are =
    other_name (codes "help") (codes "certify") (sym finds.0 ∙ are.0) (λ differ. omega (arith, differ))
requested_help command (Some found) (ToCheck check) finds are = other_name (codes "help") (codes "check") (sym finds.0 ∙ are.0) (λ differ. omega (arith, differ))
requested_help command (Some found) (ToRun run) finds are =
    no_run (codes "help") run.recording (sym finds.0 ∙ are.0) (λ three. omega (arith, three)) (λ six. omega (arith, six))
requested_help command (Some found) (ToRunThrough run) finds are =
    no_run (codes "help") run.recording (sym finds.0 ∙ are.0) (λ three. omega (arith, three)) (λ six. omega (arith, six))
requested_help command (Some found) (ToLive live) finds are =
    other_letter (codes "help") (codes "live") (sym finds.0 ∙ are.0) (λ letters. omega (arith, letters))
requested_help command (Some found) (ToDraw draw) finds are = other_letter (codes "help") (codes "draw") (sym finds.0 ∙ are.0) (λ letters. omega (arith, letters))
requested_help command (Some found) (ToShow show) finds are = other_letter (codes "help") (codes "show") (sym finds.0 ∙ are.0) (λ letters. omega (arith, letters))
requested_help command (Some found) (ToReport report) finds are =
    other_name (codes "help") (codes "report") (sym finds.0 ∙ are.0) (λ lengths. omega (arith, lengths))
requested_help command (Some found) (ToPlace place) finds are =
    other_name (codes "help") (codes "place") (sym finds.0 ∙ are.0) (λ lengths. omega (arith, lengths))
requested_help command (Some found) (ToAdapt adapt) finds are =
    other_letter (codes "help") (codes "adapt") (sym finds.0 ∙ are.0) (λ letters. omega (arith, letters))
requested_help command (Some found) (ToMachine made) finds are =
    other_letter (codes "help") (codes "machine") (sym finds.0 ∙ are.0) (λ letters. omega (arith, letters))
requested_help command (Some found) (ToExplain number) finds are =
    other_name (codes "help") (codes "explain") (sym finds.0 ∙ are.0) (λ differ. omega (arith, differ))
requested_help command (Some found) ToVersion finds are = other_name (codes "help") (codes "version") (sym finds.0 ∙ are) (λ differ. omega (arith, differ))

pub help_taken : (words : List Text) (command : Option Text) → AreCommands command → words ≡ help_words command → IsTaken words
help_taken words command among spelled = subst IsTaken (sym spelled) (help_spells command among).0

help_have : (found : Option (Text × List Row)) (command : Option Text) → FindsHelp command found → HaveChanges found
help_have None command finds = absurd finds
help_have (Some found) command finds = none_wrong found finds.2

pub help_changes : (words : List Text) (command : Option Text) → AreCommands command → words ≡ help_words command → HaveChanges (subcommand_of ngc_app words)
help_changes words command among spelled =
    let Have : List Text → Type 0 = λ ws. HaveChanges (subcommand_of ngc_app ws) in
    subst Have (sym spelled) (help_have _ command (help_spells command among).1)

pub help_read : (words : List Text) (command : Option Text) (options : Options) → AreCommands command → words ≡ help_words command
    → AreOptions (subcommand_of ngc_app words) options → IsHelpRequest command options
help_read words command options among spelled are =
    let Are : List Text → Type 0 = λ ws. AreOptions (subcommand_of ngc_app ws) options in
    requested_help command _ options (help_spells command among).1 (subst Are spelled are)

-- the subcommand that was found is `version`
abbrev FindsVersion : Option (Text × List Row) → Type 0
FindsVersion None = ⊥
FindsVersion (Some found) = (found.0 ≡ codes "version") × (change_texts found.1 ≡ no_texts)

version_spells : Spells (codes "version" ∷ []) FindsVersion
unfolding clap_on_literals
version_spells = (refl, (refl, refl))

requested_version : (found : Option (Text × List Row)) (options : Options) → FindsVersion found → AreOptions found options → options ≡ ToVersion
requested_version None options finds are = absurd finds
requested_version (Some found) ToVersion finds are = refl
requested_version (Some found) (ToList list) finds are = other_name (codes "version") (codes "list") (sym finds.0 ∙ are.0) (λ differ. omega (arith, differ))
requested_version (Some found) (ToCertify certify) finds are =
    other_letter (codes "version") (codes "certify") (sym finds.0 ∙ are.0) (λ differ. omega (arith, differ))
requested_version (Some found) (ToCheck check) finds are = other_name (codes "version") (codes "check") (sym finds.0 ∙ are.0) (λ differ. omega (arith, differ))
requested_version (Some found) (ToRun run) finds are =
    no_run (codes "version") run.recording (sym finds.0 ∙ are.0) (λ three. omega (arith, three)) (λ six. omega (arith, six))
requested_version (Some found) (ToRunThrough run) finds are =
    no_run (codes "version") run.recording (sym finds.0 ∙ are.0) (λ three. omega (arith, three)) (λ six. omega (arith, six))
requested_version (Some found) (ToLive live) finds are =
    other_letter (codes "version") (codes "live") (sym finds.0 ∙ are.0) (λ letters. omega (arith, letters))
requested_version (Some found) (ToDraw draw) finds are = other_name (codes "version") (codes "draw") (sym finds.0 ∙ are.0) (λ lengths. omega (arith, lengths))
requested_version (Some found) (ToShow show) finds are = other_letter (codes "version") (codes "show") (sym finds.0 ∙ are.0) (λ letters. omega (arith, letters))
requested_version (Some found) (ToReport report) finds are = other_name (codes "version") (codes "report") (sym finds.0 ∙ are.0) (λ lengths. omega (arith, lengths))
requested_version (Some found) (ToPlace place) finds are =
    other_name (codes "version") (codes "place") (sym finds.0 ∙ are.0) (λ lengths. omega (arith, lengths))
requested_version (Some found) (ToAdapt adapt) finds are =
    other_letter (codes "version") (codes "adapt") (sym finds.0 ∙ are.0) (λ letters. omega (arith, letters))
requested_version (Some found) (ToMachine made) finds are =
    other_letter (codes "version") (codes "machine") (sym finds.0 ∙ are.0) (λ letters. omega (arith, letters))
requested_version (Some found) (ToExplain number) finds are = other_letter (codes "version") (codes "explain") (sym finds.0 ∙ are.0) (λ differ. omega (arith, differ))
requested_version (Some found) (ToHelp command) finds are = other_name (codes "version") (codes "help") (sym finds.0 ∙ are.0) (λ differ. omega (arith, differ))

pub version_taken : (words : List Text) → words ≡ codes "version" ∷ [] → IsTaken words
version_taken words spelled = subst IsTaken (sym spelled) version_spells.0

version_have : (found : Option (Text × List Row)) → FindsVersion found → HaveChanges found
version_have None finds = absurd finds
version_have (Some found) finds = none_wrong found finds.1

pub version_changes : (words : List Text) → words ≡ codes "version" ∷ [] → HaveChanges (subcommand_of ngc_app words)
version_changes words spelled =
    let Have : List Text → Type 0 = λ ws. HaveChanges (subcommand_of ngc_app ws) in
    subst Have (sym spelled) (version_have _ version_spells.1)

pub version_read : (words : List Text) (options : Options) → words ≡ codes "version" ∷ [] → AreOptions (subcommand_of ngc_app words) options →
    options ≡ ToVersion
version_read words options spelled are =
    let Are : List Text → Type 0 = λ ws. AreOptions (subcommand_of ngc_app ws) options in
    requested_version _ options version_spells.1 (subst Are spelled are)
