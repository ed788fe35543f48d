-- The rules that are sound, and the meaning of filled rows for a name.
use Rattle.std.proofs.Common.{◌≡◌, ℕ, Bool, true, false, not, ◌&&◌, ◌||◌, List, [], ◌∷◌, Option, Some, is_some, refl, subst, sym, if◌then◌else◌, codes, IfSome}
use Rattle.std.specs.Prelude.{find, option_and_then, slice_get}
use Rattle.std.specs.List.{list_any}
use Rattle.std.specs.Option.{option_map_or}
use Rattle.std.specs.Str.{bytes_eq}
use Rattle.clap.specs.Facts.{explicit_source, parser_of_value, unwrap_or_range}
use Rattle.clap.specs.Faults.{action_fault, defaults_fault, level_fault, repeat_fault, set_fault, settle_fault, use_fault, values_fault, walk_fault}
use Rattle.clap.specs.Kinds.{Kinds, check_kinds, range_kinds, value_kinds, values_kinds}
use Rattle.clap.specs.Simple.{Shape}
use Rattle.clap.specs.Takes.{is_given}
use Rattle.clap.specs.Values.{IsUnsignedIn}
use Rattle.clap.specs.Walk.{Names, Row, Rule, Text, action_of, default_rows, first_of, has_row, most_values, nothing_held, reading_by, rows_after, settled}
use Rattle.clap.specs.Walk.{used, used_as, values_or_missing, walk, walk_from, with_default, without}
use Rattle.clap.specs.declared.builder.action.ArgAction.{ArgAction}
use Rattle.clap.specs.declared.builder.action.ArgAction.TheVariants.{Append, Help, Set, SetTrue}
use Rattle.clap.specs.declared.builder.value_parser.ValueParser.TheVariants.{Unsigned}
use Rattle.clap.specs.declared.error.kind.ErrorKind.{ErrorKind}
use Rattle.clap.specs.declared.parser.matches.ValueSource.TheVariants.{CommandLine, DefaultValue}
use Rattle.clap.proofs.ValueTestLemmas.{accepts-Accepts}
use Rattle.ngc_command_line.proofs.FoundValues.{AreFilled, AreSound, Begins, IsSound, defaults_filled, neither, settle_filled, walk_filled, with_values_filled}
use Rattle.ngc_command_line.proofs.FoundValues.{without_filled}

no_default : (P : Text → Text → Type 0) (a : Rule) → a.defaults ≡ [] → (rows : List Row) → AreFilled P rows
    → AreFilled P (if has_row a.id rows then rows else default_rows a.id (reading_by a) a.defaults rows)
no_default P a none rows filled =
    subst (λ (ds : List Text). AreFilled P (if has_row a.id rows then rows else default_rows a.id (reading_by a) ds rows)) (sym none) (pick (has_row a.id rows))
  where
    pick : (b : Bool) → AreFilled P (if b then rows else rows)
    pick true = filled
    pick false = filled

-- an option that takes one value
pub set_is_sound : (P : Text → Text → Type 0) (a : Rule) → action_of a ≡ Set → (unwrap_or_range a.range).start_inclusive ≡ 1 → a.defaults ≡ []
    → ((v : Text) → value_kinds a.ignore_case (parser_of_value a.parser) v ≡ [] → P a.id v) → IsSound P a
set_is_sound P a action least none takes = record { uses = uses; defaults = no_default P a none }
  where
    uses : (again : Bool) (values : List Text) (rows : List Row) → use_fault again a values rows ≡ [] → AreFilled P rows
        → AreFilled P (used a values rows)
    uses again [] rows fault filled =
        let range = (neither _ _ fault).0 in
        let bad : range_kinds 1 (most_values a) 0 ≡ [] = subst (λ (n : ℕ). range_kinds n (most_values a) 0 ≡ []) least range in
        cc
    uses again (v ∷ vs) rows fault filled =
        let acts = (neither _ _ fault).1 in
        let sets : set_fault again a (v ∷ vs) rows ≡ [] = subst (λ (x : ArgAction). action_fault x again a (v ∷ vs) rows ≡ []) action acts in
        let passes : values_fault a (v ∷ vs) ≡ [] = (neither (repeat_fault again a.id rows) (values_fault a (v ∷ vs)) sets).1 in
        let parser = parser_of_value a.parser in
        let first = (neither (value_kinds a.ignore_case parser v) (values_kinds a.ignore_case parser vs) passes).0 in
        subst (λ (x : ArgAction). AreFilled P (used_as x a.id (reading_by a) (v ∷ vs) rows)) (sym action)
        (with_values_filled P a.id (reading_by a) CommandLine (v ∷ vs) (without a.id rows) (takes v first) (without_filled P a.id rows filled))

-- an option that takes one value each time
pub append_is_sound : (P : Text → Text → Type 0) (a : Rule) → action_of a ≡ Append → (unwrap_or_range a.range).start_inclusive ≡ 1 → a.defaults ≡ []
    → ((v : Text) → P a.id v) → IsSound P a
append_is_sound P a action least none takes = record { uses = uses; defaults = no_default P a none }
  where
    uses : (again : Bool) (values : List Text) (rows : List Row) → use_fault again a values rows ≡ [] → AreFilled P rows
        → AreFilled P (used a values rows)
    uses again [] rows fault filled =
        let range = (neither _ _ fault).0 in
        let bad : range_kinds 1 (most_values a) 0 ≡ [] = subst (λ (n : ℕ). range_kinds n (most_values a) 0 ≡ []) least range in
        cc
    uses again (v ∷ vs) rows fault filled =
        subst (λ (x : ArgAction). AreFilled P (used_as x a.id (reading_by a) (v ∷ vs) rows)) (sym action)
        (with_values_filled P a.id (reading_by a) CommandLine (v ∷ vs) rows (takes v) filled)

-- a flag, whose value shows whether it is in the words or not
pub flag_is_sound : (P : Text → Text → Type 0) (a : Rule) (met unmet : Text) → action_of a ≡ SetTrue → a.missing ≡ met ∷ [] → a.defaults ≡ unmet ∷ []
    → ((v : Text) → P a.id v) → IsSound P a
flag_is_sound P a met unmet action missing defaults takes = record { uses = uses; defaults = default }
  where
    begins : (values : List Text) → Begins P a.id (values_or_missing a values)
    begins [] = subst (λ (vs : List Text). Begins P a.id vs) (sym missing) (takes met)
    begins (v ∷ vs) = takes v

    uses : (again : Bool) (values : List Text) (rows : List Row) → use_fault again a values rows ≡ [] → AreFilled P rows
        → AreFilled P (used a values rows)
    uses again values rows fault filled =
        subst (λ (x : ArgAction). AreFilled P (used_as x a.id (reading_by a) (values_or_missing a values) rows)) (sym action)
        (with_values_filled P a.id (reading_by a) CommandLine (values_or_missing a values) (without a.id rows) (begins values)
        (without_filled P a.id rows filled))

    default : (rows : List Row) → AreFilled P rows → AreFilled P (with_default rows a)
    default rows filled = subst (λ (ds : List Text). AreFilled P (if has_row a.id rows then rows else default_rows a.id (reading_by a) ds rows)) (sym defaults)
        (pick (has_row a.id rows))
      where
        pick : (b : Bool) → AreFilled P (if b then rows else default_rows a.id (reading_by a) (unmet ∷ []) rows)
        pick true = filled
        pick false = with_values_filled P a.id (reading_by a) DefaultValue (unmet ∷ []) rows (takes unmet) filled

pub help_is_sound : (P : Text → Text → Type 0) (a : Rule) → action_of a ≡ Help → a.defaults ≡ [] → IsSound P a
help_is_sound P a action none = record {
  uses = λ again values rows fault filled.
      subst (λ (x : ArgAction). AreFilled P (used_as x a.id (reading_by a) (values_or_missing a values) rows)) (sym action) filled;
  defaults = no_default P a none;
}

accepted : (b : Bool) (k : ErrorKind) → (if b then [] else k ∷ []) ≡ [] → b ≡ true
accepted true k none = refl
accepted false k none = let bad : k ∷ [] ≡ [] = none in cc

-- what a value under the name is
abbrev pub Fits : Text → (Text → Type 0) → Text → Text → Type 0
Fits name P id text = bytes_eq id name ≡ true → P text

-- a value of `--cuts` lies in the range
abbrev pub FitsCuts : Text → Text → Type 0
FitsCuts = Fits (codes "cuts") (IsUnsignedIn 1 65535)

-- and one of `--cells`
abbrev pub FitsCells : Text → Text → Type 0
FitsCells = Fits (codes "cells") (IsUnsignedIn 1 4000000)

-- and one of `--format` is 1 or 2
abbrev pub FitsFormat : Text → Text → Type 0
FitsFormat = Fits (codes "format") (IsUnsignedIn 1 2)

-- and one of `--inverted` is 0 to 255
abbrev pub FitsMask : Text → Text → Type 0
FitsMask = Fits (codes "inverted") (IsUnsignedIn 0 255)

pub mask_fits : (text : Text) → value_kinds false (Unsigned 0 255) text ≡ [] → IsUnsignedIn 0 255 text
mask_fits text none = accepts-Accepts false (Unsigned 0 255) text (accepted _ _ none)

pub format_fits : (text : Text) → value_kinds false (Unsigned 1 2) text ≡ [] → IsUnsignedIn 1 2 text
format_fits text none = accepts-Accepts false (Unsigned 1 2) text (accepted _ _ none)

-- and the number of a fault in its own
abbrev pub FitsNumber : Text → Text → Type 0
FitsNumber = Fits (codes "number") (IsUnsignedIn 1 999)

pub number_fits : (text : Text) → value_kinds false (Unsigned 1 999) text ≡ [] → IsUnsignedIn 1 999 text
number_fits text none = accepts-Accepts false (Unsigned 1 999) text (accepted _ _ none)

pub cuts_fit : (text : Text) → value_kinds false (Unsigned 1 65535) text ≡ [] → IsUnsignedIn 1 65535 text
cuts_fit text none = accepts-Accepts false (Unsigned 1 65535) text (accepted _ _ none)

pub cells_fit : (text : Text) → value_kinds false (Unsigned 1 4000000) text ≡ [] → IsUnsignedIn 1 4000000 text
cells_fit text none = accepts-Accepts false (Unsigned 1 4000000) text (accepted _ _ none)

checked : (help subcommand argument : Bool) → check_kinds help subcommand argument ≡ [] → argument ≡ false
checked true subcommand argument none = cc
checked false true argument none = cc
checked false false true none = cc
checked false false false none = refl

wanted : (negates missing : Bool) → (not (negates && false) && missing) ≡ false → missing ≡ false
wanted true missing none = none
wanted false missing none = none

pub neither_true : (a b : Bool) → (a || b) ≡ false → (a ≡ false) × (b ≡ false)
neither_true true b none = let bad : true ≡ false = none in cc
neither_true false b none = (refl, none)

pub is_true : (b : Bool) → not b ≡ false → b ≡ true
is_true true h = refl
is_true false h = let bad : true ≡ false = h in cc

-- the level above a subcommand returns no fault only if the subcommand returns none
pub below_passes : (s : Shape) (names : Names) (words : List Text) (entered : Bool) (below : Kinds)
    → level_fault s names nothing_held words entered below ≡ [] → below ≡ []
below_passes s names words entered below none = (neither below _ (neither _ _ none).1).0

-- a subcommand that returns no fault has its rows filled, with the required values
pub level_is_filled : (P : Text → Text → Type 0) (s : Shape) → AreSound P s.rules → (words : List Text) → level_fault s [] nothing_held words false [] ≡ []
    → AreFilled P (rows_after s.rules [] words)
    × (let is_missing : Rule → Bool = λ a. a.required && not (is_given a.id (rows_after s.rules [] words)) in list_any is_missing s.rules ≡ false)
level_is_filled P s sound words none =
    let end = (walk s.rules [] nothing_held words).held in
    let walks = neither (walk_fault s [] (walk_from nothing_held) words) _ none in
    let settles = neither (settle_fault s.rules s.args_override_self end) _ walks.1 in
    let defaults = neither (defaults_fault (settled s.rules end).rows s.rules) _ settles.1 in
    let walked = walk_filled P s [] sound (walk_from nothing_held) words walks.0 tt in
    let settled_rows = settle_filled P s.rules s.args_override_self sound end settles.0 walked in
    (defaults_filled P s.rules sound (settled s.rules end).rows settled_rows, wanted s.subcommand_negates_reqs _ (checked _ _ _ defaults.1))

first_is_some : (P : Text → Text → Type 0) (id : Text) (vs : List Text) → Begins P id vs → is_some (slice_get vs 0) ≡ true
first_is_some P id [] bad = absurd bad
first_is_some P id (v ∷ vs) holds = refl

abbrev source_of : Option Row → Bool
source_of found = option_map_or (λ r. explicit_source r.source) found false

abbrev first_in : Option Row → Option Text
first_in found = option_and_then (λ r. slice_get r.values 0) found

-- each option that is present has a value
pub given_has_value : (P : Text → Text → Type 0) (id : Text) (rows : List Row) → AreFilled P rows → is_given id rows ≡ true → is_some (first_of id rows) ≡ true
given_has_value P id [] filled given = let bad : false ≡ true = given in cc
given_has_value P id (r ∷ rs) filled given = pick (bytes_eq r.id id) (given_has_value P id rs filled.1) given
  where
    pick : (b : Bool) → (is_given id rs ≡ true → is_some (first_of id rs) ≡ true)
        → source_of (if b then Some r else find (λ r. bytes_eq r.id id) rs) ≡ true
        → is_some (first_in (if b then Some r else find (λ r. bytes_eq r.id id) rs)) ≡ true
    pick true later here = first_is_some P r.id r.values filled.0
    pick false later rest = later rest

first_fits : (name : Text) (P : Text → Type 0) (id : Text) (vs : List Text) → Begins (Fits name P) id vs → bytes_eq id name ≡ true
    → IfSome (slice_get vs 0) P
first_fits name P id [] bad same = absurd bad
first_fits name P id (v ∷ vs) fits same = fits same

-- a value that was found under the name has the property
pub found_fits : (name : Text) (P : Text → Type 0) (rows : List Row) → AreFilled (Fits name P) rows → IfSome (first_of name rows) P
found_fits name P [] filled = tt
found_fits name P (r ∷ rs) filled = pick (bytes_eq r.id name) refl (found_fits name P rs filled.1)
  where
    pick : (b : Bool) → bytes_eq r.id name ≡ b → IfSome (first_of name rs) P
        → IfSome (first_in (if b then Some r else find (λ r. bytes_eq r.id name) rs)) P
    pick true same later = first_fits name P r.id r.values filled.0 same
    pick false same later = later
