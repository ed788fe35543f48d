-- The effect of a step of building a command on what `clap` reads.
use Rattle.std.proofs.Common.{◌≡◌, ℕ, ◌+◌, ◌<◌, Bool, true, false, not, ◌&&◌, List, [], ◌∷◌, ◌++◌, ap, ap₂, ◌∙◌, fold, get_or, is_some, length, map, refl, sym}
use Rattle.std.proofs.Common.{take}
use Rattle.std.proofs.lemmas.List.{take_more}
use Rattle.std.proofs.lemmas.List.{map-append}
use Rattle.std.proofs.lemmas.List.Sums.{fold-append}
use Rattle.clap.specs.Words.{AddsArg, AddsSubcommand, App, Rule, app_of, rule_of, with_rule, with_subcommand}
use Rattle.clap.specs.Walk.{is_empty}
use Rattle.clap.specs.declared.builder.arg.Arg.{Arg}
use Rattle.clap.specs.declared.builder.command.Command.{Command}
use Rattle.clap.specs.declared.builder.command.Command.TheViews.{out-Command}
use Rattle.ngc_command_line.specs.Rows.{rule_for, shape_named, taking}
use Rattle.ngc_command_line.specs.declared.commands.Subcommand.{Subcommand}
use Rattle.ngc_command_line.specs.declared.commands.Subcommand.TheVariants as named
use Rattle.ngc_command_line.specs.declared.table.Argument.{Argument}
use Rattle.ngc_command_line.specs.declared.table.Takes.{Takes}
use Rattle.ngc_command_line.specs.declared.table.Takes.TheVariants.{Nothing, Text as ToText, Texts as ToTexts, Number}

and_right : (a b : Bool) → (a && b) ≡ true → b ≡ true
and_right true b h = h
and_right false b h = let bad : false ≡ true = h in cc

and_left : (a b : Bool) → (a && b) ≡ true → a ≡ true
and_left true b h = refl
and_left false b h = let bad : false ≡ true = h in cc

is_false : (b : Bool) → not b ≡ true → b ≡ false
is_false true h = let bad : false ≡ true = h in cc
is_false false h = refl

-- a simple argument is not global
pub simple_is_local : (a : Arg) (R : Rule) → rule_of a ≡ R → R.is_simple ≡ true → a.global ≡ false
simple_is_local a R is simple =
    let local : Bool = not a.global in
    let from_last : Bool = not a.last && local in
    let from_equals : Bool = not a.require_equals && from_last in
    let from_negatives : Bool = not a.allow_negative_numbers && from_equals in
    let from_hyphens : Bool = not a.allow_hyphen_values && from_negatives in
    let from_terminator : Bool = not (is_some a.terminator) && from_hyphens in
    let from_delimiter : Bool = not (is_some a.val_delim) && from_terminator in
    let from_groups : Bool = is_empty a.groups.items && from_delimiter in
    let from_default_ifs : Bool = is_empty a.default_vals_ifs.items && from_groups in
    let all : (is_empty a.overrides.items && from_default_ifs) ≡ true = ap (λ (r : Rule). r.is_simple) is ∙ simple in
    is_false a.global (and_right (not a.last) local
    (and_right (not a.require_equals) from_last
    (and_right (not a.allow_negative_numbers) from_equals
    (and_right (not a.allow_hyphen_values) from_negatives
    (and_right (not (is_some a.terminator)) from_hyphens
    (and_right (not (is_some a.val_delim)) from_terminator
    (and_right (is_empty a.groups.items) from_delimiter
    (and_right (is_empty a.default_vals_ifs.items) from_groups (and_right (is_empty a.overrides.items) from_default_ifs all)))))))))

-- a plain command has no global argument
pub plain_is_local : (c : Command) (A : App) → app_of c ≡ A → A.top.is_plain ≡ true → (out-Command c).has_globals ≡ false
plain_is_local c A is plain =
    let f = out-Command c in
    let from_missing : Bool = not f.allow_missing_positional
    && (not f.infer_subcommands && (not f.args_conflicts_with_subcommands && (not f.subcommand_precedence_over_arg
    && (not (is_some f.long_flag) && (not (is_some f.short_flag)
    && (is_empty f.long_flag_aliases.items && is_empty f.short_flag_aliases.items)))))) in
    let from_infer : Bool = not f.infer_long_args && from_missing in
    let from_globals : Bool = not f.has_globals && from_infer in
    let from_external : Bool = not f.allow_external_subcommands && from_globals in
    let all : (is_empty f.groups.items && from_external) ≡ true = ap (λ (a : App). a.top.is_plain) is ∙ plain in
    is_false f.has_globals (and_left (not f.has_globals) from_infer
    (and_right (not f.allow_external_subcommands) from_globals (and_right (is_empty f.groups.items) from_external all)))

-- one more argument
pub adds_rule : {old new : Command} {a : Arg} {A : App} {R : Rule} → app_of old ≡ A → rule_of a ≡ R → R.is_simple ≡ true → AddsArg old a new →
    app_of new ≡ with_rule A R
adds_rule {old} {new} {a} {A} {R} is rule simple adds = adds.shape (simple_is_local a R rule simple) ∙ ap₂ with_rule is rule

-- one more subcommand
pub adds_subcommand : {old new sub : Command} {A S : App} → app_of old ≡ A → app_of sub ≡ S → S.top.is_plain ≡ true → AddsSubcommand old sub new →
    app_of new ≡ with_subcommand A S.top
adds_subcommand {old} {new} {sub} {A} {S} is shape plain adds =
    adds.shape (plain_is_local sub S shape plain) ∙ ap₂ with_subcommand is (ap (λ (a : App). a.top) shape)

-- a row's rule is simple
pub rule_is_simple : (argument : Argument) → (rule_for argument).is_simple ≡ true
rule_is_simple argument = of_kind argument.takes _ refl
  where
    of_kind : (takes : Takes) (rule : Rule) → rule.is_simple ≡ true → (taking takes rule).is_simple ≡ true
    of_kind Nothing rule simple = simple
    of_kind (ToText value) rule simple = simple
    of_kind (ToTexts value) rule simple = simple
    of_kind (Number value least most) rule simple = simple

-- a subcommand is plain
pub shape_is_plain : (subcommand : Subcommand) → (shape_named subcommand).is_plain ≡ true
shape_is_plain named.List = refl
shape_is_plain named.Certify = refl
shape_is_plain named.Check = refl
shape_is_plain named.Run = refl
shape_is_plain named.Pulses = refl
shape_is_plain named.Live = refl
shape_is_plain named.Draw = refl
shape_is_plain named.Show = refl
shape_is_plain named.Report = refl
shape_is_plain named.Place = refl
shape_is_plain named.Adapt = refl
shape_is_plain named.Machine = refl
shape_is_plain named.Explain = refl
shape_is_plain named.Help = refl
shape_is_plain named.Version = refl

-- one more argument of a row
pub adds_row : (old new : Command) (a : Arg) (A : App) (row : Argument) → app_of old ≡ A → rule_of a ≡ rule_for row → AddsArg old a new
    → app_of new ≡ with_rule A (rule_for row)
adds_row old new a A row is rule adds = adds_rule {old = old} {new = new} {a = a} {A = A} {R = rule_for row} is rule (rule_is_simple row) adds

-- one more of a list
pub folds_more : {X Y Z : Type 0} (f : Y → Z → Y) (g : X → Z) (a : Y) (xs : List X) (i : ℕ) (d : X) (new : Y) → i < length xs
    → new ≡ f (fold f a (map g (take i xs))) (g (get_or xs i d)) → new ≡ fold f a (map g (take (i + 1) xs))
folds_more f g a xs i d new within is =
    let more : take (i + 1) xs ≡ take i xs ++ get_or xs i d ∷ [] = take_more xs i d within in
    let mapped : map g (take (i + 1) xs) ≡ map g (take i xs) ++ g (get_or xs i d) ∷ [] = ap (map g) more ∙ map-append g (take i xs) (get_or xs i d ∷ []) in
    is ∙ sym (ap (fold f a) mapped ∙ fold-append f a (map g (take i xs)) (g (get_or xs i d) ∷ []))
