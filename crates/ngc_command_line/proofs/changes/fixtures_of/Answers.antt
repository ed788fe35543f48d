use Rattle.std.proofs.Common.{◌≡◌, ◌∙◌, List, [], Option, Ok, Err, ap, codes, map, option_map, subst, sym}
use Rattle.std.specs.Prelude.{MatchResult, unwrap_or}
use Rattle.clap.specs.Words.{Text, found_of}
use Rattle.clap.proofs.WalkLemmas.{raw_values-rows}
use Rattle.ngc_added_boxes.specs.Texts.{parsed_fixtures}
use Rattle.ngc_command_line.proofs.changes.fixtures_of.Goals as goal

pub returns-in-Some : goal.returns-in-Some
returns-in-Some c =
    let Are : Option (List Text) → Type 0 = λ texts. MatchResult c.read_fixtures.result (λ boxes. parsed_fixtures (unwrap_or texts []) ≡ Ok boxes)
    (λ refused. parsed_fixtures (unwrap_or texts []) ≡ Err refused.mistake) in
    subst Are (sym (ap (option_map (λ s. map (λ v. v.now) s.now)) c.in-Some.is) ∙ c.get_strs.ensures
    ∙ raw_values-rows (found_of c.args.found.now) (codes "fixture")) c.read_fixtures.ensures

pub returns-in-None : goal.returns-in-None
returns-in-None c =
    let Are : Option (List Text) → Type 0 = λ texts. parsed_fixtures (unwrap_or texts []) ≡ Ok c.none.result in
    subst Are (sym (ap (option_map (λ s. map (λ v. v.now) s.now)) c.in-None.is) ∙ c.get_strs.ensures
    ∙ raw_values-rows (found_of c.args.found.now) (codes "fixture")) (ap Ok (sym c.none.ensures))
