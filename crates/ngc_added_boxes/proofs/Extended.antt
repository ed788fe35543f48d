-- Fixtures that are added one at a time.
use Rattle.std.proofs.Common.{◌≡◌, ◌∙◌, ℕ, ◌+◌, ◌<◌, ◌≤◌, List, [], ◌∷◌, ◌++◌, length, map, take, get_or, arith, ap, subst, sym}
use Rattle.std.specs.List.{All}
use Rattle.std.proofs.lemmas.List.{append_assoc, get_or-map, length-append, length-map, length-take-le, map_more}
use Rattle.std.proofs.lemmas.List.Elements.{All-get_or}
use Rattle.ngc_fixed_length.specs.declared.points.Point3.{Point3}
use Rattle.ngc_machine_files.specs.Ranges.{AreFixtures, IsFixture}
use Rattle.ngc_machine_files.specs.declared.machine.Fixture.{Fixture}
use Rattle.ngc_added_boxes.specs.Placing.{in_machine}
use Rattle.ngc_added_boxes.specs.declared.boxes.AddedFixture.{AddedFixture}
use Rattle.ngc_added_boxes.proofs.MoreFixtures.{one_more}

-- the fixtures so far, and one more
pub made_more : (origins : List Point3) (own so_far new : List Fixture) (added : List AddedFixture) (i : ℕ) (d : AddedFixture) (f : Fixture) → i < length added
    → so_far ≡ own ++ map (in_machine origins) (take i added) → f ≡ in_machine origins (get_or added i d) → new ≡ so_far ++ f ∷ []
    → new ≡ own ++ map (in_machine origins) (take (i + 1) added)
made_more origins own so_far new added i d f within made is pushed =
    pushed ∙ ap (λ (l : List Fixture). l ++ f ∷ []) made ∙ ap (λ (e : Fixture). (own ++ map (in_machine origins) (take i added)) ++ e ∷ []) is
    ∙ append_assoc own (map (in_machine origins) (take i added)) (in_machine origins (get_or added i d) ∷ [])
    ∙ ap (λ (l : List Fixture). own ++ l) (sym (map_more (in_machine origins) added i d within))

-- they stay in range
pub range_more : (origins : List Point3) (own so_far new : List Fixture) (added : List AddedFixture) (i : ℕ) (d : AddedFixture) (f : Fixture) → i < length added
    → so_far ≡ own ++ map (in_machine origins) (take i added) → f ≡ in_machine origins (get_or added i d) → new ≡ so_far ++ f ∷ []
    → length own + length added ≤ 256 → All IsFixture (map (in_machine origins) added) → AreFixtures so_far → AreFixtures new
range_more origins own so_far new added i d f within made is pushed count each are =
    let long : length so_far ≡ length own + i =
    ap length made ∙ length-append own (map (in_machine origins) (take i added))
    ∙ ap (λ (n : ℕ). length own + n) (length-map (take i added) (in_machine origins) ∙ length-take-le i added (omega (arith, within))) in
    let one : IsFixture f =
    subst IsFixture (get_or-map (in_machine origins) added i d f within ∙ sym is)
    (All-get_or IsFixture (map (in_machine origins) added) i f
    (let n = length-map added (in_machine origins) in omega (arith, n, within)) each) in
    subst AreFixtures (sym pushed) (one_more so_far f (omega (arith, long, within, count)) are one)
