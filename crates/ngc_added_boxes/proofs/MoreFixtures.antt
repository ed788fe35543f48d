-- Added fixtures in machine coordinates, and those of a machine with them.
use Rattle.std.proofs.Common.{◌≡◌, ◌<◌, List, [], ◌∷◌, ◌++◌, length, map, true, arith}
use Rattle.std.specs.Prelude.{unsigned_abs, nat_le, ◌&&◌}
use Rattle.std.specs.List.{All, list_all}
use Rattle.std.proofs.lemmas.Bool.{and_parts, leb-true}
use Rattle.std.proofs.lemmas.Int.{ints}
use Rattle.std.proofs.lemmas.List.{length-append}
use Rattle.std.proofs.lemmas.List.Elements.{All-cons, All-head, All-nil, All-push, All-tail}
use Rattle.ngc_fixed_length.specs.Places.{plus}
use Rattle.ngc_fixed_length.specs.declared.points.Point3.{Point3}
use Rattle.ngc_machine_files.specs.Ranges.{AreFixtures, CORNER_LIMIT, IsBelow, IsFixture, IsSized}
use Rattle.ngc_machine_files.specs.declared.machine.Fixture.{Fixture}
use Rattle.ngc_added_boxes.specs.Boxes.{IsAdded}
use Rattle.ngc_added_boxes.specs.Placing.{fits, in_machine, is_sized, origin_of}
use Rattle.ngc_added_boxes.specs.declared.boxes.AddedFixture.{AddedFixture}

sized_facts : (p : Point3) → is_sized p ≡ true → IsSized CORNER_LIMIT p
sized_facts p h =
    let x = and_parts (nat_le (unsigned_abs p.x) CORNER_LIMIT) (nat_le (unsigned_abs p.y) CORNER_LIMIT && nat_le (unsigned_abs p.z) CORNER_LIMIT) h in
    let yz = and_parts (nat_le (unsigned_abs p.y) CORNER_LIMIT) (nat_le (unsigned_abs p.z) CORNER_LIMIT) x.1 in
    record { x = leb-true _ _ x.0; y = leb-true _ _ yz.0; z = leb-true _ _ yz.1 }

both_moved : (low high o : Point3) → IsBelow low high → IsBelow (plus low o) (plus high o)
both_moved low high o h = record { x = omega (arith, ints, h.x); y = omega (arith, ints, h.y); z = omega (arith, ints, h.z) }

one_fixture : (origins : List Point3) (f : AddedFixture) → IsAdded f → fits (in_machine origins f) ≡ true → IsFixture (in_machine origins f)
one_fixture origins f added h =
    let tests = and_parts (is_sized (in_machine origins f).low) (is_sized (in_machine origins f).high) h in
    record {
      low_sized = sized_facts (in_machine origins f).low tests.0;
      high_sized = sized_facts (in_machine origins f).high tests.1;
      ordered = both_moved f.place.low f.place.high (origin_of origins f.place.system) added.ordered;
    }

-- added fixtures that fit are in the range of a machine file's
pub each_fixture : (origins : List Point3) (fs : List AddedFixture) → All IsAdded fs → list_all fits (map (in_machine origins) fs) ≡ true
    → All IsFixture (map (in_machine origins) fs)
each_fixture origins [] added h = All-nil IsFixture
each_fixture origins (f ∷ fs) added h =
    let tests = and_parts (fits (in_machine origins f)) (list_all fits (map (in_machine origins) fs)) h in
    All-cons IsFixture _ _ (one_fixture origins f (All-head IsAdded f fs added) tests.0) (each_fixture origins fs (All-tail IsAdded f fs added) tests.1)

-- one more fixture
pub one_more : (own : List Fixture) (f : Fixture) → length own < 256 → AreFixtures own → IsFixture f → AreFixtures (own ++ f ∷ [])
one_more own f fewer are is = record {
  count = let n = length-append own (f ∷ []) in omega (arith, n, fewer);
  each = All-push IsFixture own f are.each is;
}
