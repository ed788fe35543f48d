-- How boxes are stored, with one more fixture.
use Rattle.std.proofs.Common.{◌≡◌, ◌∙◌, ◌+◌, ◌-◌, ◌<◌, ◌≤◌, length, take, drop, set, arith, ap, subst, sym}
use Rattle.std.specs.Prelude.{replicate}
use Rattle.std.specs.List.{All}
use Rattle.std.proofs.lemmas.List.{drop-drop, drop-replicate, drop-set-lt, length-set, length-take-le, take_more_set}
use Rattle.std.proofs.lemmas.List.Elements.{All-push}
use Rattle.ngc_added_boxes.specs.Boxes.{AddedBoxes, AreKept, IsAdded, unused, used}
use Rattle.ngc_added_boxes.specs.declared.boxes.AddedFixture.{AddedFixture}
use Rattle.ngc_added_boxes.specs.declared.boxes.Boxes.TheInside.{Inside}

-- the count, of boxes with fewer than 16 fixtures
fewer_used : (b : Inside) (v : AddedBoxes) → AreKept b → used b ≡ v → length v.fixtures < 16 → b.count < 16
fewer_used b v k same fewer =
    let n : length (take b.count b.places) ≡ b.count = length-take-le b.count b.places (subst (λ n. b.count ≤ n) (sym k.places) k.greatest) in
    let few : length (used b).fixtures < 16 = subst (λ (w : AddedBoxes). length w.fixtures < 16) (sym same) fewer in
    omega (arith, n, few)

pub one_stored : (b : Inside) (v : AddedBoxes) (f : AddedFixture) → AreKept b → used b ≡ v → length v.fixtures < 16 → IsAdded f
    → AreKept (record { places = set b.places b.count f; count = b.count + 1; stock = b.stock })
one_stored b v f k same fewer is =
    let less : b.count < 16 = fewer_used b v k same fewer in
    let within : b.count < length b.places = subst (λ n. b.count < n) (sym k.places) less in
    record {
      greatest = omega (arith, less);
      places = length-set b.places b.count f ∙ k.places;
      rest = drop-set-lt (b.count + 1) b.places b.count f (omega arith)
          ∙ sym (drop-drop 1 b.count b.places)
          ∙ ap (drop 1) k.rest ∙ drop-replicate 1 (16 - b.count) unused
          ∙ ap (λ n. replicate n unused) (omega arith);
      each = subst (All IsAdded) (sym (take_more_set b.places b.count f within)) (All-push IsAdded (take b.count b.places) f k.each is);
      stock = k.stock;
    }
