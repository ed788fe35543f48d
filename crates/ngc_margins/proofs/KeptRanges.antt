-- A machine whose margins are kept is in the range of machines.
use Rattle.std.proofs.Common.{◌≡◌, ℕ, suc, ◌≤◌, ℤ, pos, negsuc, ◌≤ℤ◌, List, [], ◌∷◌, length, map, ap, arith, refl, subst, sym}
use Rattle.std.specs.Prelude.{IsTrue, unsigned_abs, ◌&&◌, nat_le}
use Rattle.std.specs.List.{All, list_all}
use Rattle.std.proofs.lemmas.Int.{ints}
use Rattle.std.proofs.lemmas.List.Elements.{All-cons, All-head, All-nil, All-tail}
use Rattle.ngc_collision.specs.Body.{is_below}
use Rattle.ngc_fixed_length.specs.declared.points.Point3.{Point3}
use Rattle.ngc_machine_files.specs.Ranges.{AreFixtures, CORNER_LIMIT, IsAtMost, IsFixture, IsSized, IsTravel, TRAVEL_LIMIT}
use Rattle.ngc_machine_files.specs.declared.machine.Fixture.{Fixture}
use Rattle.ngc_margins.specs.Margins.{fits, grown, is_sized, lowered, raised}
use Rattle.ngc_margins.proofs.Tests.{both, le_of}

size_between : (n : ℕ) (a b c : ℤ) → a ≤ℤ b → b ≤ℤ c → unsigned_abs a ≤ n → unsigned_abs c ≤ n → unsigned_abs b ≤ n
size_between n a (pos b) (pos c) low high a_sized c_sized = omega (arith, ints, high, c_sized)
size_between n a (pos b) (negsuc c) low high a_sized c_sized = absurd (omega (arith, ints, high))
size_between n (pos a) (negsuc b) c low high a_sized c_sized = absurd (omega (arith, ints, low))
size_between n (negsuc a) (negsuc b) c low high a_sized c_sized = omega (arith, ints, low, a_sized)

pub below_facts : (p q : Point3) → IsTrue (is_below p q) → IsAtMost p q
below_facts p q h = let x = both _ _ h in let yz = both _ _ x.1 in
    record { x = le_of p.x q.x x.0; y = le_of p.y q.y yz.0; z = le_of p.z q.z yz.1 }

joined : (p q r : Point3) → IsAtMost p q → IsAtMost q r → IsAtMost p r
joined p q r h i = record { x = omega (arith, ints, h.x, i.x); y = omega (arith, ints, h.y, i.y); z = omega (arith, ints, h.z, i.z) }

sized_between : (n : ℕ) (p q r : Point3) → IsAtMost p q → IsAtMost q r → IsSized n p → IsSized n r → IsSized n q
sized_between n p q r h i low high = record {
  x = size_between n p.x q.x r.x h.x i.x low.x high.x;
  y = size_between n p.y q.y r.y h.y i.y low.y high.y;
  z = size_between n p.z q.z r.z h.z i.z low.z high.z;
}

above : (t : ℤ) (p : Point3) → pos 0 ≤ℤ t → IsAtMost p (raised t p)
above t p h = record { x = omega (arith, ints, h); y = omega (arith, ints, h); z = omega (arith, ints, h) }

under : (t : ℤ) (p : Point3) → pos 0 ≤ℤ t → IsAtMost (lowered t p) p
under t p h = record { x = omega (arith, ints, h); y = omega (arith, ints, h); z = omega (arith, ints, h) }

kept : (step t : ℤ) (low high start : Point3) → IsTravel step low high start → pos 0 ≤ℤ t
    → IsTrue (is_below (raised t low) start && is_below start (lowered t high)) → IsTravel step (raised t low) (lowered t high) start
kept step t low high start travel least inside =
    let tests = both (is_below (raised t low) start) (is_below start (lowered t high)) inside in
    let from = below_facts (raised t low) start tests.0 in
    let to = below_facts start (lowered t high) tests.1 in
    record {
      low_sized = sized_between TRAVEL_LIMIT low (raised t low) high (above t low least) (joined (raised t low) start high from travel.start_below)
          travel.low_sized travel.high_sized;
      high_sized = sized_between TRAVEL_LIMIT low (lowered t high) high (joined low start (lowered t high) travel.start_above to) (under t high least)
          travel.low_sized travel.high_sized;
      ordered = joined (raised t low) start (lowered t high) from to;
      start_above = from;
      start_below = to;
      start_on_grid = travel.start_on_grid;
    }

pub kept_travel : (step t : ℤ) (low high start new_low new_high : Point3) → IsTravel step low high start → pos 0 ≤ℤ t → new_low ≡ raised t low
    → new_high ≡ lowered t high → IsTrue (is_below new_low start && is_below start new_high) → IsTravel step new_low new_high start
kept_travel step t low high start new_low new_high travel least low_is high_is inside =
    subst (λ (p : Point3). IsTravel step p new_high start) (sym low_is)
    (subst (λ (q : Point3). IsTravel step (raised t low) q start) (sym high_is)
    (kept step t low high start travel least
    (subst (λ (q : Point3). IsTrue (is_below (raised t low) start && is_below start q)) high_is
    (subst (λ (p : Point3). IsTrue (is_below p start && is_below start new_high)) low_is inside))))

le_from : (a b : ℕ) → IsTrue (nat_le a b) → a ≤ b
le_from a b h = grind (arith)

sized_facts : (p : Point3) → IsTrue (is_sized p) → IsSized CORNER_LIMIT p
sized_facts p h = let x = both _ _ h in let yz = both _ _ x.1 in
    record { x = le_from _ _ x.0; y = le_from _ _ yz.0; z = le_from _ _ yz.1 }

one_grown : (m : ℤ) (f : Fixture) → pos 0 ≤ℤ m → IsFixture f → IsTrue (fits (grown m f)) → IsFixture (grown m f)
one_grown m f least own h =
    let tests = both (is_sized (grown m f).low) (is_sized (grown m f).high) h in
    record {
      low_sized = sized_facts (grown m f).low tests.0;
      high_sized = sized_facts (grown m f).high tests.1;
      ordered = record {
        x = omega (arith, ints, least, own.ordered.x);
        y = omega (arith, ints, least, own.ordered.y);
        z = omega (arith, ints, least, own.ordered.z);
      };
    }

each_grown : (m : ℤ) (fs : List Fixture) → pos 0 ≤ℤ m → All IsFixture fs → IsTrue (list_all fits (map (grown m) fs)) → All IsFixture (map (grown m) fs)
each_grown m [] least own h = All-nil IsFixture
each_grown m (f ∷ fs) least own h =
    let tests = both (fits (grown m f)) (list_all fits (map (grown m) fs)) h in
    All-cons IsFixture _ _ (one_grown m f least (All-head IsFixture f fs own) tests.0) (each_grown m fs least (All-tail IsFixture f fs own) tests.1)

as_many : (m : ℤ) (fs : List Fixture) → length (map (grown m) fs) ≡ length fs
as_many m [] = refl
as_many m (f ∷ fs) = ap suc (as_many m fs)

pub kept_fixtures : (m : ℤ) (own new : List Fixture) → AreFixtures own → pos 0 ≤ℤ m → new ≡ map (grown m) own → IsTrue (list_all fits (map (grown m) own))
    → AreFixtures new
kept_fixtures m own new are least is fit =
    subst AreFixtures (sym is) (record {
      count = subst (λ (n : ℕ). n ≤ 256) (sym (as_many m own)) are.count;
      each = each_grown m own least are.each fit;
    })
