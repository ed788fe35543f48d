-- The corners of a box, ordered.
use Rattle.std.proofs.Common.{◌≡◌, ℕ, ◌≤◌, ℤ, ◌<ℤ◌, Bool, true, false, arith}
use Rattle.std.specs.Prelude.{int_lt, unsigned_abs, ◌&&◌, if◌then◌else◌}
use Rattle.std.proofs.lemmas.Bool.{and_parts}
use Rattle.std.proofs.lemmas.Int.{ints}
use Rattle.ngc_fixed_length.specs.declared.points.Point3.{Point3}
use Rattle.ngc_machine_files.specs.Ranges.{IsBelow, IsSized}
use Rattle.ngc_added_boxes.specs.Texts.{greatest, has_volume, least}

picked_sized : (limit : ℕ) (a b : ℤ) (t : Bool) → unsigned_abs a ≤ limit → unsigned_abs b ≤ limit → unsigned_abs (if t then a else b) ≤ limit
picked_sized limit a b true h i = h
picked_sized limit a b false h i = i

pub least_sized : (limit : ℕ) (p q : Point3) → IsSized limit p → IsSized limit q → IsSized limit (least p q)
least_sized limit p q h i = record {
  x = picked_sized limit q.x p.x (int_lt q.x p.x) i.x h.x;
  y = picked_sized limit q.y p.y (int_lt q.y p.y) i.y h.y;
  z = picked_sized limit q.z p.z (int_lt q.z p.z) i.z h.z;
}

pub greatest_sized : (limit : ℕ) (p q : Point3) → IsSized limit p → IsSized limit q → IsSized limit (greatest p q)
greatest_sized limit p q h i = record {
  x = picked_sized limit p.x q.x (int_lt q.x p.x) h.x i.x;
  y = picked_sized limit p.y q.y (int_lt q.y p.y) h.y i.y;
  z = picked_sized limit p.z q.z (int_lt q.z p.z) h.z i.z;
}

less_from : (a b : ℤ) → int_lt a b ≡ true → a <ℤ b
less_from a b h = grind (arith, ints)

pub below_from : (low high : Point3) → has_volume low high ≡ true → IsBelow low high
below_from low high h =
    let x = and_parts (int_lt low.x high.x) (int_lt low.y high.y && int_lt low.z high.z) h in
    let yz = and_parts (int_lt low.y high.y) (int_lt low.z high.z) x.1 in
    record { x = less_from low.x high.x x.0; y = less_from low.y high.y yz.0; z = less_from low.z high.z yz.1 }
