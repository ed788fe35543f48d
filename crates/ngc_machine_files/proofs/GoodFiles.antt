-- Files whose values are all in range.
use Rattle.std.proofs.Common.{◌≡◌, ◌≤ℤ◌, ◌<ℤ◌, ℕ, ℤ, pos, negsuc, List, Bool, true, false, ◌&&◌, Result, Ok, int_le, int_lt, refl, ap, suc, arith}
use Rattle.std.specs.Prelude.{is_some, Option, Some, None, IfSome, ◌≤◌, unsigned_abs}
use Rattle.std.specs.List.{All, list_all}
use Rattle.std.specs.Int.Signed.{le_z_yes, lt_z_yes}
use Rattle.std.proofs.lemmas.Int.{ints}
use Rattle.std.proofs.lemmas.Bool.{and_parts, leb-true, eqb-true}
use Rattle.std.proofs.lemmas.Float.{T_from_true}
use Rattle.std.proofs.lemmas.List.Sums.{AllPass-from_list_all}
use Rattle.std.proofs.lemmas.List.Elements.{All-weaker}
use Rattle.ngc_fixed_length.specs.Signed.{is_within, is_zero}
use Rattle.ngc_fixed_length.specs.Length.{IsStep}
use Rattle.ngc_motors.specs.Counts.{AreMotors, is_motor}
use Rattle.ngc_motors.specs.declared.step.MotorSteps.{MotorSteps}
use Rattle.ngc_machine_files.specs.Ranges.{PLACE_LIMIT, TRAVEL_LIMIT, BLOCK_LIMIT, place_limit, travel_limit, CORNER_LIMIT, IsFrom, IsSized, IsAtMost, IsBelow, IsOnGrid, IsTravel, IsFixture}
use Rattle.ngc_machine_files.specs.Numbers.{from_to}
use Rattle.ngc_machine_files.specs.Refusals.{◌>>◌, refuse_unless}
use Rattle.ngc_machine_files.specs.MachineText.{MachineValues, is_sized, is_at_most, is_below, is_multiple, is_on_grid, is_rate, good_axis_rates, good_jump, good_ring, good_arc_feed, good_changer, good_turn, good_axis_turns, good_own, good_numbers, good_margin, good_limits, good_motors, good_axis_ends, good_rates, good_travel, good_version}
use Rattle.ngc_machine_files.specs.MachineText.{good_fixture, good_fixtures, machine_ranges, place_of, fixture_of, good_block, good_stock, AreFrom, AreOwn, IsBlock, IsGood}
use Rattle.ngc_machine_files.specs.ToolText.{ToolNumbers, TableValues, good_part, good_parts, good_tool, good_tools, table_ranges, IsPartEntry, ArePartEntries}
use Rattle.ngc_machine_files.specs.ToolText.{IsEntry, AreEntries}
use Rattle.ngc_machine_files.specs.declared.fault.FileFault.{FileFault}
use Rattle.ngc_machine_files.specs.declared.tool_contents.PartEntry.{PartEntry}
use Rattle.ngc_machine_files.specs.declared.machine_contents.Coordinates.{Coordinates}
use Rattle.ngc_machine_files.specs.declared.machine_contents.Corners.{Corners}
use Rattle.ngc_machine_files.specs.declared.machine_contents.LimitNumbers.{LimitNumbers}
use Rattle.ngc_machine_files.specs.declared.machine_contents.MachinePoints.{MachinePoints}
use Rattle.ngc_machine_files.specs.declared.machine_contents.StockNumbers.{StockNumbers}

-- if a chain of checks passes, the first check passes, and so do the others
passes : (b : Bool) (e : FileFault) (r : Result (Unit {0}) FileFault) → (refuse_unless b e >> r) ≡ Ok tt → (b ≡ true) × (r ≡ Ok tt)
passes true e r h = (refl, h)
passes false e r h = cc

passes_last : (b : Bool) (e : FileFault) → refuse_unless b e ≡ Ok tt → b ≡ true
passes_last true e h = refl
passes_last false e h = cc

less : (a b : ℤ) → int_le a b ≡ true → a ≤ℤ b
less a b h = le_z_yes (T_from_true _ h)

below : (a b : ℤ) → int_lt a b ≡ true → a <ℤ b
below a b h = lt_z_yes (T_from_true _ h)

pub from : (low high z : ℤ) → from_to low high z ≡ true → IsFrom low high z
from low high z h =
    let (l, g) = and_parts (int_le low z) (int_le z high) h in
    record { least = less _ _ l; greatest = less _ _ g }

a_rate : (z : ℤ) → is_rate z ≡ true → IsFrom (pos 1) (pos 1000000) z
unfolding is_rate
a_rate z h = from _ _ z h

pub three : (a b c : Bool) → (a && b && c) ≡ true → (a ≡ true) × (b ≡ true) × (c ≡ true)
three true true true h = (refl, refl, refl)
three true true false h = cc
three true false c h = cc
three false b c h = cc

sized : (n : ℕ) (p : Coordinates) → is_sized n p ≡ true → IsSized n (place_of p)
sized n p h =
    let (x, y, z) = three (is_within n p.x) (is_within n p.y) (is_within n p.z) h in
    record { x = leb-true _ _ x; y = leb-true _ _ y; z = leb-true _ _ z }

at_most : (p q : Coordinates) → is_at_most p q ≡ true → IsAtMost (place_of p) (place_of q)
at_most p q h =
    let (x, y, z) = three (int_le p.x q.x) (int_le p.y q.y) (int_le p.z q.z) h in
    record { x = less _ _ x; y = less _ _ y; z = less _ _ z }

all_below : (p q : Coordinates) → is_below p q ≡ true → IsBelow (place_of p) (place_of q)
all_below p q h =
    let (x, y, z) = three (int_lt p.x q.x) (int_lt p.y q.y) (int_lt p.z q.z) h in
    record { x = below _ _ x; y = below _ _ y; z = below _ _ z }

pub zero_of : (z : ℤ) → is_zero z ≡ true → z ≡ pos 0
zero_of (pos n) h = ap pos (eqb-true n 0 h)
zero_of (negsuc n) h = let e : suc n ≡ 0 = eqb-true _ 0 h in absurd (omega arith)

on_grid : (step : ℤ) (p : Coordinates) → is_on_grid step p ≡ true → IsOnGrid step (place_of p)
on_grid step p h =
    let (x, y, z) = three (is_multiple step p.x) (is_multiple step p.y) (is_multiple step p.z) h in
    record { x = zero_of _ x; y = zero_of _ y; z = zero_of _ z }

-- a place that is sized in any file
near_or_far : (far : Bool) (z : ℤ) → unsigned_abs z ≤ place_limit far → unsigned_abs z ≤ PLACE_LIMIT
near_or_far true z h = h
near_or_far false z h = omega (arith, h)

placed : (far : Bool) (p : Coordinates) → is_sized (place_limit far) p ≡ true → IsSized PLACE_LIMIT (place_of p)
placed far p h =
    let s = sized (place_limit far) p h in
    record { x = near_or_far far p.x s.x; y = near_or_far far p.y s.y; z = near_or_far far p.z s.z }

limit_near_or_far : (far : Bool) (z : ℤ) → unsigned_abs z ≤ travel_limit far → unsigned_abs z ≤ TRAVEL_LIMIT
limit_near_or_far true z h = h
limit_near_or_far false z h = omega (arith, h)

limited : (far : Bool) (p : Coordinates) → is_sized (travel_limit far) p ≡ true → IsSized TRAVEL_LIMIT (place_of p)
limited far p h =
    let s = sized (travel_limit far) p h in
    record { x = limit_near_or_far far p.x s.x; y = limit_near_or_far far p.y s.y; z = limit_near_or_far far p.z s.z }

travel : (step : ℤ) (p : MachinePoints) → good_limits step p ≡ true → IsTravel step (place_of p.low) (place_of p.high) (place_of p.start)
travel step p h =
    let (h5, grid) = and_parts _ (is_on_grid step p.start) h in
    let (h4, below_high) = and_parts _ (is_at_most p.start p.high) h5 in
    let (h3, above_low) = and_parts _ (is_at_most p.low p.start) h4 in
    let (low, high, order) = three (is_sized (travel_limit p.far) p.low) (is_sized (travel_limit p.far) p.high) (is_at_most p.low p.high) h3 in
    record {
      low_sized = limited p.far _ low;
      high_sized = limited p.far _ high;
      ordered = at_most _ _ order;
      start_above = at_most _ _ above_low;
      start_below = at_most _ _ below_high;
      start_on_grid = on_grid _ _ grid;
    }

axis_rates : (p : Coordinates) → good_axis_rates p ≡ true → AreFrom (pos 1) (pos 1000000) p
axis_rates p h =
    let (x, y, z) = three (is_rate p.x) (is_rate p.y) (is_rate p.z) h in
    record { x = a_rate _ x; y = a_rate _ y; z = a_rate _ z }

axis_turns : (p : Coordinates) → good_axis_turns p ≡ true → AreFrom (pos 1) (pos 1000000000000) p
axis_turns p h =
    let (x, y, z) = three (good_turn p.x) (good_turn p.y) (good_turn p.z) h in
    record { x = from _ _ _ x; y = from _ _ _ y; z = from _ _ _ z }

an_own : (own : Option LimitNumbers) → good_own own ≡ true → IfSome own AreOwn
an_own None h = tt
an_own (Some limits) h =
    let (changes, turns) = and_parts (good_axis_rates limits.changes) (good_axis_turns limits.turns) h in
    record { changes = axis_rates limits.changes changes; turns = axis_turns limits.turns turns }

a_fixture : (f : Corners) → good_fixture f ≡ true → IsFixture (fixture_of f)
a_fixture f h =
    let (corners, _) = and_parts _ (is_some f.name) h in
    let (low, high, order) = three (is_sized CORNER_LIMIT f.low) (is_sized CORNER_LIMIT f.high) (is_below f.low f.high) corners in
    record { low_sized = sized _ _ low; high_sized = sized _ _ high; ordered = all_below _ _ order }

a_block : (s : StockNumbers) → good_block s ≡ true → IsBlock s
a_block s h =
    let (h3, order) = and_parts _ (is_below s.low s.high) h in
    let (system, low, high) = three (from_to (pos 0) (pos 9) s.system) (is_sized BLOCK_LIMIT s.low) (is_sized BLOCK_LIMIT s.high) h3 in
    let at = from _ _ _ system in
    record {
      system = at;
      stock = record {
        system = omega (arith, ints, at.least, at.greatest);
        low_sized = sized _ _ low;
        high_sized = sized _ _ high;
        ordered = all_below _ _ order;
      };
    }

a_stock : (stock : Option StockNumbers) → good_stock stock ≡ true → IfSome stock IsBlock
a_stock None h = tt
a_stock (Some s) h = a_block s h

each_passes : {X : Type 0} (p : X → Bool) (P : X → Type 0) → ((x : X) → p x ≡ true → P x) → (xs : List X) → list_all p xs ≡ true → All P xs
each_passes p P tells xs h = All-weaker (λ x. p x ≡ true) P tells xs (AllPass-from_list_all p xs h)

some_motors : (step : ℤ) (motors : MotorSteps) → IsStep step → good_motors step motors ≡ true → AreMotors (record { grid = step; steps = motors })
unfolding good_motors
some_motors step motors is h =
    let (x, y, z) = three (is_motor step motors.x) (is_motor step motors.y) (is_motor step motors.z) h in
    record { grid = is; x = x; y = y; z = z }

pub IsGood-from_ranges : (m : MachineValues) → machine_ranges m ≡ Ok tt → IsGood m
unfolding good_travel good_numbers
IsGood-from_ranges m h =
    let (_, h7) = passes _ _ _ h in
    let (step, h8) = passes _ _ _ h7 in
    let (steps, h6) = passes (good_motors m.numbers.step m.motor_steps) _ _ h8 in
    let (ticks, h5) = passes _ _ _ h6 in
    let (rates, h4) = passes _ _ _ h5 in
    let (travels, h3) = passes _ _ _ h4 in
    let (places, h2) = passes _ _ _ h3 in
    let (fixtures, h1) = passes (good_fixtures m) _ _ h2 in
    let block : good_stock m.options.stock ≡ true = passes_last _ _ h1 in
    let (limits, travel_margin, _) = three (good_limits m.numbers.step m.points) (good_margin m.numbers.optional.travel_margin)
    (good_axis_ends m.numbers.step m.motor_steps m.points) travels in
    let in_step = from (pos 500) (pos 50000) m.numbers.step step in
    let is_step : IsStep m.numbers.step = record { least = in_step.least; greatest = in_step.greatest } in
    let (rates9, own) = and_parts _ (good_own m.own) rates in
    let (rates8, _) = and_parts _ (good_changer m.numbers.optional.changer) rates9 in
    let (rates7, _) = and_parts _ (good_arc_feed m.numbers.optional.arc_feed) rates8 in
    let (rates6, ring) = and_parts _ (good_ring m.numbers.optional.ring) rates7 in
    let (rates5, jump) = and_parts _ (good_jump m.numbers.optional.jump) rates6 in
    let (rates4, axes) = and_parts _ (good_axis_rates m.axis_rates) rates5 in
    let (rates3, turn) = and_parts _ (good_turn m.numbers.turn) rates4 in
    let (max_rate, change, corner) = three (is_rate m.numbers.max_rate) (is_rate m.numbers.change) (is_rate m.numbers.corner) rates3 in
    let far = m.points.far in
    let (home28, home30, origins) = three (is_sized (place_limit far) m.points.home28) (is_sized (place_limit far) m.points.home30)
    (list_all (is_sized (place_limit far)) m.origins) places in
    let (count, each, margin) = three _ (list_all good_fixture m.fixtures) (good_margin m.numbers.optional.margin) fixtures in
    record {
      step = is_step;
      motors = some_motors m.numbers.step m.motor_steps is_step steps;
      ticks_per_second = a_rate _ ticks;
      max_rate = a_rate _ max_rate;
      axis_rates = axis_rates m.axis_rates axes;
      jump = from _ _ _ jump;
      change = a_rate _ change;
      corner = a_rate _ corner;
      turn = from _ _ _ turn;
      own = an_own m.own own;
      ring = from _ _ _ ring;
      travel = travel m.numbers.step m.points limits;
      home28 = placed far _ home28;
      home30 = placed far _ home30;
      origins = each_passes _ _ (placed far) m.origins origins;
      fixture_count = leb-true _ _ count;
      fixtures = each_passes _ _ a_fixture m.fixtures each;
      margin = from _ _ _ margin;
      travel_margin = from _ _ _ travel_margin;
      stock = a_stock m.options.stock block;
    }

-- where a motor's step isn't the grid's, the ends of the travel are whole
pub ends-from_ranges : (m : MachineValues) → machine_ranges m ≡ Ok tt → good_axis_ends m.numbers.step m.motor_steps m.points ≡ true
unfolding good_travel
ends-from_ranges m h =
    let (_, h1) = passes (good_version m.numbers.version) _ _ h in
    let (_, h2) = passes (from_to (pos 500) (pos 50000) m.numbers.step) _ _ h1 in
    let (_, h3) = passes (good_motors m.numbers.step m.motor_steps) _ _ h2 in
    let (_, h4) = passes (is_rate m.numbers.ticks_per_second) _ _ h3 in
    let (_, h5) = passes (good_rates m) _ _ h4 in
    let (travels, _) = passes (good_travel m) _ _ h5 in
    let (_, _, ends) = three (good_limits m.numbers.step m.points) (good_margin m.numbers.optional.travel_margin)
    (good_axis_ends m.numbers.step m.motor_steps m.points) travels in
    ends

pub limits-from_ranges : (m : MachineValues) → machine_ranges m ≡ Ok tt → good_limits m.numbers.step m.points ≡ true
unfolding good_travel
limits-from_ranges m h =
    let (_, h1) = passes (good_version m.numbers.version) _ _ h in
    let (_, h2) = passes (from_to (pos 500) (pos 50000) m.numbers.step) _ _ h1 in
    let (_, h3) = passes (good_motors m.numbers.step m.motor_steps) _ _ h2 in
    let (_, h4) = passes (is_rate m.numbers.ticks_per_second) _ _ h3 in
    let (_, h5) = passes (good_rates m) _ _ h4 in
    let (travels, _) = passes (good_travel m) _ _ h5 in
    let (limits, _, _) = three (good_limits m.numbers.step m.points) (good_margin m.numbers.optional.travel_margin)
    (good_axis_ends m.numbers.step m.motor_steps m.points) travels in
    limits

a_part : (p : PartEntry) → good_part p ≡ true → IsPartEntry p
a_part p h =
    let (l, r) = and_parts _ _ h in
    record { length = from _ _ _ l; radius = from _ _ _ r }

some_parts : (ps : List PartEntry) → good_parts ps ≡ true → ArePartEntries ps
some_parts ps h =
    let (least, greatest, each) = three _ _ _ h in
    record { least = leb-true _ _ least; greatest = leb-true _ _ greatest; each = each_passes _ _ a_part ps each }

an_entry : (t : ToolNumbers) → good_tool t ≡ true → IsEntry t
an_entry t h =
    let (h4, _) = and_parts _ (is_some t.name) h in
    let (h3, parts) = and_parts _ (good_parts t.parts) h4 in
    let (number, offset, bottom) = three _ _ _ h3 in
    record { number = from _ _ _ number; offset = leb-true _ _ offset; bottom = from _ _ _ bottom; parts = some_parts t.parts parts }

pub AreEntries-from_ranges : (t : TableValues) → table_ranges t ≡ Ok tt → AreEntries t.tools
AreEntries-from_ranges t h =
    let (_, last) = passes _ _ _ h in
    let good : good_tools t.tools ≡ true = passes_last _ _ last in
    let (count, each, different) = three _ _ _ good in
    record { count = leb-true _ _ count; each = each_passes _ _ an_entry t.tools each; different = different }
