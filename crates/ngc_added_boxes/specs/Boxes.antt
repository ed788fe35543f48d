-- The fixtures that are added to a machine file's for one call, and the block of material that
-- replaces its own. Our own.
use Rattle.std.specs.Prelude.{ℕ, ◌≤◌, ◌-◌, ◌++◌, ◌≡◌, List, [], length, take, drop, replicate}
use Rattle.std.specs.Prelude.{Option, None, IfSome}
use Rattle.std.specs.List.{All}
use Rattle.std.proofs.Math.Path.{◌∙◌, ap, sym, subst}
use Rattle.std.proofs.lemmas.List.{length-take-le, take-append-drop}
use Rattle.ngc_fixed_length.specs.Places.{zero_point}
use Rattle.ngc_machine_files.specs.Ranges.{CORNER_LIMIT, IsBelow, IsSized, IsStock}
use Rattle.ngc_machine_files.specs.declared.machine.StockBox.{StockBox}
use Rattle.ngc_added_boxes.specs.declared.boxes.AddedFixture.{AddedFixture}
use Rattle.ngc_added_boxes.specs.declared.boxes.Boxes.TheInside.{Inside}
use Rattle.ngc_added_boxes.specs.declared.boxes.SystemBox.{SystemBox}

-- a box in a coordinate system, 1 to 9, or in the machine, 0
pub record IsBox (limit : ℕ) (b : SystemBox) : Type 0 where
  pub system : b.system ≤ 9
  pub low_sized : IsSized limit b.low
  pub high_sized : IsSized limit b.high
  pub ordered : IsBelow b.low b.high

abbrev pub IsAdded : AddedFixture → Type 0
IsAdded f = IsBox CORNER_LIMIT f.place

-- the most fixtures that are added
abbrev pub MOST_ADDED : ℕ
MOST_ADDED = 16

pub record AddedBoxes : Type 0 where
  pub fixtures : List AddedFixture
  pub stock : Option StockBox

-- nothing is added, and the material stays
abbrev pub no_boxes : AddedBoxes
no_boxes = record { fixtures = []; stock = None }

-- ---- the stored form: 16 places, of which `count` are used

abbrev pub unused : AddedFixture
unused = record {
  name = [];
  place = record { system = 0; low = zero_point; high = zero_point };
}

abbrev pub used : Inside → AddedBoxes
used b = record { fixtures = take b.count b.places; stock = b.stock }

pub record AreKept (b : Inside) : Type 0 where
  pub greatest : b.count ≤ MOST_ADDED
  pub places : length b.places ≡ MOST_ADDED
  pub rest : drop b.count b.places ≡ replicate (MOST_ADDED - b.count) unused
  pub each : All IsAdded (take b.count b.places)
  pub stock : IfSome b.stock IsStock

abbrev pub kept : AddedBoxes → Inside
kept b = record {
  places = b.fixtures ++ replicate (MOST_ADDED - length b.fixtures) unused;
  count = length b.fixtures;
  stock = b.stock;
}

-- storing boxes loses nothing
pub kept-used : (b : Inside) → AreKept b → kept (used b) ≡ b
kept-used b h =
    let n : length (take b.count b.places) ≡ b.count =
    length-take-le b.count b.places (subst (λ n. b.count ≤ n) (sym h.places) h.greatest) in
    ap (λ n. record { places = take b.count b.places ++ replicate (MOST_ADDED - n) unused; count = n; stock = b.stock }) n
    ∙ ap (λ rest. record { places = take b.count b.places ++ rest; count = b.count; stock = b.stock }) (sym h.rest)
    ∙ ap (λ places. record { places = places; count = b.count; stock = b.stock }) (take-append-drop b.count b.places)
