-- Boxes, each with two corners, and the block of material. Our own.
use Rattle.std.specs.Prelude.{ℕ, ◌≤◌, ℤ, ◌+ℤ◌, unsigned_abs, codes, Option, Some, None, Result, Ok}
use Rattle.std.specs.Prelude.{Bool, ◌&&◌, if◌then◌else◌}
use Rattle.toml.specs.Data.{Data, get}
use Rattle.ngc_fixed_length.specs.Signed.{is_within}
use Rattle.ngc_quantities.specs.declared.range.Place.{Place}
use Rattle.ngc_machine_figures.specs.declared.boxes.BoxKeys.{BoxKeys}
use Rattle.ngc_machine_figures.specs.declared.key.Key.{Key}
use Rattle.ngc_machine_figures.specs.declared.key.Key.TheVariants as keys
use Rattle.ngc_machine_figures.specs.declared.key.TheConstants as tables
use Rattle.ngc_machine_figures.specs.declared.refusal.FileRefusal.{FileRefusal}
use Rattle.ngc_machine_figures.specs.declared.refusal.Wrong.TheVariants as wrongs
use Rattle.ngc_machine_figures.specs.declared.sheet.BoxSheet.{BoxSheet}
use Rattle.ngc_machine_figures.specs.declared.sheet.StockSheet.{StockSheet}
use Rattle.ngc_machine_figures.specs.Found.{only_known}
use Rattle.ngc_machine_figures.specs.Kinds.{place_value, system_value}
use Rattle.ngc_machine_figures.specs.Reading.{◌>>=◌, refused, required, optional, some_ok}

-- ---- corners: each length is at most 4,000 mm in size

abbrev pub MOST : ℕ
MOST = 4000000000

abbrev pub is_near : ℤ → Bool
is_near n = is_within MOST n

pub record IsNear (p : Place) : Type 0 where
  pub x : unsigned_abs p.x ≤ 4000000000
  pub y : unsigned_abs p.y ≤ 4000000000
  pub z : unsigned_abs p.z ≤ 4000000000

pub record AreNear (corners : BoxSheet) : Type 0 where
  pub from : IsNear corners.from
  pub to : IsNear corners.to

abbrev pub near : Key → Place → Result Place FileRefusal
near key p =
    if is_near p.x && (is_near p.y && is_near p.z) then Ok p else refused key wrongs.Far

abbrev pub sum : Place → Place → Place
sum p q = record { x = p.x +ℤ q.x; y = p.y +ℤ q.y; z = p.z +ℤ q.z }

unfoldable pub near_sum : Key → Place → Place → Result Place FileRefusal
near_sum key p q = near key (sum p q)

-- the corner after `from`: either `to`, or `from` and `size` added
abbrev pub end_of : BoxKeys → Place → Option Place → Option Place → Result Place FileRefusal
end_of k from (Some to) None = near k.to to
end_of k from None (Some size) = near k.size size >>= near_sum k.size from
end_of k from None None = refused k.table wrongs.NoEnd
end_of k from (Some _) (Some _) = refused k.size wrongs.TwoEnds

unfoldable pub corners_of : BoxKeys → Data → Result BoxSheet FileRefusal
corners_of k section = do
  place ← required place_value k.from section
  from ← near k.from place
  to ← optional place_value k.to section
  size ← optional place_value k.size section
  end ← end_of k from to size
  Ok (record { from = from; to = end })

-- ---- the block of material

abbrev pub stock_box : BoxKeys
stock_box =
    record { table = keys.Stock; from = keys.StockFrom; to = keys.StockTo; size = keys.StockSize }

unfoldable pub stock_of : Data → Result StockSheet FileRefusal
stock_of section = do
  known ← only_known keys.Stock tables.STOCK_KEYS section
  system ← optional system_value keys.StockIn section
  corners ← corners_of stock_box section
  Ok (record { system = system; corners = corners })

abbrev pub stock_found : Option Data → Result (Option StockSheet) FileRefusal
stock_found None = Ok None
stock_found (Some section) = some_ok (stock_of section)

unfoldable pub stock_at : Data → Result (Option StockSheet) FileRefusal
stock_at tree = stock_found (get (codes "stock") tree)
