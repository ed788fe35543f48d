-- The picture of the material that a walk leaves. Our own.
use Rattle.std.specs.Prelude.{◌≡◌, ℕ, List, Bool}
use Rattle.ngc_map_picture.specs.Maps.{map_picture, usual_side}
use Rattle.ngc_map_picture.specs.declared.relief.Relief.{Relief}
use Rattle.ngc_stock_report.specs.Marks.{AreMarks}
use Rattle.ngc_stock_report.specs.Walked.{WalkData}

-- the map of what a walk leaves, with these marks
pub record IsReliefOf (w : WalkData) (marks : List Bool) (r : Relief) : Type 0 where
  pub grid : r.grid ≡ w.stock.grid
  pub top : r.top ≡ w.stock.height
  pub heights : r.heights.now ≡ w.heights
  pub touched : r.touched.now ≡ marks
  pub side : r.side ≡ usual_side w.stock.grid

pub record IsMapOf (w : WalkData) (text : List ℕ) : Type 0 where
  pub marks : List Bool
  pub are : AreMarks w marks
  pub relief : Relief
  pub shows : IsReliefOf w marks relief
  pub is : text ≡ map_picture relief
