-- The map of what a walk leaves.
use Rattle.std.proofs.Common.{◌≡◌, ◌∙◌, ap, refl, List, Bool}
use Rattle.ngc_map_picture.specs.Maps.{map_picture, usual_side}
use Rattle.ngc_map_picture.specs.declared.relief.Relief.{Relief}
use Rattle.ngc_stock_report.specs.MapPictures.{IsMapOf}
use Rattle.ngc_stock_report.specs.Marks.{AreMarks}
use Rattle.ngc_stock_report.specs.Walked.{WalkData}

pub relief_of : (w v : WalkData) (marks : List Bool) (r : Relief) → v ≡ w → AreMarks w marks → r.grid ≡ v.stock.grid → r.top ≡ v.stock.height →
    r.heights.now ≡ v.heights → r.touched.now ≡ marks → r.side ≡ usual_side v.stock.grid → IsMapOf w (map_picture r)
relief_of w v marks r same are grid top heights touched side = record {
  marks = marks;
  are = are;
  relief = r;
  shows = record {
    grid = grid ∙ ap (λ (x : WalkData). x.stock.grid) same;
    top = top ∙ ap (λ (x : WalkData). x.stock.height) same;
    heights = heights ∙ ap (λ (x : WalkData). x.heights) same;
    touched = touched;
    side = side ∙ ap (λ (x : WalkData). usual_side x.stock.grid) same;
  };
  is = refl;
}
