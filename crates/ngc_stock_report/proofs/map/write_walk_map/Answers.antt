use Rattle.std.proofs.Common.{◌∙◌, ◌*◌, ℕ, List, length, ap, refl, sym}
use Rattle.std.proofs.lemmas.Result.{on_ok_weaker, on_err_weaker}
use Rattle.ngc_map_picture.specs.Maps.{map_picture}
use Rattle.ngc_map_picture.specs.declared.relief.Relief.{Relief}
use Rattle.ngc_stock_report.specs.Walked.{WalkData}
use Rattle.ngc_stock_report.proofs.Reliefs.{relief_of}
use Rattle.ngc_stock_report.proofs.map.write_walk_map.Goals as goal

pub usual_side-requires : goal.usual_side-requires
usual_side-requires g c = c.walk.inside.some.0

pub write_map-requires : goal.write_map-requires
write_map-requires g c = record {
  grid_of = c.walk.inside.holds;
  columns = c.walk.inside.some.0;
  rows = c.walk.inside.some.1;
  least = c.usual_side.ensures.least;
  most = c.usual_side.ensures.most;
  heights_of = ap (λ (l : List ℕ). length l) c.as_slice.ensures.value ∙ c.walk.inside.cells.count;
  touched_of = c.requires.count ∙ sym (ap (λ (w : WalkData). w.stock.grid.columns * w.stock.grid.rows) c.walk.view_is);
}

pub returns-clause-ok : goal.returns-clause-ok
returns-clause-ok g c =
    let r : Relief = record { grid = c.walk.inside.stock.grid; top = c.walk.inside.stock.height; heights = c.as_slice.result; touched = c.args.marks; side = c.usual_side.result } in
    on_ok_weaker c.write_map.result
    (λ wrote. (map_picture r, relief_of _ _ _ r c.walk.view_is c.requires refl refl c.as_slice.ensures.value refl c.usual_side.ensures.value, wrote))
    c.write_map.ensures.ok

pub returns-clause-fault : goal.returns-clause-fault
returns-clause-fault g c =
    let r : Relief = record { grid = c.walk.inside.stock.grid; top = c.walk.inside.stock.height; heights = c.as_slice.result; touched = c.args.marks; side = c.usual_side.result } in
    on_err_weaker c.write_map.result
    (λ stop. (map_picture r, relief_of _ _ _ r c.walk.view_is c.requires refl refl c.as_slice.ensures.value refl c.usual_side.ensures.value, stop))
    c.write_map.ensures.fault
