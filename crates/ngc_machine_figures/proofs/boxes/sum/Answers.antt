use Rattle.ngc_machine_figures.proofs.Sums.{fitting}
use Rattle.ngc_machine_figures.proofs.boxes.sum.Goals as goal

pub returns : goal.returns
returns c =
    let p = c.args.place.now in
    let q = c.args.other.now in
    rw (fitting p.x q.x c.requires.place.x c.requires.other.x, fitting p.y q.y c.requires.place.y c.requires.other.y, fitting p.z q.z c.requires.place.z c.requires.other.z)
