use Rattle.std.proofs.Common.{◌≡◌, ◌∙◌, min, reverse}
use Rattle.ngc_braking.specs.Outlook.{followed}
use Rattle.ngc_braking.proofs.OutlookLaws.{beyond_seen}
use Rattle.ngc_braking.proofs.outlook.Outlook.beyond.Goals as goal

pub returns : goal.returns
returns g c = λ legs is.
    let o = c.args.self.now in
    let all : c.min.result ≡ min (followed o.near o.far).least (followed o.near o.far).total = rw c.followed-all.ensures at c.min.ensures in
    all ∙ beyond_seen legs o.near (reverse o.later.items) o.far is
