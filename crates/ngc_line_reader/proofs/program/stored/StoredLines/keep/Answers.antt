use Rattle.ngc_line_reader.specs.Kept.{parts_in}
use Rattle.ngc_line_reader.specs.ProgramView.{lines_in}
use Rattle.ngc_line_reader.proofs.KeptLines.{within_stays, kept_stays}
use Rattle.ngc_line_reader.proofs.program.stored.StoredLines.keep.Goals as goal

pub invariant_of-self : goal.invariant_of-self
invariant_of-self g c = record {
  few = c.args.self.now.few;
  stored = c.args.self.now.stored;
  within = within_stays (parts_in c.args.self.now.parts) (parts_in c.push.new.self) c.args.self.now.ends.items c.in-Ok.ensures.kept c.args.self.now.within;
  kept = kept_stays (parts_in c.args.self.now.parts) (parts_in c.push.new.self)
      (lines_in c.args.self.now) c.args.self.now.ends.items c.in-Ok.ensures.kept c.args.self.now.within c.args.self.now.kept;
}
