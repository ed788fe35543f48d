-- What holds of a program if a walk finds no traverse, and if it finds no feed. How deep its feeds cut
-- at most. Whatever the number of cells. Our own. The premises are those of the law of silence (ngc_stock).
use Rattle.std.specs.Prelude.{◌≡◌, ℕ, ◌<◌, pos, ◌+ℤ◌, ◌<ℤ◌, List, [], ◌∷◌, ◌++◌, length, slice_index, slice_get, Some}
use Rattle.ngc_fixed_length.specs.declared.points.Point3.{Point3}
use Rattle.ngc_file_figures.specs.declared.limits.ToolLimits.{ToolLimits}
use Rattle.ngc_machine_files.specs.Machine.{MachineFile}
use Rattle.ngc_commands.specs.declared.command.Command.{Command}
use Rattle.ngc_commands.specs.Reached.{at_start, after_all}
use Rattle.ngc_stock.specs.declared.cut.Cut.{Cut}
use Rattle.ngc_stock.specs.declared.stock.Stock.{Stock}
use Rattle.ngc_stock.specs.Changes.{tool_number}
use Rattle.ngc_stock.specs.Cuts.{IsShallow, depth_for}
use Rattle.ngc_stock.specs.Discs.{discs_in}
use Rattle.ngc_stock.specs.Feeds.{IsSafeFeed}
use Rattle.ngc_stock.specs.Stocks.{IsInCell}
use Rattle.ngc_stock.specs.Walk.{IsSafe, IsLeft}
use Rattle.ngc_material.specs.Walks.{with_feeds}
use Rattle.ngc_material.specs.declared.walk.Found.{Found}
use Rattle.ngc_sure_contacts.specs.Contacts.{IsContact}
use Rattle.ngc_sure_contacts.specs.declared.contact.Contact.{Contact}
use Rattle.ngc_sure_contacts.specs.declared.contact.FoundTraverse.{FoundTraverse}
use Rattle.ngc_stock_report.specs.Walked.{IsWalked, WalkData}

-- if a walk over a program's commands finds no traverse, no straight traverse of them meets a point of the
-- material that the feeds before it have left, for each disc of the cutter and each part above it, smaller by the
-- margin and raised
abbrev pub SilentReport : Type 0
SilentReport = (most : ℕ) (table : List ToolLimits) (m : MachineFile) (before after : List Command) (c : Command) (stock : Stock) (feeds : List Found) (cuts : List Cut) (heights : List ℕ) (traverses : List FoundTraverse) →
    IsWalked most table m (before ++ c ∷ after) (Some (record { stock = stock; found = []; feeds = feeds; cuts = cuts; heights = heights; traverses = traverses })) →
    IsSafe stock (IsLeft stock table (at_start m) before) (discs_in table (after_all (at_start m) before).tool)
    (after_all (at_start m) before).tool c.action

-- if it finds no feed, no part above the cutter meets along a straight feed a point of the material that the
-- feeds up to this one, and the reported traverses before it, have left
abbrev pub SilentFeeds : Type 0
SilentFeeds = (most : ℕ) (table : List ToolLimits) (m : MachineFile) (before after : List Command) (c : Command) (stock : Stock) (found : List Found) (cuts : List Cut) (heights : List ℕ) (traverses : List FoundTraverse) →
    IsWalked most table m (before ++ c ∷ after) (Some (record { stock = stock; found = found; feeds = []; cuts = cuts; heights = heights; traverses = traverses })) →
    IsSafeFeed stock (IsLeft stock table (at_start m) (with_feeds 0 before found ++ c ∷ [])) (after_all (at_start m) before).tool c.action

-- what the discs of a straight feed, smaller by the margin, meet of the material that the feeds and the
-- reported traverses before it have left is less than the depth of its tool above the feed's lower tip
abbrev pub DeepestReport : Type 0
DeepestReport = (most : ℕ) (table : List ToolLimits) (m : MachineFile) (before after : List Command) (c : Command) (w : WalkData) →
    IsWalked most table m (before ++ c ∷ after) (Some w) →
    IsShallow w.stock (IsLeft w.stock table (at_start m) (with_feeds 0 before w.found))
    (discs_in table (after_all (at_start m) before).tool) (after_all (at_start m) before).tool c.action
    (depth_for w.cuts (tool_number (after_all (at_start m) before).tool))

-- no point of the material that the feeds and the reported traverses have left is as high as its cell at the end
abbrev pub RemainsReport : Type 0
RemainsReport = (most : ℕ) (table : List ToolLimits) (m : MachineFile) (commands : List Command) (w : WalkData) (k : ℕ) (q : Point3) →
    IsWalked most table m commands (Some w) → k < length w.heights → IsInCell w.stock.grid k q →
    IsLeft w.stock table (at_start m) (with_feeds 0 commands w.found) q → q.z <ℤ (w.stock.bottom +ℤ pos (slice_index w.heights k))

-- a traverse that has a contact goes, at the contact's place and by its depth at least, through material that no
-- motion before it has swept. The premises are those of the contacts (ngc_sure_contacts)
abbrev pub SureReport : Type 0
SureReport = (most : ℕ) (table : List ToolLimits) (m : MachineFile) (commands : List Command) (w : WalkData) (i : ℕ) (t : FoundTraverse) (c : Contact) →
    IsWalked most table m commands (Some w) → slice_get w.traverses i ≡ Some t → t.contact ≡ Some c →
    IsContact w.stock table (at_start m) commands t.found c
