-- The discs of a cutter, one after another.
pub mod EachDisc
-- A disc whose foot is nowhere below the stock's top lowers no cell.
pub mod Uncut
-- Products that fit, and the heights of tips.
pub mod Tips
-- The deepest of the cells in the way of a traverse, found part by part.
pub mod Deepest
-- The parts of a tool, tested one after another from the lowest up.
pub mod Uppers
-- The parts of a tool along the chords of an arc, one chord after another.
pub mod Rims
-- No cell gets higher than the stock was.
pub mod Within
-- What a walk reports, command by command, and what that means.
pub mod Reports
-- What a walk leaves, command by command, and what that means.
pub mod Remains
-- A line that passes the tests on its ends follows the arc at each of its points.
pub mod Chords
-- The heights after one chord more, and after one list of chords and then another.
pub mod Sweeps
-- Where the end of a feed needn't be cut again: its last piece is as low there.
pub mod Ends
-- How far a tip is below a top, by how far it is from a bottom.
pub mod Depths
-- The feeds of the remaining commands, after those of one.
pub mod LaterFeeds
-- How deep a feed is, from what a probe finds.
pub mod FeedDepths
-- The deepest feeds of a walk, one of each tool, and what that means.
pub mod DeepestFeeds
