-- Sums and products in 128 bits.
pub mod WideSums
-- Quotients by a step, in 64 and 128 bits.
pub mod Quotients
-- The box of a line in one piece is that of its grid ends.
pub mod WholeLine
-- The refusal of the remaining pieces, one piece at a time.
pub mod RemainingPieces
-- Inequalities of one axis, in whole numbers: n, k of a path's moves, s and t the cuts in parts of
-- W.
mod PathShares
-- One axis of a line between two cuts.
mod AxisBetween
-- Each point of a line's path is in the derived box of one of its pieces.
pub mod CoveredLines
-- The law: lines by their pieces, arcs by their swept box or by the boxes about their cuts.
pub mod CoveredLaw
-- The boxes of an arc's pieces, with one more piece each time.
pub mod CutPieces
-- Tests that are true.
pub mod TrueTests
-- The boxes of pieces that share a cut arc.
pub mod SharedLaws
-- Each position in the derived box of a valid piece is safe.
pub mod SafeInPiece
-- Each point of a path of a motion with valid pieces is safe.
pub mod SafeOnPath
-- If no refusal is found, all is valid, and if all is valid, no refusal is found.
pub mod NoFault
-- The pieces of a divided motion.
pub mod Division
-- The numbers of pieces that are tried, in order.
pub mod TriedCuts
-- The motions of a plan, and one more.
pub mod PlanLaws
-- From one command to the next.
pub mod MakingLaws
-- The low corner of a line's piece is not above its high corner.
pub mod GoodLines
-- A certificate may contain the pieces of a motion if none of them is refused.
pub mod GoodPieces
-- The pieces with which a motion is cleared.
pub mod Cleared
-- The certificate that is made is valid, and it is made if each motion clears undivided.
pub mod MadeLaws
-- Motions of two settings that are alike.
pub mod AlikeLaws
-- Worked pieces on a mill of 300 mm with steps of 0.01 mm, by evaluating the definitions.
mod Examples
-- If an arc's pieces are valid, the grid points of its ends are safe.
pub mod ArcEnds
-- There is a result for all commands.
pub mod SomeMade
-- Properties of every good result.
pub mod GoodResults
-- The commands that aren't cleared, and what is made.
pub mod UnclearedLaws
-- The commands before the one at which a setting is refused, and that one.
pub mod RefusedLaws
-- Traverses on a machine whose control may take any way within the box of their ends.
pub mod TraverseLaws
