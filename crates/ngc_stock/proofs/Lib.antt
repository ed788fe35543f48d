-- The discs of a cutter are inside it.
pub mod Discs
-- From a cell's centre to its points, and from the points of a line to those of its pieces.
pub mod Distances
-- The heights of the cells bound what is left.
pub mod Bounds
-- What is lowered along an arc's chords is what the arc cuts.
pub mod Arcs
-- The law of silence, by induction over the commands before a traverse.
pub mod Silences
-- A tool change that isn't reported is free of the stock.
pub mod FreeTools
-- A program of which no feed below the stock is reported cuts nothing under it along straight feeds.
pub mod AboveFeeds
-- The law of feeds whose upper parts are clear.
pub mod ClearFeeds
-- What a feed meets is less than its depth above the lower of its tips.
pub mod CutDepths
