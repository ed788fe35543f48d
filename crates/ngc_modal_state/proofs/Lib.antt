-- Look-up in two tables, in order.
pub mod TableLaws
-- A line that is at most a plain move breaks no rule on the use of words.
pub mod PlainLines
-- Words by letter and value.
pub mod Words
-- A list that grows by the effects that are present.
pub mod PresentEffects
-- A line's effects are in order of their ranks, and are few.
pub mod Ranks
-- Lines, evaluated: if a definition changes its meaning, a test here fails.
mod Examples
