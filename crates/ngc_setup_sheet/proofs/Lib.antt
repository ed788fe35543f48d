-- The remaining text, one step further.
pub mod RemainingText
-- Lines of which only the warnings are written, in a style.
pub mod WarningsAlone
-- Values and tables, and the trees that they represent.
pub mod Values
-- The lines of a file, in order.
pub mod LineSearch
