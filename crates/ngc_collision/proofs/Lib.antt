-- The boxes of the parts of a tool.
pub mod ToolBoxes
