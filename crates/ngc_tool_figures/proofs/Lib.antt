-- Worked programs, by evaluating the definitions.
pub mod Examples
-- The remaining text of the tools, one tool further.
pub mod ToolsLeft
