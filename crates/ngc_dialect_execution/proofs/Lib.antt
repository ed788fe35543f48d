-- Plain lines are executed in order, and their commands are lawful, whatever they are.
pub mod Lawful
-- One plain line after another.
pub mod FoldSteps
-- The words of statements.
pub mod LineSteps
-- The first line of a text.
pub mod FirstLine
-- What a program's plain lines lead to.
pub mod Reaching
-- Frames that are the same make the same changes.
pub mod FrameSteps
-- One line of a text after another.
pub mod TextSteps
-- What steps return, passed on; the moves of a cycle, one after another.
pub mod Passing
-- A line of statements: it has flow, or it takes effect.
pub mod StatementSteps
-- One line of a program after another.
pub mod ProgramSteps
-- One line of a program's flow after another.
pub mod FlowSteps
-- What a program does doesn't depend on what is collected.
pub mod Erasure
-- Modes are restored by the words that restore them.
pub mod SavedSteps
-- Block delete does nothing in a text of which no line begins with `/`.
pub mod DeletedLines
