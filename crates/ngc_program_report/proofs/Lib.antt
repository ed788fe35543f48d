-- A text that is written in pieces, from the text of each piece.
pub mod WrittenLaws
-- Texts that are written in order.
pub mod WritingLaws
-- Texts that are added in order.
pub mod JoinedTexts
-- Times of uses are written in order.
pub mod UseTimeLaws
-- The text of an accepted program, from its machine, tools and commands.
pub mod FitLaws
-- The texts of a job, from those of the accepted program.
pub mod JobTexts
-- Want of memory, before anything is written.
pub mod MemoryLaws
-- The fixture that a command meets, if none is met at the start.
pub mod MetLaws
-- What the refusal of a command by the checker implies for the settings.
pub mod NotMadeLaws
-- If a certificate is valid, each box of each piece lies within the travel.
pub mod InsideLaws
-- The frames that are kept with a job are those of its program.
pub mod FramedLaws
-- What a report adds for a command by its number.
pub mod DemandedLaws
