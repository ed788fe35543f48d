-- Reports of programs.
pub mod Writing
pub mod Times
pub mod Met
pub mod Coordinates
pub mod Reported
pub mod Texts
pub mod FaultTexts
pub mod Framed
pub mod JobReports
pub mod Demanded
