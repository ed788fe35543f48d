pub mod Passed
pub mod Files
pub mod Asked
pub mod Answered
pub mod Commanded
pub mod JobCalls
