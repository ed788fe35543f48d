pub mod Shifts
pub mod Holds
pub mod Inside
pub mod Longest
pub mod Growth
pub mod Marks
