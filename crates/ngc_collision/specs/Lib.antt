pub mod Body
pub mod Inside
