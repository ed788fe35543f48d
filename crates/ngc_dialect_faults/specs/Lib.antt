pub mod Flow
pub mod Lines
pub mod Plain
pub mod Rules
pub mod Values
