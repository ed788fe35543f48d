-- Places that words give stay within the machine's reach.
pub mod Reach
