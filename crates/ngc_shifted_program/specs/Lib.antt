pub mod Origins
pub mod Executions
pub mod Shifted
