pub mod Printed
pub mod Words
pub mod Facts
pub mod Forms
pub mod Reports
pub mod Quotes
pub mod Marks
