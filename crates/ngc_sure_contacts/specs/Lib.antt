pub mod Swept
pub mod Contacts
pub mod Maps
