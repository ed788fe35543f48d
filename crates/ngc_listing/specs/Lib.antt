-- The listing.
pub mod Listing
