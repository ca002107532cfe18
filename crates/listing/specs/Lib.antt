pub mod Listing
pub mod ListingLaws
pub mod Worked
