-- The definitions that the contracts of the listing use.
pub mod Text
pub mod Listing
