-- The definitions that the contracts of the steps use.
pub mod Open
pub mod Opened
pub mod Layout
