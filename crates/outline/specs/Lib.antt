-- The definitions that the contracts of rows and stored outlines cite.
pub mod Row
pub mod Form
