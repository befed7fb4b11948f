-- The definitions that the contracts of the leaf functions use: the meaning of each result, and its bounds.
pub mod Find
pub mod Line
pub mod Number
