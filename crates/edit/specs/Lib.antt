-- The definitions that the contracts of the tree edit use.
pub mod Tree
