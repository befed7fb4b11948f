-- MD5, and its running state.
pub mod Md5
pub mod State
pub mod Kept
pub mod Vectors
