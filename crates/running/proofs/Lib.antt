-- Laws about a running digest that a caller keeps.
pub mod StateBytes
pub mod KeptLaws
pub mod ReturnLaws
