-- Laws about a block index: its text, and the verdict on it.
pub mod TextLaws
pub mod StripLaws
pub mod SpaceLaws
pub mod ListLaws
pub mod FormLaws
pub mod DashLaws
