-- Laws of MD5.
pub mod RoundLaws
pub mod MixLaws
pub mod BlockLaws
pub mod JoinLaws
pub mod PaddingLaws
pub mod PartLaws
pub mod StateLaws
