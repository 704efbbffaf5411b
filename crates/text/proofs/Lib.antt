pub mod ReadLaws
pub mod NumberLaws
pub mod StandsLaws
pub mod LookLaws
pub mod SpellLaws
pub mod StopLaws
pub mod PutLaws
pub mod Unique
