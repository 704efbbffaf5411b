pub mod PieceLaws
pub mod FillLaws
pub mod ReportLaws
pub mod Unique
pub mod Example
