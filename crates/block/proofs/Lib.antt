-- The laws that other crates cite.
pub mod EditionLaws
pub mod Reading
pub mod ExtentLaws
pub mod Table
pub mod TableRows
pub mod TextureRows
pub mod SettingsRows
pub mod RunLaws
pub mod Walks
pub mod Tally
pub mod Ends
pub mod ValueLaws
pub mod StreamLaws
pub mod RunRows
