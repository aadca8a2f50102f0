-- How layers are drawn: what the contracts say.
pub mod Codes
pub mod Color
pub mod Style
pub mod Ascending
