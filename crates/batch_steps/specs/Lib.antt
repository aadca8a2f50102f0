-- The steps of a batch between its tiles: what the contracts say.
pub mod InnerStanding
