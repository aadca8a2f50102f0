-- The layers that a solid tile mixes: what the contracts say.
pub mod InnerMixing
