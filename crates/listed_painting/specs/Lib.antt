-- The layers of a tile painted in one walk: what the contracts say.
pub mod InnerFreeing
pub mod InnerWalk
