-- The lines of a driven row, printed: what the contracts say.
pub mod Told
