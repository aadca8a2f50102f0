-- What was read of carry records, lent as columns: what the contracts say.
pub mod Lent
