-- What the contracts say is of cover_statements, but for what cites the struct of a cover.
pub mod Adding
