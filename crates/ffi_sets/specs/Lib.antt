-- Kept sets by numbers: what the exports' contracts say, and any list of calls.
pub mod Sets
pub mod SetCalls
pub mod Edges
