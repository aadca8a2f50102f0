-- Queues of carry records: what their contracts say.
pub mod Records
