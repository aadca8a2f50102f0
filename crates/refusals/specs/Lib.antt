-- Refusals: their numbers, and what a judge says.
pub mod Refusal
