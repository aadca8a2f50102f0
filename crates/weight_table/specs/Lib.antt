-- The EvenOdd weights of remainders.
pub mod Rest
