-- Laws of one layer's row of tiles four pixels high by numbers.
pub mod FourHighTold
pub mod FourHighCalls
