-- One layer's row of tiles four pixels high by numbers: what the contracts say, and the claim about any calls after an opening.
pub mod FourHighRows
pub mod FourHighCalls
