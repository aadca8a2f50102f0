-- A batch in a run: the public calls that it stands for, and the claim about them.
pub mod BatchCalls
pub mod BatchClaim
