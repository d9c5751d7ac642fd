-- The definitions of the session kit, and what is claimed of them.

-- Believed: theorems or the contracts of exported functions are stated in these. First what there is, in 01's order.
pub mod Tests
pub mod Sets
pub mod Kinds
pub mod Image
pub mod Policy
pub mod Judgement
pub mod Bytes
pub mod Words
pub mod Line
pub mod Limits
pub mod Choice
pub mod Reduced
pub mod Obstacle
pub mod Clauses
pub mod Dimacs
pub mod Session
pub mod Loop
pub mod Run
-- Believed: what the theorems claim of it.
pub mod OwnWords
pub mod Independence
pub mod Frames
pub mod Chains
pub mod Ordered
pub mod Read
pub mod Chosen
pub mod Conditions
pub mod Ranges
pub mod Kept
pub mod Explained
pub mod Obstacles
pub mod Moves
-- Helpers of code and proofs: no theorem and no exported contract is stated in these.
pub mod Computing
-- Computed: facts at small values; a definition that is changed shows here.
pub mod Facts
pub mod Pinned
