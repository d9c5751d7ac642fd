-- What the search reads of the grant table that a host may have.
pub mod SearchTable
pub mod Theorems
