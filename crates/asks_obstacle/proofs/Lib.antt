-- The laws behind what stands in the way of an ask, at the call.
pub mod Tellings
pub mod ObstacleCalls
