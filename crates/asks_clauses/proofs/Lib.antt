-- The laws behind the clause text of an ask.
pub mod Standing
pub mod TextCalls
