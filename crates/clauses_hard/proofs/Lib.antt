-- The laws of members of sets, of what roles carry, and of how many hard clauses there are.
pub mod MemberLaws
pub mod WalkLaws
pub mod CarrierLaws
pub mod SizeLaws
