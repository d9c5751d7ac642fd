-- What an ask that nothing refuses before the search asks for.
-- Assumes nothing.
use Rattle.std.specs.Prelude.{◌≡◌, true, ℕ, Option}
use Rattle.sets.specs.Words.{value}
use Rattle.query_rank.specs.Objectives.{number_of}
use Rattle.asks_request.specs.declared.bounds.Bounds.{Bounds}
use Rattle.asks_request.specs.declared.request.Wanted.{Wanted}
use Rattle.asks_request.specs.Refusals.{sized_of, lower_of, upper_of}

-- the bounds and the objectives wanted are those of the request
pub record Wants (bounds : Option Bounds) (first second : ℕ) (w : Wanted) : Type 0 where
  pub lengths : sized_of bounds ≡ true
  pub lower-is : value w.bounds.lower ≡ lower_of bounds
  pub upper_is : value w.bounds.upper ≡ upper_of bounds
  pub first_is : number_of w.first ≡ first
  pub second_is : number_of w.second ≡ second
