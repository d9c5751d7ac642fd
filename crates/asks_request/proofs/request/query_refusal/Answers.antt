-- `asks_request::request::query_refusal` meets its contract: each return is answered by the law of the tests that led
-- there.
-- Assumes nothing.
use mathlib.Core.Path.{refl}
use Rattle.asks_request.proofs.Requests.{query15, query_bounds}
use Rattle.asks_request.proofs.request.query_refusal.Goals as goal

pub returns-in_default-clause-refused : goal.returns-in_default-clause-refused
returns-in_default-clause-refused c = rw c.in_default.is (query15 _ _ _ _ _ _ _ refl)

pub returns-clause-refused : goal.returns-clause-refused
returns-clause-refused c = rw c.in-Some.is (query_bounds _ _ _ _ _ _ _ _ refl c.bounds_refusal.ensures.refused)
