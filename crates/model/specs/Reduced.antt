-- An exclusion reduced for an ask: by what stays counted whatever roles are put in for a session (000, Theorem 4.4.1).
-- The search and the clause text both go by it.
-- Assumes nothing.
use Rattle.std.specs.Prelude.{ℕ, ◌-◌}
use Rattle.std.specs.Int.Bits.{bit_and, bit_xor}
use Rattle.model.specs.declared.Kind.{Kind}
use Rattle.model.specs.declared.Kind.TheVariants.{SsDmer, MsDmer, SsHmer, MsHmer}
use Rattle.model.specs.declared.Line.{Line}
use Rattle.model.specs.Sets.{inter, count}
use Rattle.model.specs.Line.{session_at, active_in, others}

-- what stays counted for each kind: the roles active in a session are replaced, those active elsewhere and the
-- histories stay
unfoldable pub stay : Kind → ℕ → ℕ → ℕ → ℕ
stay SsDmer elsewhere session user = 0
stay MsDmer elsewhere session user = elsewhere
stay SsHmer elsewhere session user = session
stay MsHmer elsewhere session user = user

-- the same for roles to be put in for session k of the line
abbrev pub stays : Line → ℕ → Kind → ℕ
stays l k c = stay c (active_in (others k l.sessions)) (session_at l k).history l.history

-- the members that are not counted yet; base is what stays counted
unfoldable pub mask_of : ℕ → ℕ → ℕ
mask_of members base = bit_xor members (bit_and members base)

-- one more than the number of them that may still join, 0 where n is reached
unfoldable pub reduced_n : ℕ → ℕ → ℕ → ℕ
reduced_n members n base = n - count 64 (inter members base)
