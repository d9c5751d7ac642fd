-- A user's line of the ledger, W sessions long: its bytes, its soundness, and the changes that calls make to it.
-- Assumes nothing.
use Rattle.std.specs.Prelude.{Bool, true, false, ◌&&◌, ◌||◌, List, [], ◌∷◌, ◌++◌, ℕ, zero, suc, ◌+◌, ◌-◌, ◌*◌, ◌^◌, eqb, ltb, get_or, take, drop, set}
use Rattle.model.specs.declared.Kind.{Kind}
use Rattle.model.specs.declared.Kind.TheVariants.{SsDmer, MsDmer, SsHmer, MsHmer}
use Rattle.model.specs.declared.Session.{Session}
use Rattle.model.specs.declared.Line.{Line}
use Rattle.model.specs.Tests.{all}
use Rattle.model.specs.Sets.{has, union, within, one}
use Rattle.model.specs.Bytes.{number, bytes_of}
use Rattle.model.specs.Policy.{Meaning}

-- how many sessions the calls' lines have; the definitions and laws here are over any number of them
abbrev pub SESSIONS : ℕ
SESSIONS = 8

-- ---- bytes: 8 of open sessions, 8 of the user's history, then for each session 8 of active roles and 8 of its history

unfoldable pub line_size : ℕ → ℕ
line_size W = 16 + 16 * W

unfoldable pub read_sessions : ℕ → List ℕ → List Session
read_sessions zero bs = []
read_sessions (suc W) bs = record { active = number (take 8 bs); history = number (take 8 (drop 8 bs)) } ∷ read_sessions W (drop 16 bs)

unfoldable pub read_line : ℕ → List ℕ → Line
read_line W bs = record { opened = number (take 8 bs); history = number (take 8 (drop 8 bs)); sessions = read_sessions W (drop 16 bs) }

unfoldable pub write_sessions : List Session → List ℕ
write_sessions [] = []
write_sessions (s ∷ ss) = bytes_of 8 s.active ++ (bytes_of 8 s.history ++ write_sessions ss)

unfoldable pub write_line : Line → List ℕ
write_line l = bytes_of 8 l.opened ++ (bytes_of 8 l.history ++ write_sessions l.sessions)

-- ---- sessions

-- a closed session, or one just opened
unfoldable pub empty_session : Session
empty_session = record { active = 0; history = 0 }

unfoldable pub session_at : Line → ℕ → Session
session_at l k = get_or l.sessions k empty_session

unfoldable pub is_open : Line → ℕ → Bool
is_open l k = has l.opened k

-- the roles active in any session; a closed one of a sound line has none
unfoldable pub active_in : List Session → ℕ
active_in [] = 0
active_in (s ∷ ss) = union s.active (active_in ss)

-- in how many of the sessions role r is active
unfoldable pub holding : ℕ → List Session → ℕ
holding r [] = 0
holding r (s ∷ ss) = one (has s.active r) + holding r ss

-- the sessions other than session k
unfoldable pub others : ℕ → List Session → List Session
others k ss = take k ss ++ drop (suc k) ss

-- what each kind of exclusion counts at a session of the line
unfoldable pub counted : Line → Session → Kind → ℕ
counted l s SsDmer = s.active
counted l s MsDmer = active_in l.sessions
counted l s SsHmer = s.history
counted l s MsHmer = l.history

-- every exclusion is met at every session
unfoldable pub exclusions_met : Meaning → Line → Bool
exclusions_met m l = all (λ s. m.all_met (counted l s)) l.sessions

-- ---- soundness

-- session k: zero where closed; active within its history, that within the user's; active within the roles that the
-- user may activate
unfoldable pub session_sound : Meaning → Line → ℕ → Session → Bool
session_sound m l k s =
    (is_open l k || (eqb s.active 0 && eqb s.history 0)) && within s.active s.history && within s.history l.history
    && within s.active m.authorized

-- the sessions from number k on
unfoldable pub sessions_sound : Meaning → Line → ℕ → List Session → Bool
sessions_sound m l k [] = true
sessions_sound m l k (s ∷ ss) = session_sound m l k s && sessions_sound m l (suc k) ss

-- open bits of W sessions alone, the history below R, each session sound, every exclusion met
unfoldable pub sound : ℕ → Meaning → Line → Bool
sound W m l =
    ltb l.opened (2 ^ W) && ltb l.history (2 ^ m.roles) && sessions_sound m l 0 l.sessions && exclusions_met m l

-- ---- changes

-- the lowest closed one of the d sessions from k on, k + d where there is none
unfoldable pub lowest_closed : Line → ℕ → ℕ → ℕ
lowest_closed l k zero = k
lowest_closed l k (suc d) = elim (is_open l k) [ true ↦ lowest_closed l (suc k) d | false ↦ k ]

-- session k, which is closed, opened
unfoldable pub opening : ℕ → Line → Line
opening k l = record { opened = l.opened + 2 ^ k; history = l.history; sessions = l.sessions }

-- session k, which is open, closed: its bytes are zero, and the user's history stays
unfoldable pub closing : ℕ → Line → Line
closing k l = record { opened = l.opened - 2 ^ k; history = l.history; sessions = set l.sessions k empty_session }

-- the roles s put in as the active ones of session k, in place of the old ones, and added to both histories
unfoldable pub put_in : ℕ → ℕ → Line → Line
put_in k s l =
    record {
      opened = l.opened;
      history = union l.history s;
      sessions = set l.sessions k (record { active = s; history = union (session_at l k).history s });
    }
