-- What a call leaves alone of a line: every session but the one that it names.
-- Assumes nothing.
use mathlib.Core.Path.{◌≡◌, refl, sym, ap, ◌∙◌}
use mathlib.Core.Bool.{true}
use mathlib.Core.Option.{Option, none, some}
use mathlib.Core.List.{List}
use Prim.Native.Nat.{ℕ}
use lib.ListN.{length, take, drop}
use lib.Pow.{are_bytes}
use Rattle.model.specs.declared.Line.{Line}
use Rattle.model.specs.Policy.{Meaning}
use Rattle.model.specs.Line.{line_size, read_line, write_line, opening, closing, put_in}
use Rattle.model.specs.Limits.{Others}
use Rattle.model.specs.Session.{Operation, open_session, close_session, ask, short_ask, show, explain, obstacle, clauses, session_of, asked, perform, rule}
use Rattle.model.specs.Frames.{session_bytes, SessionFrames}
use Rattle.model_laws.proofs.LineLaws.{unless-part, explained-line, obstructed-line, block_at, block_set, block_line, behind_opened, history_part}
use Rattle.model_laws.proofs.RoundTrip.{write_read}

module _ (W : ℕ) (m : Meaning) (x : Others) (bs : List ℕ) (hb : are_bytes bs ≡ true) (hn : length bs ≡ line_size W) where
  -- a line written whose session j is that of the line read
  sessions_kept : (l : Line) (j : ℕ) → block_at j l.sessions ≡ block_at j (read_line W bs).sessions → session_bytes j (write_line l) ≡ session_bytes j bs
  sessions_kept l j e =
      block_line l j ∙ e ∙ sym (block_line (read_line W bs) j) ∙ ap (session_bytes j) (write_read W bs hb hn)

  -- an ask, any call that nothing refuses, and any call
  asked-others : (k j : ℕ) (o : Option ℕ) → ¬ (j ≡ k) → session_bytes j (asked m (read_line W bs) bs k o).line ≡ session_bytes j bs
  unfolding asked
  asked-others k j none h = refl
  asked-others k j (some s) h = sessions_kept (put_in k s (read_line W bs)) j (unfold put_in in block_set (read_line W bs).sessions k j _ h)

  perform-others : (op : Operation) (j : ℕ) → ¬ (j ≡ session_of op) → session_bytes j (perform W m x (read_line W bs) bs op).line ≡ session_bytes j bs
  unfolding perform session_of
  perform-others open_session j h = sessions_kept (opening _ (read_line W bs)) j (unfold opening in refl)
  perform-others (close_session k) j h =
      sessions_kept (closing k (read_line W bs)) j (unfold closing in block_set (read_line W bs).sessions k j _ h)
  perform-others (ask k q) j h = asked-others k j _ h
  perform-others (short_ask k lower upper room) j h = asked-others k j _ h
  perform-others (show k room) j h = refl
  perform-others (explain k n) j h = ap (session_bytes j) (explained-line bs _)
  perform-others (obstacle k lower upper room) j h = ap (session_bytes j) (obstructed-line bs _)
  perform-others (clauses k q) j h = refl

  rule-others : (op : Operation) (j : ℕ) → ¬ (j ≡ session_of op) → session_bytes j (rule W m x bs op).line ≡ session_bytes j bs
  unfolding rule
  rule-others op j h = unless-part x bs (session_bytes j) _ _ (perform-others op j h)

  -- an open changes the bytes of open sessions alone
  open_rest : drop 8 (rule W m x bs open_session).line ≡ drop 8 bs
  unfolding rule perform opening
  open_rest =
      unless-part x bs (drop 8) _ _
      (behind_opened (opening _ (read_line W bs)) ∙ sym (behind_opened (read_line W bs)) ∙ ap (drop 8) (write_read W bs hb hn))

  -- a close keeps the history
  close_history : (k : ℕ) → take 8 (drop 8 (rule W m x bs (close_session k)).line) ≡ take 8 (drop 8 bs)
  unfolding rule perform closing
  close_history k =
      unless-part x bs (λ (y : List ℕ). take 8 (drop 8 y)) _ _
      (history_part (closing k (read_line W bs)) ∙ sym (history_part (read_line W bs)) ∙ ap (λ (y : List ℕ). take 8 (drop 8 y)) (write_read W bs hb hn))

  -- an open changes no session's bytes
  by_open : (j : ℕ) → session_bytes j (rule W m x bs open_session).line ≡ session_bytes j bs
  unfolding rule perform opening
  by_open j = unless-part x bs (session_bytes j) _ _ (sessions_kept (opening _ (read_line W bs)) j refl)

-- A call changes no byte of a session other than the one that it names.
pub session_frame : (W : ℕ) → SessionFrames W
session_frame W m x bs hb hn =
    record {
      others = rule-others W m x bs hb hn;
      by_open = by_open W m x bs hb hn;
      open_rest = open_rest W m x bs hb hn;
      close_history = close_history W m x bs hb hn;
    }
