-- One call on a sound line: it leaves a sound line, its answer is not 11, and it takes no role over its limit.
-- Assumes nothing.
use mathlib.Core.Path.{◌≡◌, refl, sym, ap, ◌∙◌, subst}
use mathlib.Core.Logic.{◌⊎◌, inl, inr}
use mathlib.Core.Bool.{Bool, true, ◌&&◌, not, true≢false}
use mathlib.Core.Option.{Option, none, some}
use mathlib.Core.List.{List, [], ◌∷◌}
use Prim.Native.Nat.{ℕ, ◌+◌, ◌^◌, ◌≤◌, ◌<◌}
use native.Mathlib.Nat.{lt_of_lt_of_le, le_refl}
use native.Mathlib.Omega.{arith}
use lib.Dec.{ltb}
use lib.Pow.{pow_mono}
use lib.ListN.{length, get_or, length-set}
use lib.Seq.{get_or-set_same}
use borrow.Author.Tests.{lt-ltb, leb-false, not-false}
use borrow.Table.Steps.{cases}
use Rattle.model.specs.declared.Session.{Session}
use Rattle.model.specs.declared.Line.{Line}
use Rattle.model.specs.Tests.{all, first}
use Rattle.model.specs.Sets.{has, within, one}
use Rattle.model.specs.Bytes.{number}
use Rattle.model.specs.Policy.{limited, Meaning}
use Rattle.model.specs.Line.{read_line, write_line, empty_session, session_at, is_open, holding, others, exclusions_met, sound, lowest_closed, opening, closing, put_in}
use Rattle.model.specs.Limits.{Others}
use Rattle.model.specs.Choice.{carried_by, admissible}
use Rattle.model.specs.Obstacle.{Obstacle}
use Rattle.model.specs.Session.{Query, Operation, open_session, close_session, ask, short_ask, show, explain, obstacle, clauses, session_of, query_of, is_ask, puts_in, refuse, done, given, tell, wrote, Refusal, bad_other, bad_line, bad_session, is_closed, is_full, bad_set, bad_permission, bad_bounds, bad_aim, bad_room, no_set, not_below, not_carried, bad_pair, no_obstacle, too_long, refusal_number, can_give, chosen, obstacle_for, other_first, applies, explanation, asked, explained, obstructed, perform, rule}
use Rattle.model.specs.Frames.{fits_session, fits_line}
use Rattle.model.specs.Conditions.{Card}
use Rattle.model.specs.Kept.{Antitone, SoundBytes}
use Rattle.model_laws.proofs.Bools.{both, four, not_both}
use Rattle.model_laws.proofs.Every.{at_all}
use Rattle.model_laws.proofs.Choices.{within_below}
use Rattle.model_laws.proofs.UnionLaws.{has_none}
use Rattle.model_laws.proofs.Barred.{chosen_is, holding-set, holding_put, holding-others, card_is}
use Rattle.model_laws.proofs.LineLaws.{length-read_sessions, unless-case, explained-line, obstructed-line}
use Rattle.model_laws.proofs.RoundTrip.{read-write}
use Rattle.model_laws.proofs.SoundLaws.{SoundLine, sound-parts, parts-sound, opening-sound, closing-sound, putting_sound}
use Rattle.model_laws.proofs.CallLaws.{first-none, first_some, lowest_closed_lem}

-- ---- a sound line as bytes
module _ (W : ℕ) (m : Meaning) (wide : W ≤ 64) (small : m.roles ≤ 64) where
  -- every number of a sound line fits its eight bytes
  sound-fits : (l : Line) → SoundLine W m l → fits_line l ≡ true
  unfolding fits_line fits_session
  sound-fits l p =
      let top : l.history < 2 ^ 64 = lt_of_lt_of_le p.history (pow_mono small) in
      let o = ltb l.opened (2 ^ 64) in
      let h = ltb l.history (2 ^ 64) in
      both (o && h) (all fits_session l.sessions)
      (both o h (lt-ltb l.opened (2 ^ 64) (lt_of_lt_of_le p.opened (pow_mono wide))) (lt-ltb l.history (2 ^ 64) top))
      (at_all fits_session l.sessions empty_session
      (λ j i. let s = get_or l.sessions j empty_session in
      let q = within_below s.history l.history 64 top (p.each j).history in
      both (ltb s.active (2 ^ 64)) (ltb s.history (2 ^ 64))
      (lt-ltb s.active (2 ^ 64) (within_below s.active s.history 64 q (p.each j).active)) (lt-ltb s.history (2 ^ 64) q)))

  -- it is read back as it was written
  read_back : (l : Line) → length l.sessions ≡ W → SoundLine W m l → read_line W (write_line l) ≡ l
  read_back l n p = read-write W l n (sound-fits l p)

  written : (l : Line) → length l.sessions ≡ W → SoundLine W m l → SoundBytes W m (write_line l)
  written l n p = rw (read_back l n p) (parts-sound m l W p)

-- what a call does to the sessions that hold role r: they do not become more, or are, together with those of other
-- users, within its limit
abbrev pub NoMore : Line → ℕ → Line → Type 0
NoMore before r after = holding r after.sessions ≤ holding r before.sessions

abbrev pub Carded : Meaning → Others → ℕ → Line → Type 0
Carded m x r after = limited m.limits r ≡ true → x.held r + holding r after.sessions < get_or m.limits r 0

-- the second for an ask alone
abbrev pub RoleKept : Meaning → Others → Operation → Line → ℕ → Line → Type 0
RoleKept m x op before r after = NoMore before r after ⊎ ((is_ask op ≡ true) × Carded m x r after)

-- ---- one call on a sound line
module _ (W : ℕ) (m : Meaning) (wide : W ≤ 64) (small : m.roles ≤ 64) (own : m.authorized < 2 ^ m.roles) (anti : Antitone m)
    (x : Others) (bs : List ℕ) (safe : SoundBytes W m bs) where
  -- the line that the bytes are
  unfoldable pub line : Line
  line = read_line W bs

  -- its soundness in parts
  parts : SoundLine W m line
  unfolding line
  parts = sound-parts m (read_line W bs) W safe

  -- it has W sessions
  sessions_read : length line.sessions ≡ W
  unfolding line read_line
  sessions_read = length-read_sessions W _

  -- no refusal of the call applies
  abbrev Free : Operation → Type 0
  Free op = first (applies W m x line (session_of op) (query_of op)) (can_give op) ≡ none

  -- the session that the call names is there, and open
  abbrev There : ℕ → Type 0
  There k = (k < W) × (is_open line k ≡ true)

  -- where neither 12 nor 13 applies
  there : (k : ℕ) (q : Query) (fs : List Refusal) → first (applies W m x line k q) (bad_line ∷ bad_session ∷ is_closed ∷ fs) ≡ none → There k
  unfolding applies
  there k q fs e =
      let f = applies W m x line k q in
      let a = first-none f bad_session (is_closed ∷ fs) (first-none f bad_line (bad_session ∷ is_closed ∷ fs) e).1 in
      (leb-false W k a.0, not-false (is_open line k) (first-none f is_closed fs a.1).0)

  -- an open takes a closed session
  opened_line : Free open_session → SoundLine W m (opening (lowest_closed line 0 W) line)
  unfolding can_give session_of query_of applies
  opened_line e =
      let f = applies W m x line 0 (query_of open_session) in
      let c = lowest_closed_lem W line (first-none f is_full [] (first-none f bad_line (is_full ∷ []) e).1).0 in
      opening-sound W m line anti (lowest_closed line 0 W) parts c.0 c.1

  opened_sessions : (k : ℕ) → length (opening k line).sessions ≡ W
  unfolding opening
  opened_sessions k = sessions_read

  -- a close leaves an open session empty
  closed_line : (k : ℕ) → There k → SoundLine W m (closing k line)
  closed_line k t = closing-sound W m line anti k parts t.1

  closed_sessions : (k : ℕ) → length (closing k line).sessions ≡ W
  unfolding closing
  closed_sessions k = length-set line.sessions k empty_session ∙ sessions_read

  -- the set that answers a query is admissible
  put_line_lem : (k : ℕ) (q : Query) → There k → (s : ℕ) → chosen m x line k q ≡ some s → SoundLine W m (put_in k s line)
  unfolding admissible
  put_line_lem k q t s e =
      let lower = number q.lower in
      let upper = number q.upper in
      let b = (((chosen_is m x line k (lt_of_lt_of_le own (pow_mono small)) q).is_best s).0 e).is_admissible in
      let p = four (within s m.authorized) (within lower (carried_by m s)) (within (carried_by m s) upper) (exclusions_met m (put_in k s line)) b in
      putting_sound W m line k s own parts (rw sessions_read t.0) t.1 p.0 p.3

  put_sessions_lem : (k s : ℕ) → length (put_in k s line).sessions ≡ W
  unfolding put_in
  put_sessions_lem k s = length-set line.sessions k _ ∙ sessions_read

  asked_well : (k : ℕ) (q : Query) → There k → (o : Option ℕ) → chosen m x line k q ≡ o → SoundBytes W m (asked m line bs k o).line
  unfolding asked
  asked_well k q t none e = safe
  asked_well k q t (some s) e = written W m wide small (put_in k s line) (put_sessions_lem k s) (put_line_lem k q t s e)

  -- what each call does leaves a sound line
  performed_well : (op : Operation) → Free op → SoundBytes W m (perform W m x line bs op).line
  unfolding perform can_give session_of query_of
  performed_well open_session e = written W m wide small (opening (lowest_closed line 0 W) line) (opened_sessions _) (opened_line e)
  performed_well (close_session k) e =
      written W m wide small (closing k line) (closed_sessions k) (closed_line k (there k (query_of (close_session k)) [] e))
  performed_well (ask k q) e = asked_well k q (there k q _ (first-none _ bad_other _ e).1) (chosen m x line k q) refl
  performed_well (short_ask k lower upper room) e =
      let q = query_of (short_ask k lower upper room) in
      asked_well k q (there k q _ (first-none _ bad_other _ e).1) (chosen m x line k q) refl
  performed_well (show k room) e = safe
  performed_well (explain k n) e = subst (SoundBytes W m) (sym (explained-line bs _)) safe
  performed_well (obstacle k lower upper room) e = subst (SoundBytes W m) (sym (obstructed-line bs _)) safe
  performed_well (clauses k q) e = safe

  -- a call on a sound line leaves a sound line
  pub call_well : (op : Operation) → SoundBytes W m (rule W m x bs op).line
  unfolding rule line
  call_well op = unless-case (λ r. SoundBytes W m r.line) x _ bs _ (performed_well op) (λ f _. safe)

  -- ---- its answer is not 11, where it is told of no line that is not sound
  other_refusal : x.unsound ≡ none → (f : Refusal) (k : ℕ) (q : Query) → applies W m x line k q f ≡ true → ¬ (refusal_number f ≡ 11)
  unfolding applies refusal_number line other_first
  other_refusal quiet bad_other k q a e = absurd (true≢false (sym a ∙ ap (other_first (sound W m (read_line W bs)) m.user) quiet))
  other_refusal quiet bad_line k q a e = not_both (not (sound W m (read_line W bs))) a (ap not safe)
  other_refusal quiet bad_session k q a e = omega arith
  other_refusal quiet is_closed k q a e = omega arith
  other_refusal quiet is_full k q a e = omega arith
  other_refusal quiet bad_set k q a e = omega arith
  other_refusal quiet bad_permission k q a e = omega arith
  other_refusal quiet bad_bounds k q a e = omega arith
  other_refusal quiet bad_aim k q a e = omega arith
  other_refusal quiet bad_room k q a e = omega arith
  other_refusal quiet no_set k q a e = omega arith
  other_refusal quiet (not_below n) k q a e = omega arith
  other_refusal quiet (not_carried n) k q a e = omega arith
  other_refusal quiet bad_pair k q a e = omega arith
  other_refusal quiet no_obstacle k q a e = omega arith
  other_refusal quiet too_long k q a e = omega arith

  -- an ask gives 0 or 20
  asked_answer : (k : ℕ) (o : Option ℕ) → ¬ ((asked m line bs k o).reply.number ≡ 11)
  unfolding asked refuse given
  asked_answer k none e = omega arith
  asked_answer k (some s) e = omega arith

  -- and so does an explain
  explained_answer : (o : Option ℕ) → ¬ ((explained bs o).reply.number ≡ 11)
  unfolding explained refuse done
  explained_answer none e = omega arith
  explained_answer (some y) e = omega arith

  -- and an obstacle
  obstructed_answer : (o : Option Obstacle) → ¬ ((obstructed bs o).reply.number ≡ 11)
  unfolding obstructed refuse tell
  obstructed_answer none e = omega arith
  obstructed_answer (some y) e = omega arith

  -- the work done gives 0 or 20
  performed_answer : (op : Operation) → ¬ ((perform W m x line bs op).reply.number ≡ 11)
  unfolding perform done given wrote
  performed_answer open_session e = omega arith
  performed_answer (close_session k) e = omega arith
  performed_answer (ask k q) e = asked_answer k (chosen m x line k q) e
  performed_answer (short_ask k lower upper room) e = asked_answer k (chosen m x line k (query_of (short_ask k lower upper room))) e
  performed_answer (show k room) e = omega arith
  performed_answer (explain k n) e = explained_answer (explanation (m.granter n) (session_at line k).active) e
  performed_answer (obstacle k lower upper room) e = obstructed_answer (obstacle_for m x line k (query_of (obstacle k lower upper room))) e
  performed_answer (clauses k q) e = omega arith

  -- a call on a sound line does not answer 11
  pub call_answer : x.unsound ≡ none → (op : Operation) → ¬ ((rule W m x bs op).reply.number ≡ 11)
  unfolding rule line refuse
  call_answer quiet op =
      unless-case (λ r. ¬ (r.reply.number ≡ 11)) x _ bs _ (λ _. performed_answer op)
      (λ f e. other_refusal quiet f (session_of op) (query_of op) (first_some _ (can_give op) f e))

  -- ---- what it does to the sessions that hold role r

  -- a session k that exists
  in-line : (k : ℕ) → There k → k < length line.sessions
  in-line k t = rw sessions_read t.0

  -- a set without barred roles is put in
  put_card : (k : ℕ) (q : Query) → There k → (s : ℕ) → chosen m x line k q ≡ some s → Card m x line k s
  put_card k q t s e =
      (card_is m x line k s (in-line k t)).0 (((chosen_is m x line k (lt_of_lt_of_le own (pow_mono small)) q).is_best s).0 e).is_unbarred

  put_kept : (op : Operation) → is_ask op ≡ true → (k : ℕ) (q : Query) → There k → (s r : ℕ) → chosen m x line k q ≡ some s
      → RoleKept m x op line r (put_in k s line)
  put_kept op a k q t s r e =
      cases (has s r) (λ h. inr (a, λ i. put_card k q t s e r h i))
      (λ h. let a = holding_put r line k s (in-line k t) ∙ ap (λ (b : Bool). one b + holding r (others k line.sessions)) h in
      let c = holding-others r line.sessions k (in-line k t) in
      inl (omega arith))

  asked_kept : (op : Operation) → is_ask op ≡ true → (k : ℕ) (q : Query) (r : ℕ) → There k → (o : Option ℕ) → chosen m x line k q ≡ o
      → RoleKept m x op line r (read_line W (asked m line bs k o).line)
  unfolding asked line
  asked_kept op a k q r t none e = inl (le_refl (holding r line.sessions))
  asked_kept op a k q r t (some s) e =
      rw (read_back W m wide small (put_in k s line) (put_sessions_lem k s) (put_line_lem k q t s e)) (put_kept op a k q t s r e)

  -- a session is emptied
  closing_kept : (k r : ℕ) → There k → NoMore line r (closing k line)
  unfolding closing empty_session
  closing_kept k r t =
      let a = holding-set r line.sessions k empty_session (in-line k t) ∙ ap (λ (b : Bool). one b + holding r (others k line.sessions)) (has_none r) in
      let c = holding-others r line.sessions k (in-line k t) in
      omega arith

  pub performed_kept : (op : Operation) (r : ℕ) → Free op → RoleKept m x op line r (read_line W (perform W m x line bs op).line)
  unfolding perform can_give session_of query_of line is_ask
  performed_kept open_session r e =
      inl
      (subst (NoMore line r) (sym (read_back W m wide small (opening (lowest_closed line 0 W) line) (opened_sessions _) (opened_line e)))
      (unfold opening in (le_refl (holding r line.sessions))))
  performed_kept (close_session k) r e =
      let t = there k (query_of (close_session k)) [] e in
      inl (subst (NoMore line r) (sym (read_back W m wide small (closing k line) (closed_sessions k) (closed_line k t))) (closing_kept k r t))
  performed_kept (ask k q) r e = asked_kept (ask k q) refl k q r (there k q _ (first-none _ bad_other _ e).1) (chosen m x line k q) refl
  performed_kept (short_ask k lower upper room) r e =
      let q = query_of (short_ask k lower upper room) in
      asked_kept (short_ask k lower upper room) refl k q r (there k q _ (first-none _ bad_other _ e).1) (chosen m x line k q) refl
  performed_kept (show k room) r e = inl (le_refl (holding r line.sessions))
  performed_kept (explain k n) r e = inl (rw (explained-line bs _) (le_refl (holding r line.sessions)))
  performed_kept (obstacle k lower upper room) r e = inl (rw (obstructed-line bs _) (le_refl (holding r line.sessions)))
  performed_kept (clauses k q) r e = inl (le_refl (holding r line.sessions))

  -- the roles that an ask puts in are within their limits
  asked_card : (k : ℕ) (q : Query) (r : ℕ) → There k → (o : Option ℕ) → chosen m x line k q ≡ o → (asked m line bs k o).reply.number ≡ 0
      → has (session_at (read_line W (asked m line bs k o).line) k).active r ≡ true → Carded m x r (read_line W (asked m line bs k o).line)
  unfolding asked refuse
  asked_card k q r t none e z h = absurd (omega (arith, z))
  asked_card k q r t (some s) e z h =
      let b = read_back W m wide small (put_in k s line) (put_sessions_lem k s) (put_line_lem k q t s e) in
      subst (Carded m x r) (sym b)
      (put_card k q t s e r (sym (ap (λ (n : ℕ). has n r) (put_active k s t)) ∙ ap (λ (l : Line). has (session_at l k).active r) (sym b) ∙ h))
    where
      put_active : (k s : ℕ) → There k → (session_at (put_in k s line) k).active ≡ s
      put_active k s t = unfold put_in session_at in (ap (λ (a : Session). a.active) (get_or-set_same line.sessions k _ empty_session (in-line k t)))

  pub performed_card : (op : Operation) (r : ℕ) → puts_in op ≡ true → Free op → (perform W m x line bs op).reply.number ≡ 0
      → has (session_at (read_line W (perform W m x line bs op).line) (session_of op)).active r ≡ true
      → Carded m x r (read_line W (perform W m x line bs op).line)
  unfolding perform can_give session_of query_of puts_in
  performed_card open_session r a e z h = absurd (true≢false (sym a))
  performed_card (close_session k) r a e z h = absurd (true≢false (sym a))
  performed_card (ask k q) r a e z h = asked_card k q r (there k q _ (first-none _ bad_other _ e).1) (chosen m x line k q) refl z h
  performed_card (short_ask k lower upper room) r a e z h =
      let q = query_of (short_ask k lower upper room) in
      asked_card k q r (there k q _ (first-none _ bad_other _ e).1) (chosen m x line k q) refl z h
  performed_card (show k room) r a e z h = absurd (true≢false (sym a))
  performed_card (explain k p) r a e z h = absurd (true≢false (sym a))
  performed_card (obstacle k lower upper room) r a e z h = absurd (true≢false (sym a))
  performed_card (clauses k q) r a e z h = absurd (true≢false (sym a))
