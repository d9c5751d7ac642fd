-- What a call answers is what the register says: the tests of the session rules decide its cases one by one, and what
-- is done is as written.
-- Assumes nothing.
use mathlib.Core.Path.{◌≡◌, refl, sym, ap, ap₂, ◌∙◌, subst}
use mathlib.Core.Logic.{◌⊎◌, inl, inr, ◌↔◌}
use mathlib.Core.Bool.{Bool, true, false, ◌&&◌, not, true≢false, and-false}
use mathlib.Core.Option.{Option, none, some, some-injective, none-ne-some}
use mathlib.Core.List.{List, [], ◌∷◌}
use Prim.Native.Nat.{ℕ, ◌+◌, ◌*◌, ◌^◌, ◌≤◌, ◌<◌, zero-le}
use native.Mathlib.Nat.{lt_of_lt_of_le}
use native.Mathlib.Decide.{dec_lt}
use native.Mathlib.Omega.{arith}
use lib.Dec.{eqb, ltb}
use lib.Pow.{pow_mono}
use lib.ListN.{length, drop}
use borrow.Author.Tests.{eqb-true, eqb-false, ltb-true, ltb-false, not-true, not-false}
use Rattle.model.specs.declared.Head.{Head}
use Rattle.model.specs.declared.Line.{Line}
use Rattle.model.specs.declared.Checked.{Checked}
use Rattle.model.specs.declared.Checked.TheVariants.{Accepted, Refused}
use Rattle.model.specs.Tests.{pick, first, or_else}
use Rattle.model.specs.Sets.{has, within, count}
use Rattle.model.specs.Bytes.{number}
use Rattle.model.specs.Judgement.{judge, judge_meaning}
use Rattle.model.specs.Policy.{Policy, policy_of, has_limits, Meaning, meaning, authorized}
use Rattle.model.specs.Ranges.{InRange}
use Rattle.model.specs.Chains.{Carries, Provides, Granting}
use Rattle.model.specs.Line.{line_size, read_line, write_line, session_at, is_open, sound, lowest_closed, opening, put_in}
use Rattle.model.specs.Limits.{Others, nobody, unbarred}
use Rattle.model.specs.Choice.{carried_by, admissible, choose}
use Rattle.model.specs.Dimacs.{text_of}
use Rattle.model.specs.Chosen.{Unbarred, ChosenIs, IsBestUnbarred}
use Rattle.model.specs.Explained.{Explains, ExplanationIs}
use Rattle.model.specs.Obstacle.{Obstacle, lacking, carriers_of, fitting, lacks, left, blocking, blocks, obstacle_of}
use Rattle.model.specs.Obstacles.{ObstacleIs}
use Rattle.model.specs.Session.{Query, Operation, open_session, close_session, ask, short_ask, show, explain, obstacle, clauses, short_aim, session_of, query_of, is_ask, Reply, refuse, done, given, tell, wrote, Result, Refusal, bad_other, bad_line, bad_session, is_closed, is_full, bad_set, bad_permission, bad_bounds, bad_aim, bad_room, no_set, not_below, not_carried, bad_pair, no_obstacle, too_long, refusal_number, refusal_extra, can_give, chosen, obstacle_for, text_for, is_none, explanation, other_first, applies, asked, explained, obstructed, perform, unless, rule}
use Rattle.model.specs.Run.{Call, Event, line_at, with_line, line_of, unsound_other, others_of, told, ruled, step_on, step_by, step}
use Rattle.model_laws.proofs.Bools.{bool_ext}
use Rattle.model_laws.proofs.AnyWidth.{same_sets, members_below_lem, within_iff}
use Rattle.model_laws.proofs.Choices.{within_below}
use Rattle.model_laws.proofs.Reaches.{authorized_below}
use Rattle.model_laws.proofs.Closure.{provided_is}
use Rattle.model_laws.proofs.LineLaws.{length-read_sessions}
use Rattle.model_laws.proofs.LedgerLaws.{own_line}
use Rattle.model_laws.proofs.SoundLaws.{sound-parts}
use Rattle.model_laws.proofs.CallLaws.{lowest_closed_lem, first_below}
use Rattle.model_laws.proofs.Judgements as J
use Rattle.model_laws.proofs.Theorems as T
use Rattle.model_limits.specs.Eleven as E
use Rattle.model_limits.proofs.ElevenProof.{Lowest, lowest-of, answer}
use Rattle.model_register.specs.Calls.{Case, case, refusal, Answers, WrongSize, TooHigh, NotWithin, WrongAim, short_query, unaimed, LowestUnsound, after, unchanged, shown, Unsound, own_line as unsound-own, some_line, line_case, Closed, AllOpen, Allowed, InTheWay, text, named, bounded, answering, naming, cases, Opens, Carried, Chooses, Shows, Tells, Names, Does, cases_for, Register, by_words, by_loop, by_reach, by_call, StepIs}
use Rattle.model_register.proofs.Decided.{Decides, always, not_decides, equal_decides, below_decides, not_below_decides, most_decides}
use Rattle.model_register.proofs.AnswerLaws.{One, NoneOf, one_event, zeros}
use Rattle.model_register.proofs.CaseLaws.{size_decides, high_bounds, within_decides, aim_decides, full_decides, open_before}
use Rattle.model_register.specs.Sound.{Sound}
use Rattle.model_register.proofs.FaultsProof.{register_is}
use Rattle.model_register.proofs.SoundProof.{sound_is}

module _ (W : ℕ) (s : List ℕ) (h : Head) (accepted : judge s ≡ Accepted h) (ledger : List ℕ) (u : ℕ) where
  abbrev p : Policy
  p = policy_of s

  abbrev m : Meaning
  m = meaning p u

  -- the user's line, as bytes and as a value
  abbrev bs : List ℕ
  bs = line_at (line_size W) u ledger

  abbrev l : Line
  l = line_of W ledger u

  range : InRange p
  range = J.accepted_in_range s h accepted

  own_low : authorized p u < 2 ^ 64
  own_low = lt_of_lt_of_le (authorized_below p range u) (pow_mono range.roles.1)

  sessions_of : (v : ℕ) → length (line_of W ledger v).sessions ≡ W
  unfolding line_of read_line
  sessions_of v = length-read_sessions W (drop 16 (line_at (line_size W) v ledger))

  -- what is tested of a line is that it is sound
  sound-line : (v : ℕ) → (sound W (meaning p v) (line_of W ledger v) ≡ true) ↔ Sound W p v (line_of W ledger v)
  sound-line v = sound_is s h accepted W v (line_of W ledger v) (sessions_of v)

  not_sound : (v : ℕ) → sound W (meaning p v) (line_of W ledger v) ≡ false → ¬ Sound W p v (line_of W ledger v)
  not_sound v e w = true≢false (sym ((sound-line v).1 w) ∙ e)

  -- what a set within the user's roles carries
  carries : (t : ℕ) → within t (authorized p u) ≡ true → Carried W p ledger u t (carried_by m t)
  unfolding carried_by meaning
  carries t w n = provided_is p range t n (within_below t (authorized p u) 64 own_low w)

  -- the event of a result
  abbrev event : Result → Event
  event r = record { reply = r.reply; ledger = with_line (line_size W) u r.line ledger }

  -- a result with the line as it was
  abbrev as_it_was : Reply → Result
  as_it_was r = record { reply = r; line = bs }

  kept : (r : Reply) → event (as_it_was r) ≡ unchanged W p ledger u r
  kept r = λ i. record { reply = r; ledger = own_line (line_size W) u ledger i }

  same_carried : (t a b : ℕ) → Carried W p ledger u t a → Carried W p ledger u t b → a ≡ b
  same_carried t a b c d = same_sets a b (λ n. bool_ext (has a n) (has b n) (λ e. (d n).1 ((c n).0 e)) (λ e. (c n).1 ((d n).0 e)))

  -- ---- the cases one by one, given what is told, the session, the query and what is done where none holds
  module _ (x : Others) (k : ℕ) (q : Query) (r : Result) (Done : Event → Type 0) where
    abbrev At : List Refusal → List Case → Type 0
    At fs cs = Answers ledger cs Done (event (unless x (first (applies W m x l k q) fs) bs r))

    refused : (f : Refusal) (n : ℕ) → refusal_number f ≡ n → refusal_extra x f ≡ 0 → event (unless x (some f) bs r) ≡ refusal ledger n 0
    unfolding unless refuse
    refused f n e z = kept (refuse (refusal_number f) (refusal_extra x f)) ∙ ap₂ (refusal ledger) e z

    -- a case whose test decides it
    case_step : (f : Refusal) (fs : List Refusal) (n : ℕ) (H : Type 0) (cs : List Case) → refusal_number f ≡ n → refusal_extra x f ≡ 0
        → Decides (applies W m x l k q f) H → (¬ H → At fs cs) → At (f ∷ fs) (case n H ∷ cs)
    unfolding first
    case_step f fs n H cs e z d rest = go (applies W m x l k q f) refl
      where
        go : (b : Bool) → applies W m x l k q f ≡ b
            → Answers ledger (case n H ∷ cs) Done (event (unless x (elim b [ true ↦ some f | false ↦ first (applies W m x l k q) fs ]) bs r))
        go true y = inl (0, (refl, d.0 y), refused f n e z)
        go false y = inr (λ i w. d.1 y w.1, rest (d.1 y))

    -- a test that fails, and stands for no case
    skip : (f : Refusal) (fs : List Refusal) (cs : List Case) → applies W m x l k q f ≡ false → At fs cs → At (f ∷ fs) cs
    unfolding first
    skip f fs cs e a =
        subst (λ (b : Bool). Answers ledger cs Done (event (unless x (elim b [ true ↦ some f | false ↦ first (applies W m x l k q) fs ]) bs r))) (sym e) a

    -- 12 and 13
    named_step : (fs : List Refusal) (cs : List Case) → (k < W → At fs cs) → At (bad_session ∷ is_closed ∷ fs) (named W p ledger u k cs)
    unfolding applies refusal_number refusal_extra is_open
    named_step fs cs rest =
        case_step bad_session (is_closed ∷ fs) 12 (W ≤ k) (case 13 (Closed W p ledger u k) ∷ cs) refl refl (most_decides W k)
        (λ a. case_step is_closed fs 13 (Closed W p ledger u k) cs refl refl
        (not-true (has l.opened k), λ e z. true≢false (sym (not-false (has l.opened k) e) ∙ z)) (λ b. rest (omega arith)))

    -- 15 to 17
    bounded_step : (fs : List Refusal) (cs : List Case) → (¬ TooHigh p.head.permissions q → At fs cs)
        → At (bad_set ∷ bad_permission ∷ bad_bounds ∷ fs) (bounded W p ledger u q cs)
    unfolding applies refusal_number refusal_extra meaning
    bounded_step fs cs rest =
        case_step bad_set (bad_permission ∷ bad_bounds ∷ fs) 15 (WrongSize q)
        (case 16 (TooHigh p.head.permissions q) ∷ case 17 (NotWithin q) ∷ cs) refl refl
        (size_decides q)
        (λ _. case_step bad_permission (bad_bounds ∷ fs) 16 (TooHigh p.head.permissions q) (case 17 (NotWithin q) ∷ cs) refl refl
        (high_bounds p.head.permissions q)
        (λ h. case_step bad_bounds fs 17 (NotWithin q) cs refl refl (within_decides q) (λ _. rest h)))

    -- 18
    aim_step : (fs : List Refusal) (cs : List Case) → At fs cs → At (bad_aim ∷ fs) (case 18 (WrongAim q) ∷ cs)
    unfolding applies refusal_number refusal_extra
    aim_step fs cs rest = case_step bad_aim fs 18 (WrongAim q) cs refl refl (aim_decides q) (λ _. rest)

    -- 19
    room-step : (fs : List Refusal) (cs : List Case) → At fs cs → At (bad_room ∷ fs) (case 19 (¬ (q.room ≡ 40)) ∷ cs)
    unfolding applies refusal_number refusal_extra
    room-step fs cs rest =
        case_step bad_room fs 19 (¬ (q.room ≡ 40)) cs refl refl (not_decides (eqb q.room 40) (equal_decides q.room 40)) (λ _. rest)

    -- 19 of an obstacle
    pair_step : (fs : List Refusal) (cs : List Case) → At fs cs → At (bad_pair ∷ fs) (case 19 (¬ (q.room ≡ 16)) ∷ cs)
    unfolding applies refusal_number refusal_extra
    pair_step fs cs rest =
        case_step bad_pair fs 19 (¬ (q.room ≡ 16)) cs refl refl (not_decides (eqb q.room 16) (equal_decides q.room 16)) (λ _. rest)

    -- 11, by the user's own line
    line_step : (asks : Bool) (fs : List Refusal) (cs : List Case) → (asks && has_limits p) ≡ false → (sound W m l ≡ true → At fs cs)
        → At (bad_line ∷ fs) (line_case W p ledger u asks ∷ cs)
    unfolding first applies refusal_number refusal_extra
    line_step asks fs cs a rest = go (sound W m l) refl
      where
        go : (b : Bool) → sound W m l ≡ b
            → Answers ledger (line_case W p ledger u asks ∷ cs) Done
            (event (unless x (elim (not b) [ true ↦ some bad_line | false ↦ first (applies W m x l k q) fs ]) bs r))
        go false e = inl (0, unsound-own a (not_sound u e) refl, refused bad_line 11 refl refl)
        go true e = inr (λ y w. never y w, rest e)
          where
            never : (y : ℕ) → ¬ Unsound W p ledger u asks y
            never y (unsound-own b f z) = f ((sound-line u).0 e)
            never y (some_line b v w z) = true≢false (sym b ∙ a)

    -- 11, by any line
    ask_step : u < p.head.users → (fs : List Refusal) (cs : List Case) → (has_limits p ≡ false → x.unsound ≡ none)
        → (((v : ℕ) → v < p.head.users → sound W (meaning p v) (line_of W ledger v) ≡ true) → x.unsound ≡ none)
        → (has_limits p ≡ true → (v : ℕ) → E.LowestUnsound W p ledger v
        → unless x (first (applies W m x l k q) (bad_other ∷ bad_line ∷ fs)) bs r ≡ as_it_was (refuse 11 (pick (eqb v u) 0 (v + 1))))
        → At fs cs → At (bad_other ∷ bad_line ∷ fs) (line_case W p ledger u true ∷ cs)
    unfolding refuse
    ask_step low fs cs unlimited all_sound eleven rest = go (has_limits p) refl
      where
        others-sound : x.unsound ≡ none → applies W m x l k q bad_other ≡ false
        others-sound e = unfold applies other_first in (ap (other_first (sound W m l) m.user) e)

        limited : has_limits p ≡ true → ((v : ℕ) → v < p.head.users → sound W (meaning p v) (line_of W ledger v) ≡ true)
            ⊎ Lowest (λ v. sound W (meaning p v) (line_of W ledger v)) p.head.users → At (bad_other ∷ bad_line ∷ fs) (line_case W p ledger u true ∷ cs)
        limited e (inl f) =
            inr (
              λ y w. never y w,
              skip bad_other (bad_line ∷ fs) cs (others-sound (all_sound f)) (skip bad_line fs cs (unfold applies in (ap not (f u low))) rest),
            )
          where
            never : (y : ℕ) → ¬ Unsound W p ledger u true y
            never y (unsound-own b g z) = true≢false (sym e ∙ b)
            never y (some_line b v w z) = w.unsound ((sound-line v).0 (f v w.below))
        limited e (inr w) =
            let v : E.LowestUnsound W p ledger w.at = record { below = w.below; unsound = w.fails; lowest = w.lowest } in
            let t : LowestUnsound W p ledger w.at = record {
              below = w.below;
              unsound = not_sound w.at w.fails;
              lowest = λ i b. (sound-line i).0 (w.lowest i b);
            } in
            let x = pick (eqb w.at u) 0 (w.at + 1) in
            inl (x, some_line e w.at t refl, ap event (eleven e w.at v) ∙ kept (refuse 11 x))

        go : (b : Bool) → has_limits p ≡ b → At (bad_other ∷ bad_line ∷ fs) (line_case W p ledger u true ∷ cs)
        go true e = limited e (lowest-of (λ v. sound W (meaning p v) (line_of W ledger v)) p.head.users)
        go false e = skip bad_other (bad_line ∷ fs) (line_case W p ledger u true ∷ cs) (others-sound (unlimited e)) (line_step true fs cs e (λ _. rest))

  -- ---- what an ask is told, and the set that it is answered with
  module _ (op : Operation) (a : is_ask op ≡ true) where
    -- what it is told
    abbrev x : Others
    x = told W p ledger (record { user = u; operation = op })

    -- what there is to tell
    abbrev y : Others
    y = others_of W p u ledger

    told_is : has_limits p ≡ true → x ≡ y
    unfolding told
    told_is e = rw (e, a, told)

    untold : has_limits p ≡ false → x ≡ nobody
    unfolding told
    untold e = rw (e, a, told)

    unlimited : has_limits p ≡ false → x.unsound ≡ none
    unfolding nobody
    unlimited e = ap (λ (o : Others). o.unsound) (untold e)

    all_sound : ((v : ℕ) → v < p.head.users → sound W (meaning p v) (line_of W ledger v) ≡ true) → x.unsound ≡ none
    unfolding others_of unsound_other
    all_sound f = go (has_limits p) refl
      where
        go : (b : Bool) → has_limits p ≡ b → x.unsound ≡ none
        go false e = unlimited e
        go true e =
            ap (λ (o : Others). o.unsound) (told_is e)
            ∙ first_below (unsound_other W p u ledger) p.head.users
            (λ v i. ap (λ (b : Bool). not (eqb v u) && not b) (f v i) ∙ and-false (not (eqb v u)))

    same_left : (k : ℕ) → unbarred m x l k ≡ unbarred m y l k
    same_left k = go (has_limits p) refl
      where
        go : (b : Bool) → has_limits p ≡ b → unbarred m x l k ≡ unbarred m y l k
        go true e = ap (λ (o : Others). unbarred m o l k) (told_is e)
        go false e = T.unlimited_choice s h accepted e u x l k ∙ sym (T.unlimited_choice s h accepted e u y l k)

    same_choice : (k : ℕ) (q : Query) → chosen m x l k q ≡ chosen m y l k q
    unfolding chosen
    same_choice k q =
        ap (λ (n : Meaning). choose n l k (number q.lower) (number q.upper) q.permission_aim q.role_aim) (same_left k)

    same_obstacle : (k : ℕ) (q : Query) → obstacle_for m x l k q ≡ obstacle_for m y l k q
    unfolding obstacle_for obstacle_of
    same_obstacle k q =
        let lower = number q.lower in
        let upper = number q.upper in
        ap (λ (n : Meaning). or_else (lacks 1 (carriers_of m (λ r. true)) (lacking m lower m.authorized))
        (or_else (lacks 2 (carriers_of m (has m.authorized)) (lacking m lower (fitting m upper)))
        (or_else (lacks 3 (carriers_of m (has (fitting m upper))) (lacking m lower (fitting n upper)))
        (blocks l k (blocking (left n l k lower upper) [] m.ordered))))) (same_left k)

    same_text : (k : ℕ) (q : Query) → text_for m x l k q ≡ text_for m y l k q
    unfolding text_for
    same_text k q =
        ap (λ (n : Meaning). text_of n l k (number q.lower) (number q.upper) q.permission_aim q.role_aim) (same_left k)

  module _ (k : ℕ) (q : Query) (inside : k < W) where
    abbrev z : Others
    z = others_of W p u ledger

    choice : ChosenIs m z l k q
    choice = T.chosen_is s h accepted u z l k q

    allowed_is : (t : ℕ) → ((admissible m l k (number q.lower) (number q.upper) t ≡ true) × Unbarred m z l k t) ↔ Allowed W p ledger u k q t
    allowed_is t =
        T.permitted_is s h accepted u l k (number q.lower) (number q.upper) t (subst (λ (n : ℕ). k < n) (sym (sessions_of u)) inside) z

    -- 20
    none_decides : (o : Option ℕ) → chosen m z l k q ≡ o → Decides (is_none o) ((t : ℕ) → ¬ Allowed W p ledger u k q t)
    unfolding is_none
    none_decides none e = always (λ t w. let v = (allowed_is t).1 w in choice.is-none.0 e t v.0 v.1)
    none_decides (some t) e =
        let b = (choice.is_best t).0 e in
        (λ f. absurd (true≢false (sym f)), λ f n. n t ((allowed_is t).0 (b.is_admissible, b.is_unbarred)))

    -- the set that is chosen is the best
    chooses : (o : Option ℕ) → chosen m z l k q ≡ o → (¬ ((t : ℕ) → ¬ Allowed W p ledger u k q t)) → Chooses W p ledger u k q (event (asked m l bs k o))
    unfolding asked given
    chooses none e n = absurd (n ((none_decides none e).0 (unfold is_none in refl)))
    chooses (some t) e n =
        let b = (choice.is_best t).0 e in
        let w = (allowed_is t).0 (b.is_admissible, b.is_unbarred) in
        record {
          set = t;
          permissions = carried_by m t;
          allowed = w;
          best = λ i v. let j = (allowed_is i).1 v in b.is_first i j.0 j.1;
          carries = carries t ((within_iff t (authorized p u)).1 (λ r f. (T.authorized_is s h accepted u r).1 (w.admitted.own r f)));
          event = refl;
        }

    -- there is one
    best_of_lem : (e : Event) (w : Chooses W p ledger u k q e) → IsBestUnbarred m z l k q w.set
    best_of_lem e w =
        let v = (allowed_is w.set).1 w.allowed in
        record { is_admissible = v.0; is_unbarred = v.1; is_first = λ t a b. w.best t ((allowed_is t).0 (a, b)) }

    one_choice : (e f : Event) → Chooses W p ledger u k q e → Chooses W p ledger u k q f → e ≡ f
    one_choice e f v w =
        let i = choice.is_unique v.set w.set (best_of_lem e v) (best_of_lem f w) in
        let c = subst (λ (t : ℕ). Carried W p ledger u t w.permissions) (sym i) w.carries in
        let j = same_carried v.set v.permissions w.permissions v.carries c in
        v.event ∙ (λ n. after W p ledger u (shown W p ledger u (i n) (j n)) (put_in k (i n) l)) ∙ sym w.event

  -- ---- what stands in the way
  module _ (k : ℕ) (q : Query) (inside : k < W) (low : ¬ TooHigh p.head.permissions q) where
    -- the lower bound has permissions of the policy alone
    lower_below : number q.lower < 2 ^ 256
    lower_below =
        members_below_lem 256 (number q.lower) (λ n e. elim (dec_lt n p.head.permissions) [
          | yes i ↦ lt_of_lt_of_le i range.permissions.1
          | no i ↦ absurd (low (record { permission = n; high = omega arith; member = inl e }))
        ])

    standing : ObstacleIs p u (others_of W p u ledger) l k (number q.lower) (number q.upper)
    standing =
        T.obstacle_is s h accepted u (others_of W p u ledger) l k (number q.lower) (number q.upper) lower_below
        (subst (λ (n : ℕ). k < n) (sym (sessions_of u)) inside)

    -- 20 of an obstacle
    clear_decides : (o : Option Obstacle) → obstacle_for m (others_of W p u ledger) l k q ≡ o
        → Decides (is_none o) ((b : Obstacle) → ¬ InTheWay W p ledger u k q b)
    unfolding is_none obstacle_for
    clear_decides none e = always (λ b w. none-ne-some b (sym e ∙ (standing.tells b).1 w))
    clear_decides (some b) e = (λ f. absurd (true≢false (sym f)), λ f n. n b ((standing.tells b).0 e))

    -- what is told stands in the way
    names : (o : Option Obstacle) → obstacle_for m (others_of W p u ledger) l k q ≡ o → (¬ ((b : Obstacle) → ¬ InTheWay W p ledger u k q b))
        → Names W p ledger u k q (event (obstructed bs o))
    unfolding obstructed tell obstacle_for
    names none e n = absurd (n ((clear_decides none e).0 (unfold is_none in refl)))
    names (some b) e n = record { found = b; stands = (standing.tells b).0 e; event = kept (tell b) }

    -- there is one
    one-named : (e f : Event) → Names W p ledger u k q e → Names W p ledger u k q f → e ≡ f
    unfolding tell
    one-named e f v w =
        let i = some-injective v.found w.found (sym ((standing.tells v.found).1 v.stands) ∙ (standing.tells w.found).1 w.stands) in
        v.event ∙ ap (λ (b : Obstacle). unchanged W p ledger u (tell b)) i ∙ sym w.event

  -- ---- each call

  -- 19 and 20 of an ask, and its answer
  answering_step : (op : Operation) (a : is_ask op ≡ true) (k : ℕ) (q : Query) → k < W
      → At (x op a) k q (asked m l bs k (chosen m (x op a) l k q)) (Chooses W p ledger u k q) (bad_room ∷ no_set ∷ []) (answering W p ledger u k q)
  unfolding applies refusal_number refusal_extra first unless
  answering_step op a k q inside =
      let o = x op a in
      let r = asked m l bs k (chosen m o l k q) in
      let e = same_choice op a k q in
      let None : Type 0 = (t : ℕ) → ¬ Allowed W p ledger u k q t in
      room-step o k q r (Chooses W p ledger u k q) (no_set ∷ []) (case 20 None ∷ [])
      (case_step o k q r (Chooses W p ledger u k q) no_set [] 20 None [] refl refl
      (subst (λ (c : Option ℕ). Decides (is_none c) None) (sym e) (none_decides k q inside (chosen m (y op a) l k q) refl))
      (λ n. subst (λ (c : Option ℕ). Chooses W p ledger u k q (event (asked m l bs k c))) (sym e) (chooses k q inside (chosen m (y op a) l k q) refl n)))

  -- 19 and 20 of an obstacle, and its answer
  naming_step : (op : Operation) (a : is_ask op ≡ true) (k : ℕ) (q : Query) → k < W → ¬ TooHigh p.head.permissions q
      → At (x op a) k q (obstructed bs (obstacle_for m (x op a) l k q)) (Names W p ledger u k q) (bad_pair ∷ no_obstacle ∷ []) (naming W p ledger u k q)
  unfolding applies refusal_number refusal_extra first unless
  naming_step op a k q inside low =
      let o = x op a in
      let r = obstructed bs (obstacle_for m o l k q) in
      let D = Names W p ledger u k q in
      let e = same_obstacle op a k q in
      let Clear : Type 0 = (b : Obstacle) → ¬ InTheWay W p ledger u k q b in
      pair_step o k q r D (no_obstacle ∷ []) (case 20 Clear ∷ [])
      (case_step o k q r D no_obstacle [] 20 Clear [] refl refl
      (subst (λ (c : Option Obstacle). Decides (is_none c) Clear) (sym e) (clear_decides k q inside low (obstacle_for m (y op a) l k q) refl))
      (λ n. subst (λ (c : Option Obstacle). D (event (obstructed bs c))) (sym e) (names k q inside low (obstacle_for m (y op a) l k q) refl n)))

  -- the active roles of a session of a sound line are the user's
  active_own : sound W m l ≡ true → (k : ℕ) → within (session_at l k).active (authorized p u) ≡ true
  unfolding session_at meaning
  active_own e k = ((sound-parts m l W e).each k).authorized

  opens : (¬ AllOpen W p ledger u)
      → Opens W p ledger u (event (record { reply = done (lowest_closed l 0 W); line = write_line (opening (lowest_closed l 0 W) l) }))
  unfolding done is_open
  opens n = go (eqb (count W l.opened) W) refl
    where
      go : (b : Bool) → eqb (count W l.opened) W ≡ b
          → Opens W p ledger u (event (record { reply = done (lowest_closed l 0 W); line = write_line (opening (lowest_closed l 0 W) l) }))
      go true e = absurd (n ((full_decides W l).0 e))
      go false e =
          let c = lowest_closed_lem W l e in
          record { session = lowest_closed l 0 W; below = c.0; closed = c.1; lowest = λ j i. open_before l 0 W j zero-le i; event = refl }

  shows : sound W m l ≡ true → (k : ℕ)
      → Shows W p ledger u k (event (as_it_was (given (session_at l k).active (carried_by m (session_at l k).active))))
  unfolding given
  shows e k =
      let t = (session_at l k).active in
      record { permissions = carried_by m t; carries = carries t (active_own e k); event = kept (given t (carried_by m t)) }

  module _ (e : sound W m l ≡ true) (k n : ℕ) where
    explaining : ExplanationIs p (session_at l k).active n
    explaining =
        T.explanation_is s h accepted (session_at l k).active n (within_below (session_at l k).active (authorized p u) 64 own_low (active_own e k))

    -- 20 of an explain
    unexplained : (o : Option ℕ) → explanation (m.granter n) (session_at l k).active ≡ o → Decides (is_none o) (¬ Provides p (session_at l k).active n)
    unfolding is_none meaning
    unexplained none f = always (explaining.none_there.0 f)
    unexplained (some t) f =
        let w = explaining.told t f in
        let g = w.5.granting in (
          λ i. absurd (true≢false (sym i)),
          λ i j. j (record { member = w.0; chosen = w.5.chosen; carries = record { giver = w.1; chain = g.chain; grant = g.grant } }),
        )

    tells : (o : Option ℕ) → explanation (m.granter n) (session_at l k).active ≡ o → (¬ (¬ Provides p (session_at l k).active n))
        → Tells W p ledger u k n (event (explained bs o))
    unfolding explained done meaning
    tells none f c = absurd (c (explaining.none_there.0 f))
    tells (some t) f c =
        let w = explaining.told t f in
        record {
          carrier = w.0;
          giver = w.1;
          explains = w.5;
          event = kept (done t) ∙ ap (λ (i : ℕ). unchanged W p ledger u (record { number = 0; extra = i; filled = [] })) w.4;
        }

  -- a call of a user with a line
  answers : u < p.head.users → (op : Operation)
      → Answers ledger (cases W p ledger u op) (Does W p ledger u op) (event (rule W m (told W p ledger (record { user = u; operation = op })) bs op))
  unfolding rule can_give session_of query_of perform line_of is_ask short_aim first unless applies refusal_number refusal_extra done wrote meaning
  answers low open_session =
      let o = told W p ledger (record { user = u; operation = open_session }) in
      let q = query_of open_session in
      let r = perform W m o l bs open_session in
      line_step o 0 q r (Opens W p ledger u) false (is_full ∷ []) (case 14 (AllOpen W p ledger u) ∷ []) refl
      (λ _. case_step o 0 q r (Opens W p ledger u) is_full [] 14 (AllOpen W p ledger u) [] refl refl (full_decides W l) opens)
  answers low (close_session k) =
      let o = told W p ledger (record { user = u; operation = close_session k }) in
      let q = query_of (close_session k) in
      let r = perform W m o l bs (close_session k) in
      let D = Does W p ledger u (close_session k) in
      line_step o k q r D false (bad_session ∷ is_closed ∷ []) (named W p ledger u k []) refl (λ _. named_step o k q r D [] [] (λ _. refl))
  answers low (ask k q) =
      let op = ask k q in
      let o = x op refl in
      let r = perform W m o l bs op in
      let D = Chooses W p ledger u k q in
      let end = answering W p ledger u k q in
      let fs = bad_room ∷ no_set ∷ [] in
      ask_step o k q r D low (bad_session ∷ is_closed ∷ bad_set ∷ bad_permission ∷ bad_bounds ∷ bad_aim ∷ fs)
      (named W p ledger u k (bounded W p ledger u q (case 18 (WrongAim q) ∷ end))) (unlimited op refl) (all_sound op refl)
      (λ e v w. answer W p ledger (record { user = u; operation = op }) e refl v w)
      (named_step o k q r D (bad_set ∷ bad_permission ∷ bad_bounds ∷ bad_aim ∷ fs) (bounded W p ledger u q (case 18 (WrongAim q) ∷ end))
      (λ i. bounded_step o k q r D (bad_aim ∷ fs) (case 18 (WrongAim q) ∷ end)
      (λ _. aim_step o k q r D fs end (answering_step op refl k q i))))
  answers low (short_ask k lower upper room) =
      let op = short_ask k lower upper room in
      let q = short_query lower upper room in
      let o = x op refl in
      let r = perform W m o l bs op in
      let D = Chooses W p ledger u k q in
      let end = answering W p ledger u k q in
      let fs = bad_room ∷ no_set ∷ [] in
      ask_step o k q r D low (bad_session ∷ is_closed ∷ bad_set ∷ bad_permission ∷ bad_bounds ∷ fs) (named W p ledger u k (bounded W p ledger u q end))
      (unlimited op refl) (all_sound op refl) (λ e v w. answer W p ledger (record { user = u; operation = op }) e refl v w)
      (named_step o k q r D (bad_set ∷ bad_permission ∷ bad_bounds ∷ fs) (bounded W p ledger u q end)
      (λ i. bounded_step o k q r D fs end (λ _. answering_step op refl k q i)))
  answers low (show k room) =
      let o = told W p ledger (record { user = u; operation = show k room }) in
      let q = query_of (show k room) in
      let r = perform W m o l bs (show k room) in
      let D = Shows W p ledger u k in
      line_step o k q r D false (bad_session ∷ is_closed ∷ bad_room ∷ []) (named W p ledger u k (case 19 (¬ (room ≡ 40)) ∷ [])) refl
      (λ e. named_step o k q r D (bad_room ∷ []) (case 19 (¬ (room ≡ 40)) ∷ []) (λ _. room-step o k q r D [] [] (shows e k)))
  answers low (explain k n) =
      let op = explain k n in
      let o = told W p ledger (record { user = u; operation = op }) in
      let q = query_of op in
      let r = perform W m o l bs op in
      let D = Tells W p ledger u k n in
      let None : Type 0 = ¬ Provides p (session_at l k).active n in
      let end = case 16 (p.head.permissions ≤ n) ∷ case 20 None ∷ [] in
      line_step o k q r D false (bad_session ∷ is_closed ∷ not_below n ∷ not_carried n ∷ []) (named W p ledger u k end) refl
      (λ e. named_step o k q r D (not_below n ∷ not_carried n ∷ []) end
      (λ _. case_step o k q r D (not_below n) (not_carried n ∷ []) 16 (p.head.permissions ≤ n) (case 20 None ∷ []) refl refl
      (not_below_decides n p.head.permissions)
      (λ _. case_step o k q r D (not_carried n) [] 20 None [] refl refl (unexplained e k n (explanation (m.granter n) (session_at l k).active) refl)
      (tells e k n (explanation (m.granter n) (session_at l k).active) refl))))
  answers low (obstacle k lower upper room) =
      let op = obstacle k lower upper room in
      let q = unaimed lower upper room in
      let o = x op refl in
      let r = perform W m o l bs op in
      let D = Names W p ledger u k q in
      let end = naming W p ledger u k q in
      let fs = bad_pair ∷ no_obstacle ∷ [] in
      ask_step o k q r D low (bad_session ∷ is_closed ∷ bad_set ∷ bad_permission ∷ bad_bounds ∷ fs) (named W p ledger u k (bounded W p ledger u q end))
      (unlimited op refl) (all_sound op refl) (λ e v w. answer W p ledger (record { user = u; operation = op }) e refl v w)
      (named_step o k q r D (bad_set ∷ bad_permission ∷ bad_bounds ∷ fs) (bounded W p ledger u q end)
      (λ i. bounded_step o k q r D fs end (naming_step op refl k q i)))
  answers low (clauses k q) =
      let op = clauses k q in
      let o = x op refl in
      let r = perform W m o l bs op in
      let D = Does W p ledger u (clauses k q) in
      let t = text W p ledger u k q in
      let e : text_for m o l k q ≡ t = same_text op refl k q in
      let end = case 18 (WrongAim q) ∷ case 19 (q.room < length t) ∷ [] in
      ask_step o k q r D low (bad_session ∷ is_closed ∷ bad_set ∷ bad_permission ∷ bad_bounds ∷ bad_aim ∷ too_long ∷ [])
      (named W p ledger u k (bounded W p ledger u q end)) (unlimited op refl) (all_sound op refl)
      (λ e v w. answer W p ledger (record { user = u; operation = op }) e refl v w)
      (named_step o k q r D (bad_set ∷ bad_permission ∷ bad_bounds ∷ bad_aim ∷ too_long ∷ []) (bounded W p ledger u q end)
      (λ _. bounded_step o k q r D (bad_aim ∷ too_long ∷ []) end
      (λ _. aim_step o k q r D (too_long ∷ []) (case 19 (q.room < length t) ∷ [])
      (case_step o k q r D too_long [] 19 (q.room < length t) [] refl refl
      (subst (λ (c : List ℕ). Decides (ltb q.room (length c)) (q.room < length t)) (sym e) (below_decides q.room (length t)))
      (λ _. kept (wrote (text_for m o l k q)) ∙ ap (λ (c : List ℕ). unchanged W p ledger u (record { number = 0; extra = length c; filled = c })) e)))))

  -- ---- there is one event that answers

  -- the lowest user with an unsound line is one
  one-lowest : (v w : ℕ) → LowestUnsound W p ledger v → LowestUnsound W p ledger w → v ≡ w
  one-lowest v w a b =
      elim (dec_lt v w) [
        | yes i ↦ absurd (a.unsound (b.lowest v i))
        | no i ↦ elim (dec_lt w v) [ yes j ↦ absurd (b.unsound (a.lowest w j)) | no j ↦ omega arith ]
      ]

  one_line : (asks : Bool) (a b : ℕ) → Unsound W p ledger u asks a → Unsound W p ledger u asks b → a ≡ b
  one_line asks a b (unsound-own c d e) (unsound-own f g i) = e ∙ sym i
  one_line asks a b (unsound-own c d e) (some_line f v w i) = absurd (true≢false (sym f ∙ c))
  one_line asks a b (some_line c v w e) (unsound-own f g i) = absurd (true≢false (sym c ∙ f))
  one_line asks a b (some_line c v w e) (some_line f t y i) = e ∙ ap (λ (n : ℕ). pick (eqb n u) 0 (n + 1)) (one-lowest v t w y) ∙ sym i

  -- the extras of each call's cases
  one_extra : (op : Operation) → One (cases W p ledger u op)
  one_extra open_session = (one_line false, (zeros, tt))
  one_extra (close_session k) = (one_line false, (zeros, (zeros, tt)))
  one_extra (ask k q) = (one_line true, (zeros, (zeros, (zeros, (zeros, (zeros, (zeros, (zeros, (zeros, tt)))))))))
  one_extra (short_ask k lower upper room) = (one_line true, (zeros, (zeros, (zeros, (zeros, (zeros, (zeros, (zeros, tt))))))))
  one_extra (show k room) = (one_line false, (zeros, (zeros, (zeros, tt))))
  one_extra (explain k n) = (one_line false, (zeros, (zeros, (zeros, (zeros, tt)))))
  one_extra (obstacle k lower upper room) = (one_line true, (zeros, (zeros, (zeros, (zeros, (zeros, (zeros, (zeros, tt))))))))
  one_extra (clauses k q) = (one_line true, (zeros, (zeros, (zeros, (zeros, (zeros, (zeros, (zeros, tt))))))))

  one_opened : (e f : Event) → Opens W p ledger u e → Opens W p ledger u f → e ≡ f
  one_opened e f v w =
      let i : v.session ≡ w.session =
      elim (dec_lt v.session w.session) [
        | yes i ↦ absurd (true≢false (sym (w.lowest v.session i) ∙ v.closed))
        | no i ↦ elim (dec_lt w.session v.session) [
          | yes j ↦ absurd (true≢false (sym (v.lowest w.session j) ∙ w.closed))
          | no j ↦ omega arith
        ]
      ] in
      v.event ∙ ap (λ (k : ℕ). after W p ledger u (record { number = 0; extra = k; filled = [] }) (opening k l)) i ∙ sym w.event

  one-shown : (k : ℕ) (e f : Event) → Shows W p ledger u k e → Shows W p ledger u k f → e ≡ f
  one-shown k e f v w =
      v.event
      ∙ ap (λ (n : ℕ). unchanged W p ledger u (shown W p ledger u (session_at l k).active n))
      (same_carried (session_at l k).active v.permissions w.permissions v.carries w.carries) ∙ sym w.event

  -- a granting role is one, and so is the lowest role that carries a permission
  one_giver : (r n g i : ℕ) → Granting p r n g → Granting p r n i → g ≡ i
  one_giver r n g i v w =
      elim (dec_lt g i) [
        | yes j ↦ absurd (w.lowest g j v.chain v.grant)
        | no j ↦ elim (dec_lt i g) [ yes k ↦ absurd (v.lowest i k w.chain w.grant) | no k ↦ omega arith ]
      ]

  carrying : (r n g : ℕ) → Granting p r n g → Carries p r n
  carrying r n g v = record { giver = g; chain = v.chain; grant = v.grant }

  one-carrier : (t n r g i j : ℕ) → Explains p t n r g → Explains p t n i j → r ≡ i
  one-carrier t n r g i j v w =
      elim (dec_lt r i) [
        | yes a ↦ absurd (w.lowest r a v.chosen (carrying r n g v.granting))
        | no a ↦ elim (dec_lt i r) [ yes b ↦ absurd (v.lowest i b w.chosen (carrying i n j w.granting)) | no b ↦ omega arith ]
      ]

  one_told : (k n : ℕ) (e f : Event) → Tells W p ledger u k n e → Tells W p ledger u k n f → e ≡ f
  one_told k n e f v w =
      let r = one-carrier (session_at l k).active n v.carrier v.giver w.carrier w.giver v.explains w.explains in
      let g = one_giver w.carrier n v.giver w.giver (subst (λ (i : ℕ). Granting p i n v.giver) r v.explains.granting) w.explains.granting in
      v.event ∙ (λ i. unchanged W p ledger u (record { number = 0; extra = 64 * r i + g i; filled = [] })) ∙ sym w.event

  within_w : (k : ℕ) → ((a : ℕ) → ¬ ((a ≡ 0) × (W ≤ k))) → k < W
  within_w k n = elim (dec_lt k W) [ yes i ↦ i | no i ↦ absurd (n 0 (refl, omega arith)) ]

  -- what is done is one event
  one-done : (op : Operation) (e f : Event) → NoneOf (cases W p ledger u op) → Does W p ledger u op e → Does W p ledger u op f → e ≡ f
  one-done open_session e f n v w = one_opened e f v w
  one-done (close_session k) e f n v w = v ∙ sym w
  one-done (ask k q) e f n v w = one_choice k q (within_w k n.1.0) e f v w
  one-done (short_ask k lower upper room) e f n v w = one_choice k (short_query lower upper room) (within_w k n.1.0) e f v w
  one-done (show k room) e f n v w = one-shown k e f v w
  one-done (explain k n) e f z v w = one_told k n e f v w
  one-done (obstacle k lower upper room) e f n v w =
      one-named k (unaimed lower upper room) (within_w k n.1.0) (λ h. n.1.1.1.1.0 0 (refl, h)) e f v w
  one-done (clauses k q) e f n v w = v ∙ sym w

-- ---- the whole
module _ (W : ℕ) (s : List ℕ) (h : Head) (accepted : judge s ≡ Accepted h) (ledger : List ℕ) (c : Call) where
  -- 9, 10, and those of the call
  call_answers : Answers ledger (cases_for W (policy_of s) ledger c) (Does W (policy_of s) ledger c.user c.operation) (step_on W (policy_of s) ledger c)
  unfolding step_on ruled refuse pick
  call_answers = go (eqb (length ledger) (line_size W * (policy_of s).head.users)) refl (ltb c.user (policy_of s).head.users) refl
    where
      go : (a : Bool) → eqb (length ledger) (line_size W * (policy_of s).head.users) ≡ a → (b : Bool) → ltb c.user (policy_of s).head.users ≡ b
          → Answers ledger (cases_for W (policy_of s) ledger c) (Does W (policy_of s) ledger c.user c.operation)
          (pick (not a) (record { reply = refuse 9 0; ledger = ledger })
          (pick (not b) (record { reply = refuse 10 0; ledger = ledger }) (ruled W (policy_of s) ledger c)))
      go false e b f = inl (0, (refl, eqb-false (length ledger) (line_size W * (policy_of s).head.users) e), refl)
      go true e false f =
          inr (
            λ x w. w.1 (eqb-true (length ledger) (line_size W * (policy_of s).head.users) e),
            inl (0, (refl, ltb-false c.user (policy_of s).head.users f), refl),
          )
      go true e true f =
          let l = ltb-true c.user (policy_of s).head.users f in
          inr (
            λ x w. w.1 (eqb-true (length ledger) (line_size W * (policy_of s).head.users) e),
            inr (λ x w. let i = w.1 in omega arith, answers W s h accepted ledger c.user l c.operation),
          )

  one_answer : (e f : Event) → Answers ledger (cases_for W (policy_of s) ledger c) (Does W (policy_of s) ledger c.user c.operation) e
      → Answers ledger (cases_for W (policy_of s) ledger c) (Does W (policy_of s) ledger c.user c.operation) f → e ≡ f
  one_answer e f a b =
      one_event ledger (cases_for W (policy_of s) ledger c) (Does W (policy_of s) ledger c.user c.operation) e f
      (zeros, (zeros, one_extra W s h accepted ledger c.user c.operation))
      (λ n. one-done W s h accepted ledger c.user c.operation e f n.1.1) a b

  step_is : step W s ledger c ≡ step_on W (policy_of s) ledger c
  unfolding step step_by
  step_is = ap (λ (v : Checked). step_by W v (policy_of s) ledger c) accepted

module _ (W : ℕ) (s ledger : List ℕ) (c : Call) where
  step-refused : (n x : ℕ) → judge s ≡ Refused n x → step W s ledger c ≡ refusal ledger n x
  unfolding step step_by refuse
  step-refused n x e = ap (λ (v : Checked). step_by W v (policy_of s) ledger c) e

  to : Register W s ledger c (step W s ledger c)
  to = go (J.verdict s)
    where
      go : J.Verdict s → Register W s ledger c (step W s ledger c)
      go (J.words n place k e t) = by_words n place (((register_is s).refused n place).0 e) (step-refused n place t)
      go (J.loops h r e w t) = by_loop h (((register_is s).accepted h).0 e) r w (step-refused 22 r t)
      go (J.reaches h v e n w t) = by_reach h (((register_is s).accepted h).0 e) n v w (step-refused 23 v t)
      go (J.passes h e n f t) =
          by_call h (((register_is s).accepted h).0 e) n f
          (subst (Answers ledger (cases_for W (policy_of s) ledger c) (Does W (policy_of s) ledger c.user c.operation)) (sym (step_is W s h t ledger c))
          (call_answers W s h t ledger c))

  back : (e : Event) → Register W s ledger c e → step W s ledger c ≡ e
  unfolding judge judge_meaning
  back e (by_words n k r q) = step-refused n k (ap (judge_meaning (policy_of s)) (((register_is s).refused n k).1 r)) ∙ sym q
  back e (by_loop h a r w q) = step-refused 22 r (((J.judge_is s).by_loop r).1 ((h, ((register_is s).accepted h).1 a), w)) ∙ sym q
  back e (by_reach h a n v w q) = step-refused 23 v (((J.judge_is s).by_reach v).1 ((h, ((register_is s).accepted h).1 a), n, w)) ∙ sym q
  back e (by_call h a n f b) =
      let t = ((J.judge_is s).accepted h).1 (((register_is s).accepted h).1 a, n, f) in
      step_is W s h t ledger c ∙ one_answer W s h t ledger c (step_on W (policy_of s) ledger c) e (call_answers W s h t ledger c) b

pub steps_are : (W : ℕ) → StepIs W
steps_are W image ledger c e = (λ q. subst (Register W image ledger c) q (to W image ledger c), back W image ledger c e)
