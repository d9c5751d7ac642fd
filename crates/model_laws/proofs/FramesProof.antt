-- What a call leaves alone of a ledger: all but its user's line, and all of it where the call is refused or a show.
-- Assumes nothing.
use mathlib.Core.Path.{◌≡◌, refl, sym, ap, ap₂, ◌∙◌}
use mathlib.Core.Logic.{◌⊎◌, inl, inr}
use mathlib.Core.Bool.{true, false, true≢false}
use mathlib.Core.Option.{Option, none, some}
use mathlib.Core.List.{List, [], ◌++◌}
use Prim.Native.Nat.{ℕ, ◌+◌, ◌*◌, ◌<◌}
use lib.ListN.{length, length-append}
use Rattle.model.specs.declared.Line.{Line}
use Rattle.model.specs.declared.Checked.{Checked}
use Rattle.model.specs.Bytes.{bytes_of}
use Rattle.model.specs.Judgement.{judge}
use Rattle.model.specs.Policy.{Policy, Meaning, policy_of, meaning}
use Rattle.model.specs.Line.{line_size, read_line}
use Rattle.model.specs.Limits.{Others}
use Rattle.model.specs.Obstacle.{Obstacle}
use Rattle.model.specs.Session.{Query, Operation, open_session, close_session, ask, short_ask, show, explain, obstacle, clauses, is_text, answer_size, refuse, done, given, tell, wrote, Result, asked, explained, obstructed, perform, rule}
use Rattle.model.specs.Run.{Call, line_at, with_line, told, ruled, step_by, step, show_by, explain_by, obstacle_by, clauses_by}
use Rattle.model.specs.Frames.{Frame, StepFrame, ShowKeeps, ExplainKeeps, ObstacleKeeps, ClausesKeep}
use Rattle.model_laws.proofs.LineLaws.{unless-case, unless-part, explained-line, obstructed-line, length-bytes_of}
use Rattle.model_laws.proofs.LedgerLaws.{patch_outside, apart, with_line-length, own_line, step_case, new_length}

-- ---- what the session rules answer

-- a refused call keeps the line and fills nothing; a done one fills nothing or the whole answer buffer, or a text of
-- the length that it tells
record Quiet (op : Operation) (bs : List ℕ) (r : Result) : Type 0 where
  line : ¬ (r.reply.number ≡ 0) → r.line ≡ bs
  filled : ¬ (r.reply.number ≡ 0) → r.reply.filled ≡ []
  room : is_text op ≡ false → (r.reply.filled ≡ []) ⊎ (length r.reply.filled ≡ answer_size op)
  text : is_text op ≡ true → (r.reply.filled ≡ []) ⊎ (length r.reply.filled ≡ r.reply.extra)

-- a call that is no clause text and fills 40 bytes
abbrev Plain : Operation → Type 0
Plain op = (is_text op ≡ false) × (answer_size op ≡ 40)

-- two numbers as bytes, one behind the other
two_lengths : (a b n k : ℕ) → length (bytes_of a n ++ bytes_of b k) ≡ a + b
two_lengths a b n k = length-append (bytes_of a n) (bytes_of b k) ∙ ap₂ ◌+◌ (length-bytes_of a n) (length-bytes_of b k)

-- the three sorts of answer: done, refused, done with roles and permissions
done-quiet : (op : Operation) (bs after : List ℕ) (x : ℕ) → Quiet op bs (record { reply = done x; line = after })
unfolding done
done-quiet op bs after x =
    record { line = λ h. absurd (h refl); filled = λ h. absurd (h refl); room = λ _. inl refl; text = λ _. inl refl }

refuse-quiet : (op : Operation) (bs : List ℕ) (n x : ℕ) → Quiet op bs (record { reply = refuse n x; line = bs })
unfolding refuse
refuse-quiet op bs n x = record { line = λ h. refl; filled = λ h. refl; room = λ _. inl refl; text = λ _. inl refl }

given-quiet : (op : Operation) → Plain op → (bs after : List ℕ) (roles permissions : ℕ)
    → Quiet op bs (record { reply = given roles permissions; line = after })
unfolding given
given-quiet op t bs after roles permissions =
    record {
      line = λ h. absurd (h refl);
      filled = λ h. absurd (h refl);
      text = λ e. absurd (true≢false (sym e ∙ t.0));
      room = λ _. inr (two_lengths 8 32 roles permissions ∙ sym t.1);
    }

-- an explain, which fills nothing
explained-quiet : (op : Operation) (bs : List ℕ) (o : Option ℕ) → Quiet op bs (explained bs o)
unfolding explained
explained-quiet op bs none = refuse-quiet op bs 20 0
explained-quiet op bs (some x) = done-quiet op bs bs x

-- an obstacle, which fills 16 bytes
obstructed-quiet : (k : ℕ) (lower upper : List ℕ) (room : ℕ) (bs : List ℕ) (o : Option Obstacle)
    → Quiet (obstacle k lower upper room) bs (obstructed bs o)
unfolding obstructed tell is_text answer_size
obstructed-quiet k lower upper room bs none = refuse-quiet (obstacle k lower upper room) bs 20 0
obstructed-quiet k lower upper room bs (some o) =
    record {
      line = λ h. refl;
      filled = λ h. absurd (h refl);
      text = λ e. absurd (true≢false (sym e));
      room = λ _. inr (two_lengths 8 8 o.first o.second);
    }

-- a clause text
wrote-quiet : (k : ℕ) (q : Query) (bs text : List ℕ) → Quiet (clauses k q) bs (record { reply = wrote text; line = bs })
unfolding wrote is_text
wrote-quiet k q bs text =
    record { line = λ h. refl; filled = λ h. absurd (h refl); room = λ e. absurd (true≢false e); text = λ _. inr refl }

pub explained-fills : (bs : List ℕ) (o : Option ℕ) → (explained bs o).reply.filled ≡ []
unfolding explained refuse done
explained-fills bs none = refl
explained-fills bs (some x) = refl

-- an ask, any call that nothing refuses, and any call
module _ (W : ℕ) (m : Meaning) (x : Others) (bs : List ℕ) where
  asked-quiet : (op : Operation) → Plain op → (l : Line) (k : ℕ) (o : Option ℕ) → Quiet op bs (asked m l bs k o)
  unfolding asked
  asked-quiet op t l k none = refuse-quiet op bs 20 0
  asked-quiet op t l k (some s) = given-quiet op t bs _ _ _

  perform-quiet : (l : Line) (op : Operation) → Quiet op bs (perform W m x l bs op)
  unfolding perform is_text answer_size
  perform-quiet l open_session = done-quiet open_session bs _ _
  perform-quiet l (close_session k) = done-quiet (close_session k) bs _ _
  perform-quiet l (ask k q) = asked-quiet (ask k q) (refl, refl) l k _
  perform-quiet l (short_ask k lower upper room) = asked-quiet (short_ask k lower upper room) (refl, refl) l k _
  perform-quiet l (show k room) = given-quiet (show k room) (refl, refl) bs _ _ _
  perform-quiet l (explain k n) = explained-quiet (explain k n) bs _
  perform-quiet l (obstacle k lower upper room) = obstructed-quiet k lower upper room bs _
  perform-quiet l (clauses k q) = wrote-quiet k q bs _

  rule-quiet : (op : Operation) → Quiet op bs (rule W m x bs op)
  unfolding rule
  rule-quiet op = unless-case (Quiet op bs) x _ bs _ (λ _. perform-quiet (read_line W bs) op) (λ f _. refuse-quiet op bs _ _)

-- ---- a call on a ledger

-- a call that the session rules do not see
refuse_frame : (z : ℕ) (c : Call) (l : List ℕ) (n x : ℕ) → Frame z c l (record { reply = refuse n x; ledger = l })
unfolding refuse
refuse_frame z c l n x =
    record {
      keeps_length = refl;
      outside = λ i h. refl;
      refused_ledger = λ h. refl;
      refused_filled = λ h. refl;
      filled = λ _. inl refl;
      text = λ _. inl refl;
    }

-- a user with a line, under an accepted policy, under a judged image
module _ (W : ℕ) (p : Policy) (l : List ℕ) (c : Call) where
  ruled_frame : length l ≡ line_size W * p.head.users → c.user < p.head.users → Frame (line_size W) c l (ruled W p l c)
  unfolding ruled
  ruled_frame hl hu =
      let z = line_size W in
      let u = c.user in
      let r = rule W (meaning p u) (told W p l c) (line_at z u l) c.operation in
      let q = rule-quiet W (meaning p u) (told W p l c) (line_at z u l) c.operation in
      let n = new_length W p l hl c hu in
      record {
        keeps_length = with_line-length z u p.head.users r.line l n hl hu;
        outside = λ i h. unfold with_line in patch_outside (z * u) z r.line l n (rw hl (apart z u p.head.users hu)) i 0 h;
        refused_ledger = λ h. ap (λ (x : List ℕ). with_line z u x l) (q.line h) ∙ own_line z u l;
        refused_filled = q.filled;
        filled = q.room;
        text = q.text;
      }

-- A call changes nothing outside its user's line, and nothing at all where it is refused.
pub step_frame : (W : ℕ) → StepFrame W
unfolding step
step_frame W image ledger c =
    let p = policy_of image in
    step_case (Frame (line_size W) c ledger) W p ledger c (refuse_frame (line_size W) c ledger) (ruled_frame W p ledger c) (judge image)

-- ---- a call that keeps the line keeps the ledger
module _ (W : ℕ) (p : Policy) (l : List ℕ) (c : Call)
    (keeps : (m : Meaning) (x : Others) (bs : List ℕ) → (rule W m x bs c.operation).line ≡ bs) where
  step_by_keeps : (v : Checked) → (step_by W v p l c).ledger ≡ l
  unfolding ruled
  step_by_keeps =
      step_case (λ e. e.ledger ≡ l) W p l c (λ n x. refl)
      (λ _ _. ap (λ (x : List ℕ). with_line (line_size W) c.user x l) (keeps _ _ _) ∙ own_line (line_size W) c.user l)

-- A show changes no byte of the ledger.
pub show_keeps : (W : ℕ) → ShowKeeps W
unfolding step rule perform show_by
show_keeps W image ledger u k room =
    step_by_keeps W (policy_of image) ledger (show_by u k room) (λ m x bs. unless-part x bs (λ (y : List ℕ). y) _ _ refl) (judge image)

-- Nor does an obstacle.
pub obstacle_keeps : (W : ℕ) → ObstacleKeeps W
unfolding step rule perform obstacle_by
obstacle_keeps W image ledger u k lower upper room =
    step_by_keeps W (policy_of image) ledger (obstacle_by u k lower upper room)
    (λ m x bs. unless-part x bs (λ (y : List ℕ). y) _ _ (obstructed-line bs _)) (judge image)

-- Nor does a clause text.
pub clauses_keep : (W : ℕ) → ClausesKeep W
unfolding step rule perform clauses_by
clauses_keep W image ledger u k lower upper a b room =
    step_by_keeps W (policy_of image) ledger (clauses_by u k lower upper a b room) (λ m x bs. unless-part x bs (λ (y : List ℕ). y) _ _ refl) (judge image)

-- An explain changes no byte of the ledger, and fills nothing.
module _ (W : ℕ) (p : Policy) (l : List ℕ) (u k n : ℕ) where
  explain_quiet : (m : Meaning) (x : Others) (bs : List ℕ) → (rule W m x bs (explain k n)).reply.filled ≡ []
  unfolding rule perform refuse
  explain_quiet m x bs = unless-case (λ r. r.reply.filled ≡ []) x _ bs _ (λ _. explained-fills bs _) (λ f _. refl)

  step_by-quiet : (v : Checked) → (step_by W v p l (explain_by u k n)).reply.filled ≡ []
  unfolding ruled refuse explain_by
  step_by-quiet = step_case (λ e. e.reply.filled ≡ []) W p l (explain_by u k n) (λ a b. refl) (λ _ _. explain_quiet _ _ _)

pub explain_keeps : (W : ℕ) (image ledger : List ℕ) (u k n : ℕ) → ExplainKeeps W image ledger u k n
unfolding step rule perform explain_by
explain_keeps W image ledger u k n =
    record {
      ledger_kept =
          step_by_keeps W (policy_of image) ledger (explain_by u k n) (λ m x bs. unless-part x bs (λ (y : List ℕ). y) _ _ (explained-line bs _)) (judge image);
      nothing_filled = step_by-quiet W (policy_of image) ledger u k n (judge image);
    }
