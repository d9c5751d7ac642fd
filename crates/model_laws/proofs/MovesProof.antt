-- Moves between ledgers of F and of W sessions a user: what a done move makes, and that the move back undoes it.
-- Assumes nothing.
use mathlib.Core.Path.{◌≡◌, refl, sym, ap, ◌∙◌, subst}
use mathlib.Core.Bool.{true, false, not}
use mathlib.Core.List.{List}
use Prim.Native.Nat.{ℕ, zero, suc, ◌+◌, ◌*◌, ◌^◌, ◌≤◌, ◌<◌}
use native.Mathlib.Nat.{zero-add, mul-zero, lt_of_lt_of_le}
use native.Mathlib.Omega.{arith}
use lib.Dec.{eqb, ltb}
use lib.Pow.{pow_mono}
use lib.ListN.{length, get_or, take, drop, replicate, length-drop, length-replicate, get_or-replicate, get_or-eq_default}
use lib.Seq.{get_or-take, get_or-drop, length-take-le, ext_get_or}
use borrow.Author.Tests.{eqb-true, eq-eqb, ne_eqb, not-true, not-false, ltb-true, ltb-false}
use borrow.Table.Steps.{cases}
use Rattle.model.specs.declared.Head.{Head}
use Rattle.model.specs.declared.Checked.{Checked}
use Rattle.model.specs.declared.Checked.TheVariants.{Accepted, Refused}
use Rattle.model.specs.Tests.{pick}
use Rattle.model.specs.Judgement.{judge}
use Rattle.model.specs.Policy.{Policy, Meaning, policy_of, meaning}
use Rattle.model.specs.Line.{line_size, read_line, sound}
use Rattle.model.specs.Limits.{nobody}
use Rattle.model.specs.Session.{Operation, show, explain, is_ask, Reply, refuse, done, rule}
use Rattle.model.specs.Run.{Event, line_at, told, ruled, step_on, step_by, step, show_by, explain_by}
use Rattle.model.specs.Kept.{SoundLedger}
use Rattle.model.specs.Frames.{session_bytes}
use Rattle.model.specs.Moves.{resized, line_fault, move_answer, resized_lines, written_if, move_on, move_by, move, MoveIs}
use Rattle.model_laws.proofs.Bools.{pick-case, elim_case}
use Rattle.model_laws.proofs.MetLaws.{meaning_antitone}
use Rattle.model_laws.proofs.LineLaws.{length-read_sessions}
use Rattle.model_laws.proofs.LedgerLaws.{line_at-length}
use Rattle.model_laws.proofs.SoundLaws.{sound-parts}
use Rattle.model_laws.proofs.ImageNumbers.{Numbered}
use Rattle.model_laws.proofs.Judgements.{judge-numbered, accepted-head}
use Rattle.model_laws.proofs.Resizing.{Agreeing, read_agreeing, length-resized, byte_resized, same_resized, resized_back}
use Rattle.model_laws.proofs.Agreeing.{sound_same, cut_zero}
use Rattle.model_laws.proofs.AgreeingCalls.{show_same, explain_same}
use Rattle.model_laws.proofs.MoveLines.{Movable, length-lines, line-of, lines_back, answer_done, done_answer}

-- ---- one line that can go
module _ (F W : ℕ) (pos : 0 < F) (p : Policy) (u : ℕ) (bs : List ℕ) (n : length bs ≡ line_size F) (h : Movable F W (meaning p u) bs) where
  abbrev m : Meaning
  m = meaning p u

  -- what is cut off is zero
  cut : (i : ℕ) → line_size W ≤ i → get_or bs i 0 ≡ 0
  cut = cut_zero F W m bs n h.is_sound h.is_low

  -- it is read as a line that agrees with the old one
  pub line_agreeing : Agreeing (read_line F bs) (read_line W (resized W bs))
  line_agreeing = read_agreeing F W bs (resized W bs) n (length-resized W bs) (λ i. sym (same_resized W bs cut i))

  low : (read_line W (resized W bs)).opened < 2 ^ W
  low = rw line_agreeing.opened at h.is_low

  -- it is sound for W sessions
  pub line-sound : sound W m (read_line W (resized W bs)) ≡ true
  line-sound =
      sound_same m (meaning_antitone p u) (read_line F bs) (read_line W (resized W bs)) line_agreeing F W
      (unfold read_line in (rw (length-read_sessions F (drop 16 bs)) pos)) low h.is_sound

  -- and resizes back to the old one, which no session from F on of the new keeps from going
  pub line_back : resized F (resized W bs) ≡ bs
  line_back = resized_back F W bs n cut

  pub line_returns : Movable W F m (resized W bs)
  line_returns = record {
    is_sound = line-sound;
    is_low = rw line_agreeing.opened at (sound-parts m (read_line F bs) F h.is_sound).opened;
  }

-- ---- bytes that stay, in one line
module _ (F W : ℕ) (bs : List ℕ) (n : length bs ≡ line_size F) where
  -- a part of the new line that lies in it has the old bytes, 0 where there are none
  part-resized : (a z i : ℕ) → a + z ≤ line_size W → i < z → get_or (take z (drop a (resized W bs))) i 0 ≡ get_or bs (a + i) 0
  part-resized a z i h k = get_or-take z (drop a (resized W bs)) i 0 k ∙ get_or-drop a (resized W bs) i 0 ∙ byte_resized W bs (a + i) (omega arith)

  part_length : (a z : ℕ) (xs : List ℕ) (k : ℕ) → length xs ≡ k → a + z ≤ k → length (take z (drop a xs)) ≡ z
  part_length a z xs k e h = length-take-le z (drop a xs) (rw length-drop (omega arith))

  -- so it is the same part, where the old line has it too
  part_same : (a z : ℕ) → a + z ≤ line_size F → a + z ≤ line_size W → take z (drop a (resized W bs)) ≡ take z (drop a bs)
  part_same a z f w =
      let e = part_length a z (resized W bs) (line_size W) (length-resized W bs) w in
      ext_get_or 0 (take z (drop a (resized W bs))) (take z (drop a bs)) (e ∙ sym (part_length a z bs (line_size F) n f))
      (λ i h. part-resized a z i w (omega (arith, e)) ∙ sym (get_or-drop a bs i 0) ∙ sym (get_or-take z (drop a bs) i 0 (omega (arith, e))))

  -- and zero, where it has none of it
  part_new : (a z : ℕ) → line_size F ≤ a → a + z ≤ line_size W → take z (drop a (resized W bs)) ≡ replicate z 0
  part_new a z f w =
      let e = part_length a z (resized W bs) (line_size W) (length-resized W bs) w in
      ext_get_or 0 (take z (drop a (resized W bs))) (replicate z 0) (e ∙ sym (length-replicate z 0))
      (λ i h. part-resized a z i w (omega (arith, e)) ∙ get_or-eq_default bs 0 {n = a + i} (omega arith)
      ∙ sym (get_or-replicate z i 0 0 (omega (arith, e))))

  pub head_same : take 16 (resized W bs) ≡ take 16 bs
  unfolding line_size
  head_same = part_same 0 16 (unfold line_size in omega arith) (unfold line_size in omega arith)

  pub session-stays : (j : ℕ) → j < F → j < W → session_bytes j (resized W bs) ≡ session_bytes j bs
  unfolding session_bytes
  session-stays j f w = part_same (16 + 16 * j) 16 (unfold line_size in omega arith) (unfold line_size in omega arith)

  pub session_new : (j : ℕ) → F ≤ j → j < W → session_bytes j (resized W bs) ≡ replicate 16 0
  unfolding session_bytes
  session_new j f w = part_new (16 + 16 * j) 16 (unfold line_size in omega arith) (unfold line_size in omega arith)

-- ---- a ledger, under an accepted policy
module _ (F W : ℕ) (p : Policy) (old new : List ℕ) where
  -- what a done move shows
  pub record DoneMove (e : Event) : Type 0 where
    pub fits-old : length old ≡ line_size F * p.head.users
    pub fits-new : length new ≡ line_size W * p.head.users
    pub movable : (u : ℕ) → u < p.head.users → Movable F W (meaning p u) (line_at (line_size F) u old)
    pub ledger : e.ledger ≡ resized_lines F W old 0 p.head.users

  abbrev n : ℕ
  n = p.head.users

  -- the answer to the lines
  abbrev r : Reply
  r = move_answer F W p old 0 n

  abbrev lines : List ℕ
  lines = resized_lines F W old 0 n

  written-done : r.number ≡ 0 → (written_if r lines new).ledger ≡ lines
  unfolding written_if pick
  written-done e = rw e

  -- a fact about a move, from each of its three ways out
  moved_by : (P : Event → Type 0) → P (record { reply = refuse 9 0; ledger = new }) → P (record { reply = refuse 19 0; ledger = new })
      → (length old ≡ line_size F * n → length new ≡ line_size W * n → P (written_if r lines new)) → P (move_on F W p old new)
  unfolding move_on
  moved_by P a b c =
      pick-case P (not (eqb (length old) (line_size F * n))) _ _ (λ _. a)
      (λ e. pick-case P (not (eqb (length new) (line_size W * n))) _ _ (λ _. b)
      (λ f. c (eqb-true _ _ (not-false _ e)) (eqb-true _ _ (not-false _ f))))

  on_done : (move_on F W p old new).reply.number ≡ 0 → DoneMove (move_on F W p old new)
  on_done =
      moved_by (λ e. e.reply.number ≡ 0 → DoneMove e) (unfold refuse in (λ e. absurd (omega arith))) (unfold refuse in (λ e. absurd (omega arith)))
      (λ a b. unfold written_if in (λ e. record {
        fits-old = a;
        fits-new = b;
        movable = λ u h. rw (zero-add u) at (done_answer F W p old n 0 e u h);
        ledger = written-done e;
      }))

  on_refused : ¬ ((move_on F W p old new).reply.number ≡ 0) → (move_on F W p old new).ledger ≡ new
  on_refused =
      moved_by (λ e. ¬ (e.reply.number ≡ 0) → e.ledger ≡ new) (λ _. refl) (λ _. refl)
      (λ a b. unfold written_if pick in (λ h. rw (ne_eqb r.number 0 h)))

  on_length : length (move_on F W p old new).ledger ≡ length new
  on_length =
      moved_by (λ e. length e.ledger ≡ length new) refl refl
      (λ a b. unfold written_if in (pick-case (λ l. length l ≡ length new) (eqb r.number 0) lines new
      (λ _. length-lines F W old 0 n ∙ sym b) (λ _. refl)))

  -- ---- what a done move makes
  module _ (pos : 0 < F) (e : Event) (d : DoneMove e) where
    -- a user's line, before and after
    before : (u : ℕ) → u < n → length (line_at (line_size F) u old) ≡ line_size F
    before u h = line_at-length (line_size F) u n old d.fits-old h

    after : (u : ℕ) → u < n → line_at (line_size W) u e.ledger ≡ resized W (line_at (line_size F) u old)
    after u h =
        ap (line_at (line_size W) u) d.ledger ∙ line-of F W old 0 n u h ∙ ap (λ (x : ℕ). resized W (line_at (line_size F) x old)) (zero-add u)

    fits_after : length e.ledger ≡ line_size W * n
    fits_after = ap length d.ledger ∙ length-lines F W old 0 n

    on_sound : SoundLedger W p e.ledger
    on_sound =
        record {
          fits = fits_after;
          lines = λ u h. rw (after u h) (line-sound F W pos p u (line_at (line_size F) u old) (before u h) (d.movable u h));
        }

    -- the move back
    back_lines : resized_lines W F e.ledger 0 n ≡ old
    back_lines =
        lines_back W F e.ledger old n 0 (d.fits-old ∙ ap (λ (x : ℕ). line_size F * x) (sym (zero-add n)))
        (λ k h. let i : k < n = omega (arith, zero-add n) in
        ap (resized F) (after k i) ∙ line_back F W pos p k (line_at (line_size F) k old) (before k i) (d.movable k i))
        ∙ ap (λ (x : ℕ). drop x old) (mul-zero (line_size F))

    back_answer : move_answer W F p e.ledger 0 n ≡ done 0
    back_answer =
        answer_done W F p e.ledger n 0
        (λ k h. let i : k < n = omega (arith, zero-add n) in
        subst (Movable W F (meaning p k)) (sym (after k i))
        (line_returns F W pos p k (line_at (line_size F) k old) (before k i) (d.movable k i)))

    on_back : (room : List ℕ) → length room ≡ length old → move_on W F p e.ledger room ≡ record { reply = done 0; ledger = old }
    unfolding move_on pick written_if done
    on_back room h =
        rw (eq-eqb (length e.ledger) (line_size W * n) fits_after, eq-eqb (length room) (line_size F * n) (h ∙ d.fits-old), back_answer, back_lines)

    -- a call that only reads session j, before and after
    abbrev SameReply : ℕ → Operation → Type 0
    SameReply u op =
        (rule W (meaning p u) nobody (line_at (line_size W) u e.ledger) op).reply ≡ (rule F (meaning p u) nobody (line_at (line_size F) u old) op).reply

    on_reads : (u : ℕ) (op : Operation) → is_ask op ≡ false → (u < n → SameReply u op)
        → (step_on W p e.ledger (record { user = u; operation = op })).reply ≡ (step_on F p old (record { user = u; operation = op })).reply
    unfolding step_on ruled told pick
    on_reads u op r h =
        rw (eq-eqb (length e.ledger) (line_size W * n) fits_after, eq-eqb (length old) (line_size F * n) d.fits-old)
        (cases (ltb u n) (λ q. rw (q, r, told) (h (ltb-true u n q))) (λ q. rw q))

    module _ (u j : ℕ) (f : j < F) (w : j < W) where
      abbrev bs : List ℕ
      bs = line_at (line_size F) u old

      -- what holds of the line that agrees with the old one holds of the line after
      on_line : (op : Operation) → (u < n → (rule W (meaning p u) nobody (resized W bs) op).reply ≡ (rule F (meaning p u) nobody bs op).reply)
          → u < n → SameReply u op
      on_line op k h = ap (λ (x : List ℕ). (rule W (meaning p u) nobody x op).reply) (after u h) ∙ k h

      on_shows : (room : ℕ) → (step_on W p e.ledger (show_by u j room)).reply ≡ (step_on F p old (show_by u j room)).reply
      unfolding show_by
      on_shows room =
          on_reads u (show j room) (unfold is_ask in refl)
          (on_line (show j room) (λ h. show_same F W (meaning p u) bs (resized W bs) (d.movable u h).is_sound
          (line-sound F W pos p u bs (before u h) (d.movable u h)) (line_agreeing F W pos p u bs (before u h) (d.movable u h)) j f w room))

      on_explains : (x : ℕ) → (step_on W p e.ledger (explain_by u j x)).reply ≡ (step_on F p old (explain_by u j x)).reply
      unfolding explain_by
      on_explains x =
          on_reads u (explain j x) (unfold is_ask in refl)
          (on_line (explain j x) (λ h. explain_same F W (meaning p u) bs (resized W bs) (d.movable u h).is_sound
          (line-sound F W pos p u bs (before u h) (d.movable u h)) (line_agreeing F W pos p u bs (before u h) (d.movable u h)) j f w x))

  -- ---- a move to more sessions
  module _ (more : F ≤ W) where
    fault_24 : (m : Meaning) (bs : List ℕ) → ¬ (line_fault F W m bs ≡ 24)
    unfolding line_fault pick
    fault_24 m bs =
        pick-case (λ x. ¬ (x ≡ 24)) (not (sound F m (read_line F bs))) 11 _ (λ _ e. omega arith)
        (λ p. pick-case (λ x. ¬ (x ≡ 24)) (not (ltb (read_line F bs).opened (2 ^ W))) 24 0
        (λ q _. let w = lt_of_lt_of_le (sound-parts m (read_line F bs) F (not-false _ p)).opened (pow_mono more) in
        omega (arith, ltb-false (read_line F bs).opened (2 ^ W) (not-true _ q))) (λ _ e. omega arith))

    answer_24 : (k u : ℕ) → ¬ ((move_answer F W p old u k).number ≡ 24)
    unfolding move_answer done refuse
    answer_24 zero u = λ e. omega arith
    answer_24 (suc k) u =
        let x = line_fault F W (meaning p u) (line_at (line_size F) u old) in
        elim_case (λ (a : Reply). ¬ (a.number ≡ 24)) (eqb x 0) (move_answer F W p old (suc u) k) (refuse x u) (λ _. answer_24 k (suc u))
        (λ _. fault_24 (meaning p u) (line_at (line_size F) u old))

    on_24 : ¬ ((move_on F W p old new).reply.number ≡ 24)
    unfolding written_if refuse
    on_24 = moved_by (λ e. ¬ (e.reply.number ≡ 24)) (λ e. omega arith) (λ e. omega arith) (λ a b. answer_24 n 0)

-- ---- a move, by the judgement of the image
pub moves : (F W : ℕ) → 0 < F → (image old new : List ℕ) → MoveIs F W image old new (move F W image old new)
unfolding move move_by step step_by
moves F W pos image old new = go (judge image) refl (judge-numbered image)
  where
    p : Policy
    p = policy_of image

    go : (v : Checked) → judge image ≡ v → Numbered 23 v → MoveIs F W image old new (move_by F W v p old new)
    go (Refused x place) q i =
        unfold refuse in
        (record {
          keeps_length = refl;
          refused = λ _. refl;
          moved = λ e. absurd (omega arith);
          never_24 = λ _ e. omega arith;
        })
    go (Accepted h) q i =
        let t = move_on F W p old new in
        record {
          keeps_length = on_length F W p old new;
          refused = on_refused F W p old new;
          moved = λ e. let d = on_done F W p old new e in
              record {
                sound_ledger = on_sound F W p old new pos t d;
                heads = λ u k. ap (take 16) (after F W p old new pos t d u k) ∙ head_same F W _ (before F W p old new pos t d u k);
                sessions = λ u j k f w. ap (session_bytes j) (after F W p old new pos t d u k)
                    ∙ session-stays F W _ (before F W p old new pos t d u k) j f w;
                new_sessions = λ u j k f w. ap (session_bytes j) (after F W p old new pos t d u k)
                    ∙ session_new F W _ (before F W p old new pos t d u k) j f w;
                shows = λ u j room f w. rw q (on_shows F W p old new pos t d u j f w room);
                explains = λ u j x f w. rw q (on_explains F W p old new pos t d u j f w x);
                starts = λ calls. record {
                  start = record {
                    image = image;
                    head = h;
                    accepted = q;
                    ledger = t.ledger;
                    fits = fits_after F W p old new pos t d ∙ ap (λ (g : Head). line_size W * g.users) (accepted-head image h q);
                    calls = calls;
                  };
                  under = refl;
                  on = refl;
                  by = refl;
                };
                back = λ room k. rw q (on_back F W p old new pos t d room k);
              };
          never_24 = λ more. on_24 F W p old new more;
        }
