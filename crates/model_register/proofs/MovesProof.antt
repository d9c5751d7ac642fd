-- A move answers as the register says: the lines are looked at from user 0 on, and the first that cannot go decides.
-- Assumes nothing.
use mathlib.Core.Path.{◌≡◌, refl, sym, ap, ◌∙◌, subst}
use mathlib.Core.Logic.{inl, inr, ◌↔◌}
use mathlib.Core.Bool.{Bool, true, false, not, true≢false}
use mathlib.Core.List.{List, [], ◌∷◌}
use Prim.Native.Nat.{ℕ, zero, suc, ◌+◌, ◌*◌, ◌^◌, ◌<◌}
use native.Mathlib.Decide.{dec_lt}
use native.Mathlib.Omega.{arith}
use lib.Dec.{eqb, ltb}
use lib.ListN.{length, drop}
use borrow.Author.Tests.{eqb-true, eqb-false}
use Rattle.model.specs.declared.Head.{Head}
use Rattle.model.specs.declared.Checked.{Checked}
use Rattle.model.specs.declared.Checked.TheVariants.{Accepted, Refused}
use Rattle.model.specs.Tests.{pick}
use Rattle.model.specs.Judgement.{judge}
use Rattle.model.specs.Policy.{Policy, policy_of, meaning}
use Rattle.model.specs.Line.{line_size, read_line, sound}
use Rattle.model.specs.Session.{Reply, refuse, done}
use Rattle.model.specs.Run.{Event, line_at, line_of}
use Rattle.model.specs.Moves.{line_fault, move_answer, resized_lines, written_if, move_on, move_by, move}
use Rattle.model_laws.proofs.UnionLaws.{below_or_last}
use Rattle.model_laws.proofs.LineLaws.{length-read_sessions}
use Rattle.model_laws.proofs.Judgements.{judge_is, Verdict, words, loops, reaches, passes, verdict}
use Rattle.model_register.specs.Sound.{Sound}
use Rattle.model_register.specs.Calls.{refusal, Answers}
use Rattle.model_register.specs.Moves.{OpenBeyond, Goes, Reached, move_cases, Moves, MoveAnswers, by_words, by_loop, by_reach, by_move, MovesAre}
use Rattle.model_register.proofs.Decided.{Decides, decides_as}
use Rattle.model_register.proofs.AnswerLaws.{One, one_event, zeros}
use Rattle.model_register.proofs.CaseLaws.{high_decides}
use Rattle.model_register.proofs.FaultsProof.{register_is}
use Rattle.model_register.proofs.SoundProof.{sound_is}
use Rattle.model_register.proofs.AsCheckProof.{words_right, words_first, passes_is}

module _ (F W : ℕ) (s : List ℕ) (h : Head) (accepted : judge s ≡ Accepted h) (old : List ℕ) where
  abbrev p : Policy
  p = policy_of s

  sound-line : (v : ℕ) → (sound F (meaning p v) (line_of F old v) ≡ true) ↔ Sound F p v (line_of F old v)
  unfolding line_of read_line
  sound-line v = sound_is s h accepted F v (line_of F old v) (length-read_sessions F (drop 16 (line_at (line_size F) v old)))

  beyond : (v : ℕ) → Decides (not (ltb (line_of F old v).opened (2 ^ W))) (OpenBeyond F W p old v)
  beyond v =
      decides_as (not (ltb (line_of F old v).opened (2 ^ W))) (high_decides (line_of F old v).opened W)
      (λ (k, l, o). record { session = k; beyond = l; opened = o }) (λ w. (w.session, w.beyond, w.opened))

  -- ---- a line: it can go, or what keeps it
  data Line (v : ℕ) : Type 0 where
    goes : Goes F W p old v → line_fault F W (meaning p v) (line_at (line_size F) v old) ≡ 0 → Line v
    unsound : ¬ Sound F p v (line_of F old v) → line_fault F W (meaning p v) (line_at (line_size F) v old) ≡ 11 → Line v
    opens : Sound F p v (line_of F old v) → OpenBeyond F W p old v → line_fault F W (meaning p v) (line_at (line_size F) v old) ≡ 24 → Line v

  line : (v : ℕ) → Line v
  unfolding line_fault line_of pick
  line v = go (sound F (meaning p v) (line_of F old v)) refl (ltb (line_of F old v).opened (2 ^ W)) refl
    where
      go : (a : Bool) → sound F (meaning p v) (line_of F old v) ≡ a → (b : Bool) → ltb (line_of F old v).opened (2 ^ W) ≡ b → Line v
      go false e b f =
          unsound (λ w. true≢false (sym ((sound-line v).1 w) ∙ e))
          (λ i. pick (not (e i)) 11 (pick (not (ltb (line_of F old v).opened (2 ^ W))) 24 0))
      go true e false f = opens ((sound-line v).0 e) ((beyond v).0 (ap not f)) (λ i. pick (not (e i)) 11 (pick (not (f i)) 24 0))
      go true e true f =
          goes (record { sound = (sound-line v).0 e; closed = (beyond v).1 (ap not f) }) (λ i. pick (not (e i)) 11 (pick (not (f i)) 24 0))

  -- ---- the lines of the n users from u on
  data Way (u n : ℕ) : Type 0 where
    all_go : ((w : ℕ) → w < u + n → Goes F W p old w) → move_answer F W p old u n ≡ done 0 → Way u n
    by_11 : (v : ℕ) → v < u + n → ((w : ℕ) → w < v → Goes F W p old w) → ¬ Sound F p v (line_of F old v) → move_answer F W p old u n ≡ refuse 11 v
        → Way u n
    by_24 : (v : ℕ) → v < u + n → ((w : ℕ) → w < v → Goes F W p old w) → Sound F p v (line_of F old v) → OpenBeyond F W p old v
        → move_answer F W p old u n ≡ refuse 24 v → Way u n

  way : (n u : ℕ) → ((w : ℕ) → w < u → Goes F W p old w) → Way u n
  unfolding move_answer
  way zero u g = all_go (λ w l. g w (omega arith)) refl
  way (suc n) u g = go (line u) (way n (suc u))
    where
      by : ℕ → Reply
      by x = elim (eqb x 0) [ true ↦ move_answer F W p old (suc u) n | false ↦ refuse x u ]

      further : line_fault F W (meaning p u) (line_at (line_size F) u old) ≡ 0 → Way (suc u) n → Way u (suc n)
      further e (all_go f q) = all_go (λ w l. f w (omega arith)) (ap by e ∙ q)
      further e (by_11 v l f z q) = by_11 v (omega arith) f z (ap by e ∙ q)
      further e (by_24 v l f z o q) = by_24 v (omega arith) f z o (ap by e ∙ q)

      go : Line u → (((w : ℕ) → w < suc u → Goes F W p old w) → Way (suc u) n) → Way u (suc n)
      go (unsound z e) ih = by_11 u (omega arith) g z (ap by e)
      go (opens z o e) ih = by_24 u (omega arith) g z o (ap by e)
      go (goes z e) ih =
          further e (ih (λ w l. elim (below_or_last w u l) [ inl i ↦ g w i | inr i ↦ subst (Goes F W p old) (sym i) z ]))

  -- ---- the ledger
  module _ (new : List ℕ) where
    abbrev n : ℕ
    n = p.head.users

    abbrev written : Reply → Event
    written r = written_if r (resized_lines F W old 0 n) new

    by_lines : Way 0 n
        → Answers new (record { number = 11; holds = λ v. Reached F W p old v × ¬ Sound F p v (line_of F old v) }
        ∷ record { number = 24; holds = λ v. Reached F W p old v × Sound F p v (line_of F old v) × OpenBeyond F W p old v } ∷ [])
        (Moves F W p old) (written (move_answer F W p old 0 n))
    unfolding written_if pick refuse done
    by_lines (all_go g q) =
        inr (
          λ x w. w.1 (g x (omega (arith, w.0.below))).sound,
          inr (λ x w. (g x (omega (arith, w.0.below))).closed w.2, ap written q),
        )
    by_lines (by_11 v l g z q) = inl (v, (record { below = omega arith; before = g }, z), ap written q)
    by_lines (by_24 v l g z o q) =
        inr (
          λ x w. elim (dec_lt x v) [
            | yes i ↦ w.1 (g x i).sound
            | no i ↦ elim (dec_lt v x) [
              | yes j ↦ (w.0.before v j).closed o
              | no j ↦ let e : v ≡ x = omega arith in w.1 (subst (λ (k : ℕ). Sound F p k (line_of F old k)) e z)
            ]
          ],
          inl (v, (record { below = omega arith; before = g }, z, o), ap written q),
        )

    move_answers : Answers new (move_cases F W p old new) (Moves F W p old) (move_on F W p old new)
    unfolding move_on pick refuse
    move_answers = go (eqb (length old) (line_size F * n)) refl (eqb (length new) (line_size W * n)) refl
      where
        go : (a : Bool) → eqb (length old) (line_size F * n) ≡ a → (b : Bool) → eqb (length new) (line_size W * n) ≡ b
            → Answers new (move_cases F W p old new) (Moves F W p old)
            (pick (not a) (record { reply = refuse 9 0; ledger = new })
            (pick (not b) (record { reply = refuse 19 0; ledger = new }) (written (move_answer F W p old 0 n))))
        go false e b f = inl (0, (refl, eqb-false (length old) (line_size F * n) e), refl)
        go true e false f =
            inr (λ x w. w.1 (eqb-true (length old) (line_size F * n) e), inl (0, (refl, eqb-false (length new) (line_size W * n) f), refl))
        go true e true f =
            inr (
              λ x w. w.1 (eqb-true (length old) (line_size F * n) e),
              inr (λ x w. w.1 (eqb-true (length new) (line_size W * n) f), by_lines (way n 0 (λ w l. absurd (omega arith)))),
            )

    -- the first user whose line cannot go is one
    one-reached : (a b : ℕ) → Reached F W p old a → Reached F W p old b → ¬ Goes F W p old a → ¬ Goes F W p old b → a ≡ b
    one-reached a b v w x y =
        elim (dec_lt a b) [
          | yes i ↦ absurd (x (w.before a i))
          | no i ↦ elim (dec_lt b a) [ yes j ↦ absurd (y (v.before b j)) | no j ↦ omega arith ]
        ]

    one_extra : One (move_cases F W p old new)
    one_extra = (
      zeros,
      (
        zeros,
        (
          λ a b v w. one-reached a b v.0 w.0 (λ g. v.1 g.sound) (λ g. w.1 g.sound),
          (λ a b v w. one-reached a b v.0 w.0 (λ g. g.closed v.2) (λ g. g.closed w.2), tt),
        ),
      ),
    )

    move_is : move F W s old new ≡ move_on F W p old new
    unfolding move move_by
    move_is = ap (λ (v : Checked). move_by F W v p old new) accepted

    one_answer : (e : Event) → Answers new (move_cases F W p old new) (Moves F W p old) e → move_on F W p old new ≡ e
    one_answer e a = one_event new (move_cases F W p old new) (Moves F W p old) (move_on F W p old new) e one_extra (λ _ v w. v ∙ sym w) move_answers a

module _ (F W : ℕ) (s old new : List ℕ) where
  move-refused : (n x : ℕ) → judge s ≡ Refused n x → move F W s old new ≡ refusal new n x
  unfolding move move_by refuse
  move-refused n x e = ap (λ (v : Checked). move_by F W v (policy_of s) old new) e

  to : MoveAnswers F W s old new (move F W s old new)
  to = go (verdict s)
    where
      go : Verdict s → MoveAnswers F W s old new (move F W s old new)
      go (words n k i e t) = by_words n k (((register_is s).refused n k).0 e) (move-refused n k t)
      go (loops h r e w t) = by_loop ((words_right s).0 (h, e)) r w (move-refused 22 r t)
      go (reaches h v e n w t) = by_reach ((words_right s).0 (h, e)) n v w (move-refused 23 v t)
      go (passes h e n f t) =
          by_move ((passes_is s).1 (h, t))
          (subst (Answers new (move_cases F W (policy_of s) old new) (Moves F W (policy_of s) old)) (sym (move_is F W s h t old new))
          (move_answers F W s h t old new))

  back : (e : Event) → MoveAnswers F W s old new e → move F W s old new ≡ e
  back e (by_words n k r q) = move-refused n k (words_first s n k r) ∙ sym q
  back e (by_loop a r w q) = move-refused 22 r (((judge_is s).by_loop r).1 ((words_right s).1 a, w)) ∙ sym q
  back e (by_reach a n v w q) = move-refused 23 v (((judge_is s).by_reach v).1 ((words_right s).1 a, n, w)) ∙ sym q
  back e (by_move a b) = let (h, t) = (passes_is s).0 a in move_is F W s h t old new ∙ one_answer F W s h t old new e b

pub moves_are : (F W : ℕ) → MovesAre F W
moves_are F W image old new e = (λ q. subst (MoveAnswers F W image old new) q (to F W image old new), back F W image old new e)
