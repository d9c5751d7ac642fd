-- The listed images are accepted, refused and answered as listed, by computation; what moves are none follows from the
-- theorem.
-- Assumes nothing.
use mathlib.Core.Path.{◌≡◌, refl, sym, ap, ◌∙◌}
use mathlib.Core.Bool.{Bool, true, false, true≢false}
use mathlib.Core.List.{List, [], ◌∷◌, ◌++◌}
use Prim.Native.Nat.{ℕ, suc}
use native.Mathlib.Omega.{arith}
use Rattle.model.specs.declared.Checked.{Checked}
use Rattle.model.specs.declared.Checked.TheVariants.{Accepted, Refused}
use Rattle.model.specs.Words.{image_bytes}
use Rattle.model.specs.OwnWords.{words_from}
use Rattle.model.specs.Judgement.{judge}
use Rattle.model.specs.Line.{SESSIONS}
use Rattle.model.specs.Session.{is_text}
use Rattle.model.specs.Run.{Event, short_ask_by}
use Rattle.model.specs.Tests.{same_list}
use Rattle.model_cases.specs.Ward.{active_role}
use Rattle.model_tidy.specs.Groups.{words_behind, Group, spread, due_behind, Parted}
use Rattle.model_tidy.specs.Same.{asks_text}
use Rattle.model_tidy.specs.Order.{Rearranged, none_moved, one_kept, two_swapped, moved_twice, SameGroup, Reordered}
use Rattle.model_tidy.specs.OrderCases.{plain, turned, crossed, strayed, headless, unbalanced, asks_both, texts_both, reply_to, head_of_plain, OrderCases}
use Rattle.model_tidy.specs.Tidy.{single}
use Rattle.model_cases.proofs.Computing.{listing}
use Rattle.model_tidy_laws.proofs.Permutations.{permuted_same}
use Rattle.model_tidy_laws.proofs.OrderProof.{order_free}

-- ---- the entries moved about

-- the exclusions, each with its members in the order given
abbrev first : ℕ → ℕ → Group
first m n = record { word = 0x54102000; members = m ∷ n ∷ [] }

abbrev second : ℕ → ℕ → Group
second m n = record { word = 0x50102000; members = m ∷ n ∷ [] }

-- the groups in front of the exclusions
abbrev front : List Group → List Group
front gs =
    single 0x20000000 ∷ single 0x20010000 ∷ single 0x20020000 ∷ single 0x20030000 ∷ single 0x30000000 ∷ single 0x30804000 ∷ gs

parts : Parted (image_bytes plain)
unfolding listing words_from words_behind spread plain
parts =
    record {
      groups = front (first 0x60000000 0x60400000 ∷ second 0x60800000 0x60C00000 ∷ single 0x70004000 ∷ single 0x70006000 ∷ []);
      last = 0xF9B7DFC0;
      words = refl;
    }

parts-turned : Parted (image_bytes turned)
unfolding listing words_from words_behind spread turned
parts-turned =
    record {
      groups = single 0x70006000 ∷ front (second 0x60C00000 0x60800000 ∷ first 0x60400000 0x60000000 ∷ single 0x70004000 ∷ []);
      last = 0xF9B7DFC0;
      words = refl;
    }

same_group : (g : Group) → SameGroup g g
same_group g = record { word = refl; members = permuted_same ℕ g.members }

turned_round : (w m n : ℕ) → SameGroup (record { word = w; members = m ∷ n ∷ [] }) (record { word = w; members = n ∷ m ∷ [] })
turned_round w m n = record { word = refl; members = two_swapped }

last_first : (g : Group) (gs : List Group) → Rearranged Group SameGroup (gs ++ (g ∷ [])) (g ∷ gs)
last_first g [] = one_kept (same_group g) none_moved
last_first g (k ∷ gs) = moved_twice (one_kept (same_group k) (last_first g gs)) two_swapped

kept : (g : Group) {gs ks : List Group} → Rearranged Group SameGroup gs ks → Rearranged Group SameGroup (g ∷ gs) (g ∷ ks)
kept g m = one_kept (same_group g) m

moved : Reordered (image_bytes plain) (image_bytes turned)
unfolding listing due_behind plain turned parts parts-turned
moved =
    record {
      size = refl;
      head = refl;
      from = parts;
      to = parts-turned;
      whole = (refl, (refl, (refl, (refl, (refl, (refl, (refl, (refl, (refl, (refl, tt))))))))));
      moved =
          moved_twice
          (last_first (single 0x70006000) (front (first 0x60000000 0x60400000 ∷ second 0x60800000 0x60C00000 ∷ single 0x70004000 ∷ [])))
          (kept _ (kept _ (kept _ (kept _ (kept _ (kept _ (kept _ (moved_twice two_swapped
          (one_kept (turned_round 0x50102000 0x60800000 0x60C00000) (one_kept (turned_round 0x54102000 0x60000000 0x60400000) (kept _ none_moved)))))))))));
      last = refl;
    }

-- ---- moves that are none of these

plain_accepted : judge (image_bytes plain) ≡ Accepted head_of_plain
unfolding listing plain head_of_plain
plain_accepted = refl

passes : Checked → Bool
passes (Accepted h) = true
passes (Refused n place) = false

-- no refused image is plain with its entries moved about
none_refused : (t : List ℕ) (n place : ℕ) → judge t ≡ Refused n place → ¬ Reordered (image_bytes plain) t
unfolding passes
none_refused t n place e order = true≢false (ap passes (sym (order_free (image_bytes plain) t head_of_plain plain_accepted order).accepted ∙ e))

-- nor is one under which an ask that plain grants is refused
none_otherwise : (image : List ℕ) (n : ℕ) → (reply_to asks_both plain).number ≡ 0 → (reply_to asks_both image).number ≡ suc n
    → ¬ Reordered (image_bytes plain) (image_bytes image)
unfolding reply_to asks_both asks_text is_text short_ask_by
none_otherwise image n a b order =
    let q = (order_free (image_bytes plain) (image_bytes image) head_of_plain plain_accepted order).alike.steps SESSIONS (active_role 0) asks_both refl in
    let e = sym a ∙ ap (λ (e : Event). e.reply.number) q ∙ b in
    omega (arith, e)

-- ---- by computation
asked_plain : (reply_to asks_both plain).number ≡ 0
unfolding listing reply_to asks_both plain
asked_plain = refl

asked_crossed : (reply_to asks_both crossed).number ≡ 20
unfolding listing reply_to asks_both crossed
asked_crossed = refl

texts_differ : ¬ ((reply_to texts_both plain).filled ≡ (reply_to texts_both turned).filled)
unfolding listing reply_to texts_both plain turned
texts_differ e = true≢false (ap (same_list (reply_to texts_both plain).filled) e)

strayed_refused : judge (image_bytes strayed) ≡ Refused 3 12
unfolding listing strayed
strayed_refused = refl

headless_refused : judge (image_bytes headless) ≡ Refused 2 0
unfolding listing headless
headless_refused = refl

unbalanced_refused : judge (image_bytes unbalanced) ≡ Refused 8 15
unfolding listing unbalanced
unbalanced_refused = refl

pub order_cases : OrderCases
unfolding listing plain turned crossed reply_to texts_both head_of_plain
order_cases =
    record {
      accepted = plain_accepted;
      reordered = moved;
      text_plain = refl;
      text_turned = refl;
      texts_differ = texts_differ;
      crossed_accepted = refl;
      asked_plain = asked_plain;
      asked_crossed = asked_crossed;
      not_crossed = none_otherwise crossed 19 asked_plain asked_crossed;
      strayed_refused = strayed_refused;
      not_strayed = none_refused (image_bytes strayed) 3 12 strayed_refused;
      headless_refused = headless_refused;
      not_headless = none_refused (image_bytes headless) 2 0 headless_refused;
      unbalanced_refused = unbalanced_refused;
      not_unbalanced = none_refused (image_bytes unbalanced) 8 15 unbalanced_refused;
    }
