-- The call that words are, by how many stand behind the keyword.
-- Assumes nothing.
use mathlib.Core.Path.{◌≡◌, refl, sym, ap, ◌∙◌}
use mathlib.Core.Bool.{Bool, true, false, ◌&&◌, true≢false}
use mathlib.Core.Option as maths
use mathlib.Core.List.{List, [], ◌∷◌}
use Prim.Native.Nat.{ℕ}
use Rattle.std.proofs.Common.{Option, Some, None}
use Rattle.std.specs.Option.{option_and_then, is_some}
use Rattle.std.proofs.lemmas.Slice.Eq.{IsBytesEq, compares_Decides}
use Rattle.model.specs.Tests.{pick, same_list}
use Rattle.model_laws.proofs.Bools.{fails}
use Rattle.model_script.specs.Script.{ascii, suits, matches, open_form, close_form, show_form, short_ask_form, ask_form, call_of}
use Rattle.script_numerals.specs.Numbers.{number_of, bound_of}
use Rattle.script_lines.specs.Cutting.{nothing_left}
use Rattle.script_parse.specs.declared.Call.{Call}
use Rattle.script_parse.specs.declared.Call.TheVariants.{Open, Close, Show, ShortAsk, Ask}
use Rattle.script_parse.specs.Reading.{first_number, two_numbers, called, call_in}

and-true : (b : Bool) → (b && true) ≡ b
and-true true = refl
and-true false = refl

and-false : (b : Bool) → (b && false) ≡ false
and-false true = refl
and-false false = refl

pick-same : {A : Type 0} (b : Bool) (x : A) → pick b x x ≡ x
unfolding pick
pick-same true x = refl
pick-same false x = refl

-- two tests, one after the other
pick-and : {A : Type 0} (a b : Bool) (x y : A) → pick (a && b) x y ≡ pick a (pick b x y) y
unfolding pick
pick-and true b x y = refl
pick-and false b x y = refl

-- a word is read, and then what stands behind it
read_on : {A B : Type 0} (b : Bool) (x : Option A) (f : A → Option B) → option_and_then f (pick b x None) ≡ pick b (option_and_then f x) None
unfolding pick
read_on true x f = refl
read_on false x f = refl

call_in-pick : (b : Bool) (x y : Option Call) → call_in (pick b x y) ≡ pick b (call_in x) (call_in y)
unfolding pick
call_in-pick true x y = refl
call_in-pick false x y = refl

pick-true : {A : Type 0} (x y : A) → pick true x y ≡ x
unfolding pick
pick-true x y = refl

pick-false : {A : Type 0} (x y : A) → pick false x y ≡ y
unfolding pick
pick-false x y = refl

ruleset choices = (and-true, and-false, pick-same, pick-true, pick-false, pick-and, read_on, call_in-pick)

-- whether a word is left
pub none_left : (ws : List (List ℕ)) → true ≡ is_some (nothing_left ws) → ws ≡ []
unfolding nothing_left
none_left [] e = refl
none_left (w ∷ ws) e = absurd (true≢false e)

pub some_left : (ws : List (List ℕ)) → false ≡ is_some (nothing_left ws) → ws ≡ [] → ⊥
unfolding nothing_left
some_left ws e z = true≢false (sym (e ∙ ap (λ x. is_some (nothing_left x)) z))

-- what is read behind `close` and `show`
abbrev pub closed : List (List ℕ) → Option Call
closed ws = option_and_then (λ p. Some (Close p.0 p.1)) (two_numbers ws)

abbrev pub shown : List (List ℕ) → Option Call
shown ws = option_and_then (λ p. Some (Show p.0 p.1)) (two_numbers ws)

-- two numbers are as many words, and each word is one
pub two_of_one : (a : List ℕ) → two_numbers (a ∷ []) ≡ None
unfolding two_numbers first_number number_of
two_of_one a = simp choices

pub two_of_two :
    (a b : List ℕ) → two_numbers (a ∷ b ∷ []) ≡ option_and_then (λ u. option_and_then (λ k. Some (u, k)) (number_of b)) (number_of a)
unfolding two_numbers first_number nothing_left
two_of_two a b = refl

pub two_of_more : (a b : List ℕ) (ws : List (List ℕ)) → false ≡ is_some (nothing_left ws) → two_numbers (a ∷ b ∷ ws) ≡ None
unfolding two_numbers first_number number_of nothing_left
two_of_more a b [] e = absurd (true≢false (sym e))
two_of_more a b (w ∷ ws) e = simp choices

-- behind `open` stands one word, a number
pub open_of_none : call_of (ascii "open" ∷ []) ≡ maths.none
unfolding ascii call_of suits matches open_form close_form show_form short_ask_form ask_form same_list
open_of_none = simp choices

pub open_of_one : (a : List ℕ) → call_of (ascii "open" ∷ a ∷ []) ≡ call_in (option_and_then (λ u. Some (Open u)) (number_of a))
unfolding ascii call_of suits matches open_form close_form show_form short_ask_form ask_form same_list call_in called number_of
open_of_one a = simp choices

pub open_of_more : (a : List ℕ) (ws : List (List ℕ)) → false ≡ is_some (nothing_left ws) → call_of (ascii "open" ∷ a ∷ ws) ≡ maths.none
unfolding ascii call_of suits matches open_form close_form show_form short_ask_form ask_form same_list nothing_left
open_of_more a [] e = absurd (true≢false (sym e))
open_of_more a (w ∷ ws) e = simp choices

pub close_is : (ws : List (List ℕ)) → call_of (ascii "close" ∷ ws) ≡ call_in (closed ws)
unfolding ascii call_of suits matches open_form close_form show_form short_ask_form ask_form
    same_list call_in called two_numbers first_number number_of nothing_left
close_is [] = simp choices
close_is (a ∷ []) = simp choices
close_is (a ∷ b ∷ []) = simp choices
close_is (a ∷ b ∷ c ∷ ws) = simp choices

pub show_is : (ws : List (List ℕ)) → call_of (ascii "show" ∷ ws) ≡ call_in (shown ws)
unfolding ascii call_of suits matches open_form close_form show_form short_ask_form ask_form
    same_list call_in called two_numbers first_number number_of nothing_left
show_is [] = simp choices
show_is (a ∷ []) = simp choices
show_is (a ∷ b ∷ []) = simp choices
show_is (a ∷ b ∷ c ∷ ws) = simp choices

-- behind `ask` stand four words or six, and each is a number or a bound
pub ask_of_none : call_of (ascii "ask" ∷ []) ≡ maths.none
unfolding ascii call_of suits matches open_form close_form show_form short_ask_form ask_form same_list
ask_of_none = simp choices

pub ask_of_one : (a : List ℕ) → call_of (ascii "ask" ∷ a ∷ []) ≡ maths.none
unfolding ascii call_of suits matches open_form close_form show_form short_ask_form ask_form same_list
ask_of_one a = simp choices

pub ask_of_two : (a b : List ℕ) → call_of (ascii "ask" ∷ a ∷ b ∷ []) ≡ maths.none
unfolding ascii call_of suits matches open_form close_form show_form short_ask_form ask_form same_list
ask_of_two a b = simp choices

pub ask_of_three : (a b c : List ℕ) → call_of (ascii "ask" ∷ a ∷ b ∷ c ∷ []) ≡ maths.none
unfolding ascii call_of suits matches open_form close_form show_form short_ask_form ask_form same_list
ask_of_three a b c = simp choices

pub ask_of_four :
    (a b c d : List ℕ)
    → call_of (ascii "ask" ∷ a ∷ b ∷ c ∷ d ∷ [])
    ≡ call_in (option_and_then
    (λ u. option_and_then (λ k. option_and_then (λ l. option_and_then (λ h. Some (ShortAsk u k l h)) (bound_of d)) (bound_of c)) (number_of b))
    (number_of a))
unfolding ascii call_of suits matches open_form close_form show_form short_ask_form ask_form same_list call_in called number_of bound_of
ask_of_four a b c d = simp choices

pub ask_of_five : (a b c d e : List ℕ) → call_of (ascii "ask" ∷ a ∷ b ∷ c ∷ d ∷ e ∷ []) ≡ maths.none
unfolding ascii call_of suits matches open_form close_form show_form short_ask_form ask_form same_list
ask_of_five a b c d e = simp choices

abbrev pub aimed : ℕ → ℕ → List ℕ → List ℕ → List ℕ → List ℕ → Option Call
aimed u k l h e f = option_and_then (λ m. option_and_then (λ n. Some (Ask u k l h m n)) (number_of f)) (number_of e)

pub ask_of_six :
    (a b c d e f : List ℕ)
    → call_of (ascii "ask" ∷ a ∷ b ∷ c ∷ d ∷ e ∷ f ∷ [])
    ≡ call_in (option_and_then
    (λ u. option_and_then (λ k. option_and_then (λ l. option_and_then (λ h. aimed u k l h e f) (bound_of d)) (bound_of c)) (number_of b))
    (number_of a))
unfolding ascii call_of suits matches open_form close_form show_form short_ask_form ask_form same_list call_in called number_of bound_of
ask_of_six a b c d e f = simp choices

pub ask_of_more :
    (a b c d e f : List ℕ) (ws : List (List ℕ)) → false ≡ is_some (nothing_left ws)
    → call_of (ascii "ask" ∷ a ∷ b ∷ c ∷ d ∷ e ∷ f ∷ ws) ≡ maths.none
unfolding ascii call_of suits matches open_form close_form show_form short_ask_form ask_form same_list nothing_left
ask_of_more a b c d e f [] z = absurd (true≢false (sym z))
ask_of_more a b c d e f (w ∷ ws) z = simp choices

same : IsBytesEq same_list
unfolding same_list
same = record { empty = refl; shorter = λ y ys. refl; longer = λ x xs. refl; heads = λ x y xs ys. refl }

differs : (w x : List ℕ) → (w ≡ x → ⊥) → same_list w x ≡ false
differs w x n = fails _ (λ e. n ((compares_Decides same_list same w x).0 e))

-- a line whose first word is no keyword is unreadable
pub no_keyword :
    (w : List ℕ) (ws : List (List ℕ)) → (w ≡ ascii "open" → ⊥) → (w ≡ ascii "close" → ⊥) → (w ≡ ascii "show" → ⊥) → (w ≡ ascii "ask" → ⊥)
    → call_of (w ∷ ws) ≡ maths.none
unfolding call_of suits matches open_form close_form show_form short_ask_form ask_form
no_keyword w ws x y z t = simp (differs w _ x, differs w _ y, differs w _ z, differs w _ t, pick-false)

pub no_words : call_of [] ≡ maths.none
unfolding call_of matches open_form close_form show_form short_ask_form ask_form
no_words = simp pick-false
