-- What a word says, by the few tests on the word turned.
-- Assumes nothing.
use Rattle.std.proofs.Common.{◌≡◌, ℕ, ◌+◌, ◌*◌, ◌/◌, ◌%◌, ◌^◌, ◌<◌, sym, ap, ◌∙◌, arith}
use native.Mathlib.Nat.{div-div-eq-div-mul}
use Rattle.model.specs.declared.Entry.TheVariants.{Assignment, Grant, Senior, Exclude, Member}
use Rattle.model.specs.Tests.{pick}
use Rattle.model.specs.Image.{field, decode, says, user, role, permission, kind_of}

third : (r : ℕ) → r < 64 → (r + 192) / 2 ^ 6 ≡ 3
third r m = omega arith

sixth : (r : ℕ) → r < 64 → (r + 384) / 2 ^ 6 ≡ 6
sixth r m = omega arith

itself : (k : ℕ) → k < 16 → k % 2 ^ 4 ≡ k
itself k m = omega arith

spareless : (w : ℕ) → w % 2 ^ 16 ≡ 0 → w / 2 ^ 16 + w % 2 ^ 16 * 2 ^ 16 ≡ w / 2 ^ 16
spareless w z = omega arith

-- turned by 14 bits: a grant
module _ (w r : ℕ) (l : w < 2 ^ 32) (m : r < 64) (e : (r + 192) % 2 ^ 32 ≡ (w / 2 ^ 14 + w % 2 ^ 14 * 2 ^ 18) / 2 ^ 8) where
  grant_spare : w % 2 ^ 14 ≡ 0
  grant_spare = omega arith

  grant_top : w / 2 ^ 22 ≡ r + 192
  grant_top = let z = grant_spare in let q : w / 2 ^ 14 / 2 ^ 8 ≡ r + 192 = omega arith in omega arith

  grant_kind : w / 2 ^ 28 % 2 ^ 4 ≡ 3
  grant_kind =
      ap (λ (x : ℕ). x % 2 ^ 4) (sym (div-div-eq-div-mul w (2 ^ 22) (2 ^ 6)) ∙ ap (λ (x : ℕ). x / 2 ^ 6) grant_top ∙ third r m)

  grant_role : w / 2 ^ 22 % 2 ^ 6 ≡ r
  grant_role = let z = grant_top in omega arith

  grant_permission : w / 2 ^ 14 % 2 ^ 8 ≡ (w / 2 ^ 14 + w % 2 ^ 14 * 2 ^ 18) % 2 ^ 8
  grant_permission = omega arith

  pub grant_said : decode w ≡ says (Grant (role r) (permission ((w / 2 ^ 14 + w % 2 ^ 14 * 2 ^ 18) % 2 ^ 8))) 0
  unfolding decode pick
  grant_said = rw (grant_kind, grant_role, grant_permission, grant_spare)

-- turned by 16 bits: an assignment, a senior word
module _ (w k : ℕ) (l : w < 2 ^ 32) (small : k < 16) (e : (w / 2 ^ 16 + w % 2 ^ 16 * 2 ^ 16) / 2 ^ 12 ≡ k) where
  pair_spare : w % 2 ^ 16 ≡ 0
  pair_spare = omega arith

  pair_kind : w / 2 ^ 28 % 2 ^ 4 ≡ k
  pair_kind =
      ap (λ (x : ℕ). x % 2 ^ 4) (sym (div-div-eq-div-mul w (2 ^ 16) (2 ^ 12)) ∙ ap (λ (x : ℕ). x / 2 ^ 12) (sym (spareless w pair_spare)) ∙ e)
      ∙ itself k small

  pair_first : w / 2 ^ 22 % 2 ^ 6 ≡ (w / 2 ^ 16 + w % 2 ^ 16 * 2 ^ 16) / 2 ^ 6 % 2 ^ 6
  pair_first =
      ap (λ (x : ℕ). x % 2 ^ 6) (sym (div-div-eq-div-mul w (2 ^ 16) (2 ^ 6)) ∙ ap (λ (x : ℕ). x / 2 ^ 6) (sym (spareless w pair_spare)))

  pair_second : w / 2 ^ 16 % 2 ^ 6 ≡ (w / 2 ^ 16 + w % 2 ^ 16 * 2 ^ 16) % 2 ^ 6
  pair_second = let z = pair_spare in omega arith

assignment_said : (w : ℕ) → w < 2 ^ 32 → (w / 2 ^ 16 + w % 2 ^ 16 * 2 ^ 16) / 2 ^ 12 ≡ 2
    → decode w ≡ says (Assignment (user ((w / 2 ^ 16 + w % 2 ^ 16 * 2 ^ 16) / 2 ^ 6 % 2 ^ 6)) (role ((w / 2 ^ 16 + w % 2 ^ 16 * 2 ^ 16) % 2 ^ 6))) 0
unfolding decode pick
assignment_said w l e = let s : 2 < 16 = omega arith in rw (pair_kind w 2 l s e, pair_first w 2 l s e, pair_second w 2 l s e, pair_spare w 2 l s e)

-- where the user is known
key_kind : (x u : ℕ) → u < 64 → x / 2 ^ 6 ≡ u + 128 → x / 2 ^ 6 / 2 ^ 6 ≡ 2
key_kind x u l e = omega arith

key_user : (x u : ℕ) → u < 64 → x / 2 ^ 6 ≡ u + 128 → x / 2 ^ 6 % 2 ^ 6 ≡ u
key_user x u l e = omega arith

pub assigned_said : (w u : ℕ) → w < 2 ^ 32 → u < 64 → (w / 2 ^ 16 + w % 2 ^ 16 * 2 ^ 16) / 2 ^ 6 ≡ u + 128
    → decode w ≡ says (Assignment (user u) (role ((w / 2 ^ 16 + w % 2 ^ 16 * 2 ^ 16) % 2 ^ 6))) 0
assigned_said w u l m e =
    let x : ℕ = w / 2 ^ 16 + w % 2 ^ 16 * 2 ^ 16 in
    assignment_said w l (sym (div-div-eq-div-mul x (2 ^ 6) (2 ^ 6)) ∙ key_kind x u m e)
    ∙ ap (λ (y : ℕ). says (Assignment (user y) (role (x % 2 ^ 6))) 0) (key_user x u m e)

pub senior_said : (w : ℕ) → w < 2 ^ 32 → (w / 2 ^ 16 + w % 2 ^ 16 * 2 ^ 16) / 2 ^ 12 ≡ 4
    → decode w ≡ says (Senior (role ((w / 2 ^ 16 + w % 2 ^ 16 * 2 ^ 16) / 2 ^ 6 % 2 ^ 6)) (role ((w / 2 ^ 16 + w % 2 ^ 16 * 2 ^ 16) % 2 ^ 6))) 0
unfolding decode pick
senior_said w l e = let s : 4 < 16 = omega arith in rw (pair_kind w 4 l s e, pair_first w 4 l s e, pair_second w 4 l s e, pair_spare w 4 l s e)

-- turned by 22 bits: a member
module _ (w r : ℕ) (l : w < 2 ^ 32) (m : r < 64) (e : (r + 384) % 2 ^ 32 ≡ w / 2 ^ 22 + w % 2 ^ 22 * 2 ^ 10) where
  member_spare : w % 2 ^ 22 ≡ 0
  member_spare = omega arith

  member_top : w / 2 ^ 22 ≡ r + 384
  member_top = let z = member_spare in omega arith

  member_kind : w / 2 ^ 28 % 2 ^ 4 ≡ 6
  member_kind =
      ap (λ (x : ℕ). x % 2 ^ 4) (sym (div-div-eq-div-mul w (2 ^ 22) (2 ^ 6)) ∙ ap (λ (x : ℕ). x / 2 ^ 6) member_top ∙ sixth r m)

  pub member_role_lem : r ≡ w / 2 ^ 22 % 2 ^ 6
  member_role_lem = let z = member_top in omega arith

  pub member_said : decode w ≡ says (Member (role (w / 2 ^ 22 % 2 ^ 6))) 0
  unfolding decode pick
  member_said = rw (member_kind, member_spare)

-- turned by 12 bits: an exclusion
module _ (w : ℕ) (l : w < 2 ^ 32) (e : (w / 2 ^ 12 + w % 2 ^ 12 * 2 ^ 20) / 2 ^ 16 ≡ 5) where
  exclusion-spare : w % 2 ^ 12 ≡ 0
  exclusion-spare = omega arith

  exclusion-top : w / 2 ^ 12 / 2 ^ 16 ≡ 5
  exclusion-top = let z = exclusion-spare in omega arith

  exclusion_kind : w / 2 ^ 28 % 2 ^ 4 ≡ 5
  exclusion_kind = ap (λ (x : ℕ). x % 2 ^ 4) (sym (div-div-eq-div-mul w (2 ^ 12) (2 ^ 16)) ∙ exclusion-top)

  pub exclusion_said : decode w ≡ says (Exclude (record { kind = kind_of (field w 26 2); n = field w 19 7; members = 0 }) (field w 12 7)) 0
  unfolding decode pick
  exclusion_said = rw (exclusion_kind, exclusion-spare)
