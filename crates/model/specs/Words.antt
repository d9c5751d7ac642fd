-- The words of an image written out, by 01's table of kinds and with no spare bits; the end word that balances them,
-- and their bytes.
-- Assumes nothing.
use Rattle.std.specs.Prelude.{List, [], ◌∷◌, ◌++◌, ℕ, ◌+◌, ◌-◌, ◌*◌, ◌%◌, ◌^◌}
use Rattle.model.specs.Bytes.{bytes_of}

-- the numbers of users, roles and permissions (01: U, R, P)
unfoldable pub head_word : ℕ → ℕ → ℕ → ℕ
head_word users roles permissions = 1 * 2 ^ 28 + users * 2 ^ 21 + roles * 2 ^ 14 + permissions * 2 ^ 5

unfoldable pub assign_word : ℕ → ℕ → ℕ
assign_word user role = 2 * 2 ^ 28 + user * 2 ^ 22 + role * 2 ^ 16

unfoldable pub grant_word : ℕ → ℕ → ℕ
grant_word role permission = 3 * 2 ^ 28 + role * 2 ^ 22 + permission * 2 ^ 14

-- role a over role b
unfoldable pub senior_word : ℕ → ℕ → ℕ
senior_word a b = 4 * 2 ^ 28 + a * 2 ^ 22 + b * 2 ^ 16

-- of a kind, with n and m members
unfoldable pub exclusion_word : ℕ → ℕ → ℕ → ℕ
exclusion_word kind n m = 5 * 2 ^ 28 + kind * 2 ^ 26 + n * 2 ^ 19 + m * 2 ^ 12

unfoldable pub member_word : ℕ → ℕ
member_word role = 6 * 2 ^ 28 + role * 2 ^ 22

-- fewer than t sessions of all users may hold the role
unfoldable pub limit_word : ℕ → ℕ → ℕ
limit_word role t = 7 * 2 ^ 28 + role * 2 ^ 22 + t * 2 ^ 13

unfoldable pub sum_of : List ℕ → ℕ
sum_of [] = 0
sum_of (w ∷ ws) = w + sum_of ws

-- the end word behind words with this sum
unfoldable pub end_word : ℕ → ℕ
end_word sum = 15 * 2 ^ 28 + (2 ^ 28 - sum % 2 ^ 28) % 2 ^ 28

-- the words, and the end word that balances them
unfoldable pub ended : List ℕ → List ℕ
ended ws = ws ++ (end_word (sum_of ws) ∷ [])

-- the bytes of words, four each
unfoldable pub image_bytes : List ℕ → List ℕ
image_bytes [] = []
image_bytes (w ∷ ws) = bytes_of 4 w ++ image_bytes ws
