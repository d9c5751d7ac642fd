-- A run of bytes put into a list, and the number that stands at an offset.
-- Assumes nothing.
use Rattle.std.specs.Prelude.{List, [], ◌∷◌, ◌++◌, ℕ, ◌+◌, length, take, drop}
use Rattle.model.specs.Bytes.{number, bytes_of}

-- s with the bytes bs put in at the offset at
unfoldable pub splice : List ℕ → ℕ → List ℕ → List ℕ
splice s at bs = take at s ++ (bs ++ drop (at + length bs) s)

-- the 8-byte number at the offset at
unfoldable pub number_at : List ℕ → ℕ → ℕ
number_at s at = number (take 8 (drop at s))

-- the numbers of a list, each as its eight bytes
unfoldable pub bytes_of_all : List ℕ → List ℕ
bytes_of_all [] = []
bytes_of_all (v ∷ vs) = bytes_of 8 v ++ bytes_of_all vs
