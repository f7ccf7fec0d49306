-- Numbers in bytes, the lowest byte first.
use Rattle.std.specs.Prelude.{ℕ, ◌+◌, ◌*◌, ◌/◌, ◌%◌, ◌<◌, List, [], ◌∷◌, length, slice_index}

-- every element is a byte
abbrev pub Bytes : List ℕ → Type 0
Bytes b = (k : ℕ) → k < length b → slice_index b k < 256

-- a number in 2 bytes, and in 4
abbrev pub bytes2 : ℕ → List ℕ
bytes2 x = (x % 256) ∷ (x / 256 % 256) ∷ []

abbrev pub bytes4 : ℕ → List ℕ
bytes4 x = (x % 256) ∷ (x / 256 % 256) ∷ (x / 65536 % 256) ∷ (x / 16777216 % 256) ∷ []

-- the number in the 2 or 4 bytes from place i
abbrev pub le2 : List ℕ → ℕ → ℕ
le2 b i = slice_index b i + slice_index b (i + 1) * 256

abbrev pub le4 : List ℕ → ℕ → ℕ
le4 b i = slice_index b i + slice_index b (i + 1) * 256 + slice_index b (i + 2) * 65536 + slice_index b (i + 3) * 16777216
