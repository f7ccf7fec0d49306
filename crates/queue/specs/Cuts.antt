-- Datagrams laid one after the other, and what the calls of a queue make of them.
use Rattle.std.specs.Prelude.{ℕ, ◌+◌, ◌-◌, ◌≤◌, Bool, cond, ◌&&◌, List, [], ◌∷◌, ◌++◌, length, take, drop, Some, None, Option, nat_le, get_or}

abbrev pub total : List ℕ → ℕ
total [] = 0
total (n ∷ ns) = n + total ns

-- the lengths that a datagram may have
abbrev pub Sized : ℕ → Type 0
Sized n = (16 ≤ n) × (n ≤ 4096)

-- bytes cut into pieces of these lengths
abbrev pub cut : List ℕ → List ℕ → List (List ℕ)
cut [] b = []
cut (n ∷ ns) b = take n b ∷ cut ns (drop n b)

-- the last of these lengths, 0 where there is none
abbrev pub last_length : List ℕ → ℕ
last_length ns = get_or ns (length ns - 1) 0

-- the bytes of all the pieces
abbrev pub bulk : List (List ℕ) → ℕ
bulk [] = 0
bulk (d ∷ ds) = length d + bulk ds

-- whether d may wait behind ws
abbrev pub takes : List (List ℕ) → List ℕ → Bool
takes ws d = nat_le 16 (length d) && (nat_le (length d) 4096 && nat_le (bulk ws + length d) 16384)

-- m behind the last datagram, or as a new one where that would be too long
abbrev pub joined : List (List ℕ) → List ℕ → List (List ℕ)
joined [] m = m ∷ []
joined (d ∷ []) m = cond (nat_le (length d + length m) 4096) ((d ++ m) ∷ []) (d ∷ m ∷ [])
joined (d ∷ e ∷ ds) m = d ∷ joined (e ∷ ds) m

-- the length of the first, if it fits into so many bytes
abbrev pub fitting : ℕ → List (List ℕ) → Option ℕ
fitting room [] = None
fitting room (d ∷ ds) = cond (nat_le (length d) room) (Some (length d)) None

-- what is left after that one is taken
abbrev pub behind : ℕ → List (List ℕ) → List (List ℕ)
behind room [] = []
behind room (d ∷ ds) = cond (nat_le (length d) room) ds (d ∷ ds)

-- a buffer with the first laid over its front, if it fits
abbrev pub fronted : List (List ℕ) → List ℕ → List ℕ
fronted [] b = b
fronted (d ∷ ds) b = cond (nat_le (length d) (length b)) (d ++ drop (length d) b) b
