-- Numbers as a script writes them.
use Rattle.std.specs.Prelude.{◌≡◌, ℕ, ◌<◌, List, Option, MatchOption}
use Rattle.std.specs.Str.Parse.{IsNumeral, digits_value}

-- the text is digits in this radix, one or more, and nothing else; they write a number below the limit
abbrev pub Writes : ℕ → ℕ → List ℕ → Type 0
Writes radix limit text = IsNumeral radix text × (digits_value radix text < limit)

-- that number, or none where the text writes none
abbrev pub ReadAs : ℕ → ℕ → List ℕ → Option ℕ → Type 0
ReadAs radix limit text r = MatchOption r (¬ (Writes radix limit text)) (λ n. Writes radix limit text × (n ≡ digits_value radix text))
