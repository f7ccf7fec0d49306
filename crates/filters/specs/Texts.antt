-- Texts in a fixed room.
use Rattle.std.specs.Prelude.{ℕ, ◌≤◌, List, length, Some, None, Option}
use Rattle.capped.specs.Values.{values}
use Rattle.filters.specs.declared.text.Text.{Text}

-- what a text says
abbrev pub said : Text → List ℕ
said t = values t.bytes

abbrev pub Short : Option (List ℕ) → Type 0
Short None = Unit {0}
Short (Some text) = length text ≤ 256
