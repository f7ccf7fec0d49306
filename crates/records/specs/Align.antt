-- Messages and attributes start at multiples of 4.
use Rattle.std.specs.Prelude.{ℕ, ◌+◌, ◌-◌, ◌*◌, ◌/◌}

-- n, rounded up to a multiple of 4
abbrev pub padded : ℕ → ℕ
padded n = (n + 3) / 4 * 4

-- how many bytes of padding follow n bytes
abbrev pub fill : ℕ → ℕ
fill n = padded n - n
