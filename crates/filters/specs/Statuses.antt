-- The status of a refusal.
use Rattle.std.specs.Prelude.{ℤ, negsuc}
use Rattle.filters.specs.declared.refusal.Refusal.{Refusal}
use Rattle.filters.specs.declared.refusal.Refusal.TheVariants.{NoEntry, Exists, Invalid, NoSpace}

-- -2, -17, -22, -28
abbrev pub status : Refusal → ℤ
status NoEntry = negsuc 1
status Exists = negsuc 16
status Invalid = negsuc 21
status NoSpace = negsuc 27
