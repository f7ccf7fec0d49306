-- The number of each fault, and the values that it carries.
use Rattle.std.specs.Prelude.{ℤ, ℕ, [], Some}
use Rattle.reader.specs.Numbers.{Refusal, turn_refusal}
use Rattle.driver.specs.declared.fault.ExchangeFault.{ExchangeFault}
use Rattle.driver.specs.declared.fault.ExchangeFault.TheVariants.{Open, Send, Receive, Turn}

-- the host refused, with this errno
abbrev by_host : ℕ → ℤ → Refusal
by_host n errno = record { number = n; errno = Some errno; sizes = [] }

abbrev pub exchange_refusal : ExchangeFault → Refusal
exchange_refusal (Open errno) = by_host 9 errno
exchange_refusal (Send errno) = by_host 10 errno
exchange_refusal (Receive errno) = by_host 11 errno
exchange_refusal (Turn f) = turn_refusal f
