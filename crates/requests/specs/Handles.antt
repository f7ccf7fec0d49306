-- Handles in traffic control: 32 bits, written major:minor.
use Rattle.std.specs.Prelude.{ℕ, ◌+◌, ◌*◌, ◌/◌, ◌%◌, false, List, ◌++◌, codes}
use Rattle.std.specs.Fmt.{digits}
use Rattle.requests.specs.declared.handle.TcHandle.{TcHandle}
use Rattle.requests.specs.declared.handle.TcAttachType.{TcAttachType}
use Rattle.requests.specs.declared.handle.TcAttachType.TheVariants.{Ingress, Egress}

-- the 32 bits of a handle, and the handle of 32 bits
abbrev pub bits_of : TcHandle → ℕ
bits_of h = h.major * 65536 + h.minor

abbrev pub handle_of : ℕ → TcHandle
handle_of n = record { major = n / 65536; minor = n % 65536 }

-- the upper half of one number and the lower half of another
abbrev pub joined : ℕ → ℕ → ℕ
joined major minor = major / 65536 * 65536 + minor % 65536

-- where clsact takes filters: packets that come in, and packets that go out
abbrev pub parent_of : TcAttachType → ℕ
parent_of Ingress = 0xFFFFFFF2
parent_of Egress = 0xFFFFFFF3

-- a handle as text: both halves in hexadecimal, in small letters, with a colon between
abbrev pub handle_text : TcHandle → List ℕ
handle_text h = digits 16 false h.major ++ (codes ":" ++ digits 16 false h.minor)
