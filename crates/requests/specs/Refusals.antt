-- When a request is not written, and what a buffer holds afterwards.
use Rattle.std.specs.Prelude.{◌≡◌, ℕ, Bool, false, cond, ◌||◌, List, [], ◌∷◌, ◌++◌, length, drop, Some, None, Ok, Err, Option, Result, ◌==◌, nat_lt}
use Rattle.requests.specs.declared.fault.ArgumentFault.{ArgumentFault}
use Rattle.requests.specs.declared.fault.ArgumentFault.TheVariants.{Interface, Descriptor, ZeroInName, LongName, ShortBuffer}
use Rattle.requests.specs.Asks.{Key, Program, Ask, set_xdp, add_clsact, attach, replace, remove, list}

-- the number of each fault
abbrev pub number : ArgumentFault → ℕ
number (Interface i) = 1
number (Descriptor d) = 2
number ZeroInName = 3
number (LongName n) = 4
number (ShortBuffer size expected) = 8

-- the first of two faults
abbrev pub first : Option ArgumentFault → Option ArgumentFault → Option ArgumentFault
first (Some f) other = Some f
first None other = other

abbrev pub interface_fault : ℕ → Option ArgumentFault
interface_fault i = cond (i == 0 || nat_lt 2147483647 i) (Some (Interface i)) None

abbrev pub descriptor_fault : ℕ → Option ArgumentFault
descriptor_fault d = cond (nat_lt 2147483647 d) (Some (Descriptor d)) None

abbrev pub optional_descriptor_fault : Option ℕ → Option ArgumentFault
optional_descriptor_fault None = None
optional_descriptor_fault (Some d) = descriptor_fault d

abbrev pub has_zero : List ℕ → Bool
has_zero [] = false
has_zero (b ∷ more) = b == 0 || has_zero more

abbrev pub name_fault : List ℕ → Option ArgumentFault
name_fault n = cond (has_zero n) (Some ZeroInName) (cond (nat_lt 256 (length n)) (Some (LongName (length n))) None)

abbrev pub program_fault : Key → Program → Option ArgumentFault
program_fault k p = first (interface_fault k.interface) (first (descriptor_fault p.descriptor) (name_fault p.name))

abbrev pub xdp_fault : ℕ → Option ℕ → Option ℕ → Option ArgumentFault
xdp_fault i d e = first (interface_fault i) (first (optional_descriptor_fault d) (optional_descriptor_fault e))

-- the first check that the arguments of a request fail: 1, 2, 3, 4
unfoldable pub argument_fault : Ask → Option ArgumentFault
argument_fault (set_xdp i d e m) = xdp_fault i d e
argument_fault (add_clsact i) = interface_fault i
argument_fault (attach k p) = program_fault k p
argument_fault (replace k p) = program_fault k p
argument_fault (remove k) = interface_fault k.interface
argument_fault (list i p) = interface_fault i

-- Ok where there is no fault
abbrev pub checked : Option ArgumentFault → Result Unit ArgumentFault
checked None = Ok tt
checked (Some f) = Err f

-- 8: a buffer of `size` bytes where `expected` are needed
abbrev pub room_fault : ℕ → ℕ → Option ArgumentFault
room_fault size expected = cond (nat_lt size expected) (Some (ShortBuffer size expected)) None

-- a value where there is no fault
abbrev pub unless : {X : Type 0} → Option ArgumentFault → X → Result X ArgumentFault
unless None x = Ok x
unless (Some f) x = Err f

-- bytes into a buffer of n bytes, after an earlier check: how many were written, or the first fault
abbrev pub written : Option ArgumentFault → List ℕ → ℕ → Result ℕ ArgumentFault
written fault bytes n = unless (first fault (room_fault n (length bytes))) (length bytes)

-- what the buffer holds then: the bytes at its front and the rest as it was, or all as it was
abbrev pub buffer : Result ℕ ArgumentFault → List ℕ → List ℕ → List ℕ
buffer (Ok n) bytes out = bytes ++ drop n out
buffer (Err f) bytes out = out

-- the answer of a function that writes such bytes at the front of a buffer, and what the buffer holds after it
pub record Written (fault : Option ArgumentFault) (bytes : List ℕ) (answer : Result ℕ ArgumentFault) (old new : List ℕ) : Type 0 where
  pub result : answer ≡ written fault bytes (length old)
  pub after : new ≡ buffer answer bytes old
