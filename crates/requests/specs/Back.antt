-- Reading a request back.
use Rattle.std.specs.Prelude.{◌≡◌, ℕ, ◌^◌, ◌<◌, List, Some, None, Option}
use Rattle.requests.specs.declared.request.Request.{Request}
use Rattle.requests.specs.Asks.{Key, Ask, asks, set_xdp, add_clsact, attach, replace, remove, list}
use Rattle.requests.specs.Bytes.{request_bytes}
use Rattle.requests.specs.Refusals.{argument_fault}

-- numbers of 16 and 32 bits, as the code's types have them
abbrev pub KeyFits : Key → Type 0
KeyFits k = (k.parent < 2 ^ 32) × (k.priority < 2 ^ 16) × (k.handle < 2 ^ 32)

abbrev pub ClassFits : Option ℕ → Type 0
ClassFits None = Unit {0}
ClassFits (Some c) = c < 2 ^ 32

abbrev pub Fits : Ask → Type 0
Fits (set_xdp i d e m) = Unit {0}
Fits (add_clsact i) = Unit {0}
Fits (attach k p) = KeyFits k × ClassFits p.class
Fits (replace k p) = KeyFits k × ClassFits p.class
Fits (remove k) = KeyFits k
Fits (list i p) = p < 2 ^ 32

-- a request was picked out: what it asks for is so, and its numbers fit
abbrev pub PickedOut : (Ask → Type 0) → Request → Type 0
PickedOut So q = So (asks q) × Fits (asks q)

-- these bytes are this request, and its arguments pass all checks
pub record Writes (x : Ask) (b : List ℕ) : Type 0 where
  pub fits : Fits x
  pub sound : argument_fault x ≡ None
  pub bytes : b ≡ request_bytes x
