-- What a request asks for.
use Rattle.std.specs.Prelude.{ℕ, List, Option}
use Rattle.std.specs.Option.{option_map}
use Rattle.requests.specs.Handles.{bits_of}
use Rattle.requests.specs.declared.mode.XdpMode.{XdpMode}
use Rattle.requests.specs.declared.request.Key.{Key as CodeKey}
use Rattle.requests.specs.declared.request.Program.{Program as CodeProgram}
use Rattle.requests.specs.declared.request.Request.{Request}
use Rattle.requests.specs.declared.request.Request.TheVariants.{SetXdp, AddClsact, Attach, Replace, Remove, List as ListFilters}

-- which filter
pub record Key : Type 0 where
  pub interface : ℕ
  pub parent : ℕ
  pub priority : ℕ
  pub handle : ℕ

-- which program it runs
pub record Program : Type 0 where
  pub descriptor : ℕ
  pub name : List ℕ
  pub class : Option ℕ

pub data Ask : Type 0 where
  set_xdp : (interface : ℕ) (descriptor expected : Option ℕ) (mode : XdpMode) → Ask
  add_clsact : (interface : ℕ) → Ask
  attach : Key → Program → Ask
  replace : Key → Program → Ask
  remove : Key → Ask
  list : (interface parent : ℕ) → Ask

-- what the code's types mean
abbrev pub key_of : CodeKey → Key
key_of k = record { interface = k.interface; parent = bits_of k.parent; priority = k.priority; handle = bits_of k.handle }

abbrev pub program_of : CodeProgram → Program
program_of p = record { descriptor = p.descriptor; name = p.name.now; class = option_map bits_of p.class }

abbrev pub asks : Request → Ask
asks (SetXdp x) = set_xdp x.interface x.descriptor x.expected x.mode
asks (AddClsact i) = add_clsact i
asks (Attach k p) = attach (key_of k) (program_of p)
asks (Replace k p) = replace (key_of k) (program_of p)
asks (Remove k) = remove (key_of k)
asks (ListFilters h) = list h.interface (bits_of h.parent)
