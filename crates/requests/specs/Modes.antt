-- How an XDP program is run.
use Rattle.std.specs.Prelude.{ℕ, List, codes}
use Rattle.requests.specs.declared.mode.XdpMode.{XdpMode}
use Rattle.requests.specs.declared.mode.XdpMode.TheVariants.{Default, Skb, Driver, Hardware}

-- the flag of each mode, as linux/if_link.h numbers them
abbrev pub mode_flags : XdpMode → ℕ
mode_flags Default = 0
mode_flags Skb = 2
mode_flags Driver = 4
mode_flags Hardware = 8

-- the name of each mode
abbrev pub mode_text : XdpMode → List ℕ
mode_text Default = codes "default"
mode_text Skb = codes "skb"
mode_text Driver = codes "driver"
mode_text Hardware = codes "hardware"
