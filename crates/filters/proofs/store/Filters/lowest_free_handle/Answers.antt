use Rattle.std.proofs.Common.{Option, ap, ◌∙◌, refl}
use Rattle.std.specs.Option.{unwrap_or}
use Rattle.requests.specs.Asks.{key_of}
use Rattle.filters.specs.Keys.{taken, with_handle}
use Rattle.filters.specs.Held.{held}
use Rattle.filters.proofs.Finding.{held_short}
use Rattle.filters.proofs.Lowest.{searched, free_at, lower_at}
use Rattle.filters.proofs.store.Filters.lowest_free_handle.Goals as goal

pub returns : goal.returns
returns c =
    let k = key_of c.args.key in
    let fs = held c.args.self.now in
    let short = held_short c.args.self.now in
    let e =
    c.of_bits.ensures.back ∙ c.unwrap_or.ensures ∙ ap (λ (o : Option _). unwrap_or o 33) c.first_free.ensures
    ∙ searched (λ h. taken (with_handle k h) fs) 1 32 33 refl in
    record { value = e; free = free_at k fs _ short e; lowest = lower_at k fs _ short e }
