-- The filters of a store.
use Rattle.std.specs.Prelude.{List}
use Rattle.hosts.specs.Meaning.{Filter}
use Rattle.keyed.specs.Rows.{stored}
use Rattle.filters.specs.declared.store.Filters.{Filters}

-- those that stand, in order
abbrev pub held : Filters → List Filter
held t = stored t.table
