-- What a row of the bench host's table stands for.
use Rattle.std.specs.Option.{option_map}
use Rattle.requests.specs.Asks.{key_of}
use Rattle.hosts.specs.Meaning.{Filter}
use Rattle.filters.specs.Texts.{said}
use Rattle.filters.specs.Fitting.{filter_with}
use Rattle.filters.specs.declared.row.Row.{Row}

abbrev pub meaning : Row → Filter
meaning r = filter_with (key_of r.key) (said r.kind) (option_map said r.name)
