-- The links of a table.
use Rattle.std.specs.Prelude.{List}
use Rattle.keyed.specs.Rows.{stored}
use Rattle.session.specs.Linked.{Link}
use Rattle.session.specs.declared.links.Links.{Links}

-- in the order of attaching
abbrev pub links_of : Links → List Link
links_of t = stored t.table
