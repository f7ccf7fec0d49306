-- What holds of the filters of a store. Assumes nothing.
use Rattle.std.proofs.Common.{◌≤◌, List, [], ◌∷◌, map, length, arith}
use Rattle.std.specs.List.{AllByRecursion}
use Rattle.std.proofs.lemmas.List.{length-map, length-take-le}
use Rattle.capped.specs.Values.{values}
use Rattle.filters.specs.Fitting.{Stands}
use Rattle.filters.specs.Rows.{meaning}
use Rattle.filters.specs.Held.{held}
use Rattle.filters.specs.declared.row.Row.{Row}
use Rattle.filters.specs.declared.store.Filters.{Filters}

-- every filter of a store can stand there
rows_stand : (rs : List Row) → AllByRecursion Stands (map meaning rs)
rows_stand [] = tt
rows_stand (r ∷ rs) = ((r.ok, r.bounds), rows_stand rs)

pub held_stand : (t : Filters) → AllByRecursion Stands (held t)
held_stand t = rows_stand (values t.table.rows)

pub held_short : (t : Filters) → length (held t) ≤ 32
held_short t =
    let c = t.table.rows in
    omega (arith, length-map (values c) meaning, length-take-le c.len c.cells (omega (arith, c.within.0, c.within.1)), c.within.0)
