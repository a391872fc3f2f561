-- A table whose ranges ascend, with an index of it: all that a look-up rests on.
--
-- The main definition: `IsOrdered`.
use Rattle.std.specs.Prelude.{List}
use Rattle.eh_tables.specs.declared.range.RuntimeFunction.{RuntimeFunction}
use Rattle.eh_tables.specs.Covering.{RangesAscend}
use Rattle.eh_index.specs.Indexes.{IsIndexOf}
use Rattle.eh_index.specs.declared.lookup.Index.{Index}

-- the ranges ascend, and an index is of them
pub record IsOrdered (rs : List RuntimeFunction) (i : Index) : Type 0 where
  pub ascend : RangesAscend rs
  pub index : IsIndexOf rs i.shift i.first.now
