use Rattle.std.proofs.Common.{◌≡◌, ◌++◌, drop}
use Rattle.image_link.specs.Words.{scope_records}
use Rattle.image_link.proofs.tables.scopes_of.Given as goal

abbrev pub invariant-loop-region : goal.invariant-loop-region
invariant-loop-region l = l.records.items ++ scope_records l.funclets l.labels.starts.items
    l.labels.end (drop l.region-index l.regions)
    ≡ scope_records l.funclets l.labels.starts.items l.labels.end l.regions
