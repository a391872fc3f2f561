use Rattle.std.proofs.Common.{◌≡◌, ◌-◌, ◌≤◌, drop}
use Rattle.eh_tables.specs.Scopes.{checked}
use Rattle.eh_tables.proofs.unseen.check_unseen.Given as goal

abbrev pub invariant-loop-row : goal.invariant-loop-row
invariant-loop-row l = record {
  within : l.row ≤ l.count;
  same : checked l.index l.image.size l.row (drop l.row l.info.scopes)
      ≡ checked l.index l.image.size 0 l.info.scopes;
}

abbrev pub decreases-loop-row : goal.decreases-loop-row
decreases-loop-row l = l.count - l.row
