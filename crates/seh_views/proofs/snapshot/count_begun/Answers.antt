use Rattle.std.proofs.Common.{rules, leb, leb-true, leb-false, arith}
use Rattle.std.proofs.lemmas.List.Sorted.{IsPartitionPoint-from_clause, IsPartitionedBy-leb}
use Rattle.seh_views.proofs.RangesHeld.{are_placed, addresses_rise}
use Rattle.seh_views.proofs.snapshot.count_begun.Goals as goal

pub returns : goal.returns
returns c =
    let parted = IsPartitionedBy-leb (λ r. r.at) c.args.ranges.now c.args.at
    (addresses_rise 0 c.args.ranges.now (are_placed 0 c.args.ranges.now c.requires)) in
    let point = IsPartitionPoint-from_clause (λ r. leb r.at c.args.at) _ _
    c.partition_point.ensures.partitioned parted (λ a r q k. search rules) in
    record {
      within = c.partition_point.ensures.bound;
      begun = λ k d h. leb-true _ _ (point.0 k d (omega arith) h);
      later = λ k d h1 h2. leb-false _ _ (point.1 k d h1 h2);
    }
