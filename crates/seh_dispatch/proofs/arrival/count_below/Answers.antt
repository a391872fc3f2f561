use Rattle.std.proofs.Common.{rules, ltb, ltb-true, ltb-false, arith}
use Rattle.std.proofs.lemmas.List.Sorted.{IsPartitionPoint-from_clause, IsPartitionedBy-ltb}
use Rattle.seh_dispatch.proofs.FuncletOrder.{addresses_rise}
use Rattle.seh_dispatch.proofs.arrival.count_below.Goals as goal

pub returns : goal.returns
returns c =
    let parted = IsPartitionedBy-ltb (λ f. f.address) c.args.funclets.now c.args.rva
    (addresses_rise 0 _ c.requires) in
    let point = IsPartitionPoint-from_clause (λ f. ltb f.address c.args.rva) _ _
    c.partition_point.ensures.partitioned parted (λ a r q k. search rules) in
    record {
      within = c.partition_point.ensures.bound;
      below = λ k d h. ltb-true _ _ (point.0 k d (omega arith) h);
      later = λ k d h1 h2. ltb-false _ _ (point.1 k d h1 h2);
    }
