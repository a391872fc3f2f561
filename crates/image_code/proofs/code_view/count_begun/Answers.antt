use Rattle.std.proofs.Common.{rules, leb, leb-true, leb-false, arith}
use Rattle.std.proofs.lemmas.List.Sorted.{IsPartitionPoint-from_clause, IsPartitionedBy-leb}
use Rattle.pe_image.proofs.Stored.{addresses_rise}
use Rattle.image_code.proofs.code_view.count_begun.Goals as goal

pub returns : goal.returns
returns c =
    let parted = IsPartitionedBy-leb (λ s. s.address) c.args.sections.now c.args.rva
    (addresses_rise 0 _ c.requires) in
    let point = IsPartitionPoint-from_clause (λ s. leb s.address c.args.rva) _ _
    c.partition_point.ensures.partitioned parted (λ a r q k. search rules) in
    record {
      within = c.partition_point.ensures.bound;
      begun = λ k d h. leb-true _ _ (point.0 k d (omega arith) h);
      later = λ k d h1 h2. leb-false _ _ (point.1 k d h1 h2);
    }
