-- The fault of an entry of a table by the entry that its info names.
use Rattle.std.proofs.Common.{refl}
use Rattle.std.proofs.lemmas.List.Elements.{All-contains}
use Rattle.eh_tables.specs.declared.layout.TheConstants.{MOST_PARENTS}
use Rattle.eh_tables.specs.Tables.{entries_of}
use Rattle.unwind_check.specs.Laws.{NamedInfoServes}
use Rattle.unwind_check.proofs.ReadTables.{WasRead, all_read}
use Rattle.unwind_check.proofs.TableEntries.{by_chain}

pub named_info_serves : NamedInfoServes
named_info_serves t m probe e w here =
    let es = entries_of t in
    let r = All-contains (WasRead t.image) es e (all_read t.image 0 0 t.ranges es w.whole) here in
    by_chain (record { memory = m; probe = probe; ranges = t.ranges }) t w refl e.range.begin
    e.range.end e.info MOST_PARENTS r.index e.info.parent e.parents refl r.is.chain
