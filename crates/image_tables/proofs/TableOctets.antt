-- Unwind infos, scope tables and function tables are written as octets.
use Rattle.std.proofs.Common.{List, ◌++◌, length}
use Rattle.std.specs.List.{flat_map}
use Rattle.eh_write.specs.Written.{u32, range_bytes, table_bytes, scope_record_bytes, scope_bytes, trailer_bytes}
use Rattle.eh_tables.specs.declared.range.RuntimeFunction.{RuntimeFunction}
use Rattle.eh_tables.specs.declared.scope.ScopeRecord.{ScopeRecord}
use Rattle.eh_write.specs.declared.unwind_info.Trailer.{Trailer}
use Rattle.eh_write.specs.declared.unwind_info.Trailer.TheVariants.{Nothing, Handler, Parent}
use Rattle.image_tables.specs.OctetLaws.{AreOctets}
use Rattle.image_tables.proofs.Octets.{joined, mapped, four_bytes}

range_octets : (r : RuntimeFunction) → AreOctets (range_bytes r)
range_octets r = joined (u32 r.begin ++ u32 r.end) (u32 r.unwind_info)
    (joined (u32 r.begin) (u32 r.end) (four_bytes r.begin) (four_bytes r.end))
    (four_bytes r.unwind_info)

pub table_octets : (rs : List RuntimeFunction) → AreOctets (table_bytes rs)
table_octets rs = mapped range_bytes rs range_octets

record_octets : (r : ScopeRecord) → AreOctets (scope_record_bytes r)
record_octets r =
    joined (u32 r.begin ++ u32 r.end ++ u32 r.handler_address) (u32 r.jump_target)
    (joined (u32 r.begin ++ u32 r.end) (u32 r.handler_address)
    (joined (u32 r.begin) (u32 r.end) (four_bytes r.begin) (four_bytes r.end))
    (four_bytes r.handler_address)) (four_bytes r.jump_target)

pub scope_octets : (rs : List ScopeRecord) → AreOctets (scope_bytes rs)
scope_octets rs = joined (u32 (length rs)) (flat_map scope_record_bytes rs)
    (four_bytes (length rs)) (mapped scope_record_bytes rs record_octets)

pub trailer_octets : (t : Trailer) → AreOctets (trailer_bytes t)
trailer_octets Nothing = tt
trailer_octets (Handler s u rva) = four_bytes rva
trailer_octets (Parent r) = range_octets r
