use Rattle.std.proofs.Common.{◌/◌, length, get_or, ap, ◌∙◌, arith}
use Rattle.eh_tables.specs.Words.{Tables, no_range}
use Rattle.eh_tables.proofs.Ranges.{range_within, range_count, range_is}
use Rattle.eh_tables.proofs.tables.Tables.range.Goals as goal

pub overflow_mul-index : goal.overflow_mul-index
overflow_mul-index c =
    let e = ap (λ (t : Tables). length t.ranges) c.self.view_is in
    let lt = c.requires in
    let within = range_within c.args.index c.self.inside.directory.now (omega arith) in
    omega arith

pub read_range-requires : goal.read_range-requires
read_range-requires c =
    let e = ap (λ (t : Tables). length t.ranges) c.self.view_is in
    let lt = c.requires in
    range_within c.args.index c.self.inside.directory.now (omega arith)

pub returns : goal.returns
returns c =
    let bytes = c.self.inside.directory.now in
    let e = ap (λ (t : Tables). length t.ranges) c.self.view_is in
    let lt = c.requires in
    c.read_range.ensures
    ∙ range_is (length bytes / 12) c.args.index bytes
    (omega (arith, range_count (length bytes / 12) bytes))
    ∙ ap (λ (t : Tables). get_or t.ranges c.args.index no_range) c.self.view_is
