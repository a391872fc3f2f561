use Rattle.std.proofs.Common.{length, ◌/◌, sym, ap, ◌∙◌}
use Rattle.eh_tables.specs.Words.{Tables}
use Rattle.eh_tables.proofs.Ranges.{range_count}
use Rattle.eh_tables.proofs.tables.Tables.len.Goals as goal

pub returns : goal.returns
returns c = let bytes = c.self.inside.directory.now in sym (range_count (length bytes / 12) bytes)
    ∙ ap (λ (t : Tables). length t.ranges) c.self.view_is
