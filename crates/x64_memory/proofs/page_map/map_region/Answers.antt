use Rattle.std.proofs.Common.{◌≡◌, ◌/◌, length, refl, rules}
use Rattle.x64_memory.specs.Words.{Stretch}
use Rattle.x64_memory.proofs.Mapping.{is_mapped}
use Rattle.x64_memory.proofs.page_map.map_region.Goals as goal

pub returns : goal.returns
returns c =
    let s : Stretch = record {
      first = c.args.region.now.start / 4096;
      end = c.args.region.now.end / 4096;
      index = c.len.result;
    } in
    let kept : c.len.result ≡ length c.args.pages.now.items = search rules in
    let m = is_mapped c.args.region.now s _ _ _ _ c.protection.result c.requires.whole
    c.requires.ordered c.requires.count c.requires.above refl refl kept c.protection.ensures
    c.in_ok-push.ensures.items c.in_ok-add_pages.ensures in
    record {
      memory = m.memory;
      holds = m.holds;
      ordered = m.ascending;
      count = m.counted;
      end = m.end;
    }
