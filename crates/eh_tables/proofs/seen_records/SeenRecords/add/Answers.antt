use Rattle.std.proofs.Common.{◌+◌, arith}
use Rattle.eh_tables.proofs.SeenPlaces.{in_other, one_joined, added}
use Rattle.eh_tables.proofs.seen_records.SeenRecords.add.Goals as goal

pub loop-from-preserved : goal.loop-from-preserved
loop-from-preserved c =
    let i = c.loop-from.invariant in
    let begin = c.place-begin.result in
    let low = i.low in
    let high = i.high in
    let least = c.min-first.ensures in
    let most = c.max-last.ensures in
    record {
      low = omega arith;
      high = omega arith;
      kept = λ p r. i.kept p (in_other c.loop-from.self.runs c.remove.new.self c.in-Some.from p
          c.remove.ensures.updates.0 r);
      joined = one_joined c.args.self.now.runs c.loop-from.self.runs begin
          (begin + c.args.count) c.loop-from.first c.loop-from.last c.in-Some.from c.in-Some.to
          c.min-first.result c.max-last.result i.kept i.joined c.in-Some.ensures.run
          c.in-Some.ensures.begun c.if-to-begin.false i.low i.high c.min-first.ensures
          c.max-last.ensures;
    }

pub returns : goal.returns
returns c =
    let i = c.loop-from.invariant in
    added c.args.self.now (record { runs = c.insert.new.self }) c.loop-from.self.runs c.args.rva
    c.args.count c.place-begin.result c.loop-from.first c.loop-from.last c.requires
    c.place-begin.ensures i.kept i.joined c.in_ok-insert.ensures.updates.0
