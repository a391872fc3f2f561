use Rattle.std.proofs.Common.{◌<◌, ◌≤◌, ◌+◌, length, take, sym, subst, arith}
use Rattle.eh_tables.specs.Tables.{entries_of}
use Rattle.unwind_check.specs.EntryVerdicts.{AreEntryVerdicts}
use Rattle.unwind_check.specs.Verdicts.{ImageCode}
use Rattle.unwind_check.proofs.TableEntries.{judged, one_more_verdict, none_missing, all_judged}
use Rattle.unwind_check.proofs.validation.validate_entries.Goals as goal

pub loop-index-preserved-in_default : goal.loop-index-preserved-in_default
loop-index-preserved-in_default g c =
    let lt : c.loop-index.index < length c.args.tables.now.ranges = omega
    (arith, c.loop-index-test.true, c.len-index-end.ensures) in
    absurd (none_missing c.args.tables.now c.loop-index.index c.requires lt
    c.in_default.ensures.value)

pub loop-index-preserved : goal.loop-index-preserved
loop-index-preserved g c =
    let code : ImageCode = record {
      memory = g.S.CodeSpace.memory c.args.space.now;
      probe = c.args.probe.now;
      ranges = c.args.tables.now.ranges;
    } in
    let t = c.args.tables.now in
    let k = c.loop-index.index in
    let lt : k < length t.ranges = omega
    (arith, c.loop-index-test.true, c.len-index-end.ensures) in
    let v = c.in_ok-verdict.verdict in
    let is = judged code t k v c.requires lt c.in_ok-verdict.ensures.verdict in
    record {
      most = omega (arith, lt);
      ended = c.entry_verdict.ensures.known;
      are = subst (AreEntryVerdicts code (take (k + 1) (entries_of t)))
          (sym c.in_ok-push.ensures.items)
          (one_more_verdict code (entries_of t) k is.entry c.loop-index.verdicts.items
          c.in_ok-verdict.verdict is.place c.loop-index.invariant.are is.says);
    }

pub returns : goal.returns
returns g c =
    let code : ImageCode = record {
      memory = g.S.CodeSpace.memory c.args.space.now;
      probe = c.args.probe.now;
      ranges = c.args.tables.now.ranges;
    } in
    let over : length c.args.tables.now.ranges ≤ c.loop-index.index = omega
    (arith, c.loop-index-test.false, c.len-index-end.ensures) in
    all_judged code c.args.tables.now c.loop-index.index c.loop-index.verdicts.items c.requires over
    c.loop-index.invariant.are
