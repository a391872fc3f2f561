use Rattle.std.proofs.Common.{◌<◌, ◌≤◌, length, take, drop, suc, sym, subst, ◌∙◌, arith}
use Rattle.std.specs.Prelude.{◌^◌, IfNone, Option}
use Rattle.eh_tables.specs.Tables.{entries_of}
use Rattle.unwind_check.specs.declared.rule.Fault.{Fault}
use Rattle.unwind_check.specs.FailingRules.{AreFaults}
use Rattle.unwind_check.specs.Verdicts.{ImageCode, entry_in}
use Rattle.unwind_check.proofs.TableEntries.{judged, one_more, none_missing, all_keep}
use Rattle.unwind_check.proofs.validation.validate.Goals as goal

pub loop-index-preserved-in_default : goal.loop-index-preserved-in_default
loop-index-preserved-in_default g c =
    let lt : c.loop-index.index < length c.args.tables.now.ranges = omega
    (arith, c.loop-index-test.true, c.len-index-end.ensures) in
    absurd (none_missing c.args.tables.now c.loop-index.index c.requires lt
    c.in_default.ensures.value)

pub returns-in-Some-fault : goal.returns-in-Some-fault
returns-in-Some-fault g c =
    let code : ImageCode = record {
      memory = g.S.CodeSpace.memory c.args.space.now;
      probe = c.args.probe.now;
      ranges = c.args.tables.now.ranges;
    } in
    let t = c.args.tables.now in
    let k = c.loop-index.index in
    let lt : k < length t.ranges = omega
    (arith, c.loop-index-test.true, c.len-index-end.ensures) in
    let v = c.in_ok-verdict.verdict in
    let is = judged code t k v c.requires lt c.in_ok-verdict.ensures.verdict in
    record {
      before = take k (entries_of t);
      entry = is.entry;
      after = drop (suc k) (entries_of t);
      parts = is.place.parts;
      index = is.place.count;
      kept = c.loop-index.invariant.kept;
      least = subst (AreFaults (entry_in code is.entry)) c.in-Some-fault.is is.says.faults;
    }

pub loop-index-preserved : goal.loop-index-preserved
loop-index-preserved g c =
    let code : ImageCode = record {
      memory = g.S.CodeSpace.memory c.args.space.now;
      probe = c.args.probe.now;
      ranges = c.args.tables.now.ranges;
    } in
    let t = c.args.tables.now in
    let k = c.loop-index.index in
    let lt : k < length t.ranges = omega
    (arith, c.loop-index-test.true, c.len-index-end.ensures) in
    let v = c.in_ok-verdict.verdict in
    let is = judged code t k v c.requires lt c.in_ok-verdict.ensures.verdict in
    record {
      most = omega (arith, lt);
      ended = c.entry_verdict.ensures.known;
      kept = one_more code (entries_of t) k is.entry is.place c.loop-index.invariant.kept (record {
        rules = subst (AreFaults (entry_in code is.entry)) c.in-None.is is.says.faults;
        near = subst (λ (o : Option Fault). IfNone o (is.entry.info.frame_offset < 2 ^ 8))
            c.in-None.is is.says.near;
      });
    }

pub returns : goal.returns
returns g c =
    let code : ImageCode = record {
      memory = g.S.CodeSpace.memory c.args.space.now;
      probe = c.args.probe.now;
      ranges = c.args.tables.now.ranges;
    } in
    let t = c.args.tables.now in
    let k = c.loop-index.index in
    let over : length t.ranges ≤ k = omega
    (arith, c.loop-index-test.false, c.len-index-end.ensures) in
    let all = all_keep code t k c.requires over c.loop-index.invariant.kept in
    (all.0, all.1 ∙ sym c.len.ensures)
