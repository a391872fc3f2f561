use Rattle.std.proofs.Common.{length, ◌<◌, sym, ◌∙◌, arith}
use Rattle.seh_dispatch.specs.Words.{funclets_of}
use Rattle.seh_dispatch.proofs.SeenInfos.{info_there, info_is, info_more, seen_before, seen_more}
use Rattle.seh_dispatch.proofs.gathering.gather.Goals as goal

pub loop-index-preserved-then-contains : goal.loop-index-preserved-then-contains
loop-index-preserved-then-contains c =
    let t = c.args.tables.now in
    let lt : c.loop-index.index < length t.ranges = omega
    (arith, c.loop-index-test.true, c.len-index-end.ensures) in
    record {
      ascending = c.loop-index.invariant.ascending;
      infos = c.loop-index.invariant.infos;
      rows = c.loop-index.invariant.rows;
      same = seen_before t c.loop-index.index c.requires lt c.loop-index.infos
          (funclets_of c.loop-index.gathered.entries) c.range-range.result c.range-range.ensures
          c.loop-index.invariant.ascending c.loop-index.invariant.infos
          (sym c.contains.ensures ∙ c.if-contains.true)
          ∙ c.loop-index.invariant.same;
    }

pub loop-index-preserved-in_default : goal.loop-index-preserved-in_default
loop-index-preserved-in_default c =
    let t = c.args.tables.now in
    let lt : c.loop-index.index < length t.ranges = omega
    (arith, c.loop-index-test.true, c.len-index-end.ensures) in
    absurd (info_there t c.loop-index.index c.requires lt c.in_default.ensures.value)

pub loop-index-preserved : goal.loop-index-preserved
loop-index-preserved c =
    let t = c.args.tables.now in
    let lt : c.loop-index.index < length t.ranges = omega
    (arith, c.loop-index-test.true, c.len-index-end.ensures) in
    let fs = funclets_of c.loop-index.gathered.entries in
    let gs = funclets_of c.add_unseen.new.gathered.entries in
    let rows = c.in_ok-add_unseen.ensures.items in
    record {
      ascending = c.in_ok-add_unseen.ensures.ascending;
      infos = seen_more t.image c.loop-index.infos c.insert.new.self c.loop-index.index
          c.range-range.result.unwind_info c.in-Some.info fs gs c.in_ok-insert.ensures.updates.0
          c.loop-index.invariant.infos (info_is t c.loop-index.index c.requires lt c.in-Some.info
          c.range-range.result c.range-range.ensures c.in-Some.ensures.value) rows;
      rows = c.in_ok-add_unseen.ensures.seen;
      same = info_more t c.loop-index.index c.requires lt c.in-Some.info fs gs
          c.in-Some.ensures.value rows ∙ c.loop-index.invariant.same;
    }
