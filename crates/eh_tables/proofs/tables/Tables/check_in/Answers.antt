use Rattle.std.proofs.Common.{◌<◌, length, sym, ap, subst, ◌∙◌, arith}
use Rattle.eh_tables.specs.Known.{AreKnown, only}
use Rattle.eh_tables.specs.Records.{SeenPass}
use Rattle.eh_tables.specs.Words.{Image, RuntimeFunction, Tables, entry, end_before}
use Rattle.eh_tables.proofs.KnownEntries.{goes_on}
use Rattle.eh_tables.proofs.tables.Tables.check_in.Goals as goal

pub loop-index-preserved : goal.loop-index-preserved
loop-index-preserved c =
    let t = c.args.self.now in
    let k = c.loop-index.index in
    let lt : k < length t.ranges = omega (arith, c.loop-index-test.true, c.len-index-end.ensures) in
    let image = ap (λ (x : Tables). x.image) c.self.view_is in
    let known = c.check_entry.new.known in
    let seen = c.check_entry.new.seen in
    record {
      known = subst (λ (i : Image). AreKnown i known) image c.in_ok-refusal.ensures.known;
      seen = subst (λ (i : Image). SeenPass i seen) image c.in_ok-refusal.ensures.seen;
      same = goes_on t.image k t.ranges lt c.in_default.field-0
          (sym c.in_default.is ∙ c.in_ok-refusal.ensures.answer
          ∙ ap (λ (i : Image). only (entry i k c.end_before-last.result c.range-range.result)) image
          ∙ ap (λ n. only (entry t.image k n c.range-range.result)) c.end_before-last.ensures
          ∙ ap (λ (r : RuntimeFunction). only (entry t.image k (end_before t.ranges k) r))
          c.range-range.ensures)
          ∙ c.loop-index.invariant.same;
    }
