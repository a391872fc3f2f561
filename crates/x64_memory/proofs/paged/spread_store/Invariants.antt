use Rattle.std.proofs.Common.{◌≡◌, ◌-◌, None}
use Rattle.x64_memory.specs.Words.{may_write, first_refused, with_number}
use Rattle.x64_memory.proofs.paged.spread_store.Given as goal

abbrev pub invariant-loop-i : goal.invariant-loop-i
invariant-loop-i g l =
    let m = g.P.ReadPages.memory l.space in
    let old = g.P.ReadPages.memory l.fn.space in
    record {
      modes : m.protection ≡ old.protection;
      may : first_refused (may_write m) (l.count - l._i) l.here ≡ None;
      bytes : with_number m.byte (l.count - l._i) l.here l.rest
          ≡ with_number old.byte l.count l.at l.value;
    }
