use Rattle.std.proofs.Common.{◌≡◌, ◌-◌, ◌*◌}
use Rattle.seh_records.specs.Vocabulary.{may_write, first_refused}
use Rattle.seh_records.proofs.words.first_unwritable.Given as goal

abbrev pub invariant-loop-i : goal.invariant-loop-i
invariant-loop-i g l =
    let may = may_write (g.S.CodeSpace.memory l.space) in
    first_refused may (8 * (l.count - l._i)) l.here ≡ first_refused may (8 * l.count) l.at
