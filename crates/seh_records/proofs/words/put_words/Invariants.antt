use Rattle.std.proofs.Common.{◌≡◌, ◌-◌, ◌*◌, None, length, drop}
use Rattle.seh_records.specs.Vocabulary.{may_write, first_refused, with_words}
use Rattle.seh_records.proofs.words.put_words.Given as goal

abbrev pub invariant-loop-word : goal.invariant-loop-word
invariant-loop-word g l =
    let m = g.S.CodeSpace.memory l.space in
    let old = g.S.CodeSpace.memory l.fn.space in
    record {
      modes : m.protection ≡ old.protection;
      may : first_refused (may_write m) (8 * (length l.words - l.word-index)) l.here ≡ None;
      bytes : with_words m.byte l.here (drop l.word-index l.words)
          ≡ with_words old.byte l.at l.words;
    }
