use Rattle.std.proofs.Common.{◌≡◌}
use Rattle.virtual_unwind.specs.Undone.{operations}
use Rattle.frame_known.specs.Known.{undone}
use Rattle.known_frames.specs.Views.{registers_of, words_of}
use Rattle.known_frames.proofs.unwound.undone.Given as goal

abbrev pub invariant-loop-code : goal.invariant-loop-code
invariant-loop-code l =
    let words = words_of l.words in
    record {
      can : goal.iterator-loop-code.can_next l.code-iterator;
      ends : goal.iterator-loop-code.is_finite l.code-iterator;
      rest : undone l.reach words l.base l.info (operations l.code-iterator) (registers_of l.now)
          ≡ undone l.reach words l.base l.info (operations l.fn.codes) (registers_of l.registers);
    }
