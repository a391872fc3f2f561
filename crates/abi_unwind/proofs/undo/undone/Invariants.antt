use Rattle.std.proofs.Common.{◌≡◌}
use Rattle.virtual_unwind.specs.Undone.{operations}
use Rattle.abi_unwind.specs.Undone.{undone}
use Rattle.abi_unwind.specs.Views.{undo_of}
use Rattle.abi_unwind.proofs.undo.undone.Given as goal

abbrev pub invariant-loop-code : goal.invariant-loop-code
invariant-loop-code g l =
    let m = g.S.CodeSpace.memory l.space in
    record {
      can : (goal.iterator-loop-code g).can_next l.code-iterator;
      ends : (goal.iterator-loop-code g).is_finite l.code-iterator;
      rest : undone m l.base l.info (operations l.code-iterator) (undo_of l.undo)
          ≡ undone m l.base l.info (operations l.fn.codes) (undo_of l.initial.undo);
    }
