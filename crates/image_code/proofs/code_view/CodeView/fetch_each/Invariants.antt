use Rattle.std.proofs.Common.{◌≡◌, ◌-◌, ◌++◌, take}
use Rattle.flat_memory.specs.Memory.{executable}
use Rattle.image_code.specs.Code.{code_of}
use Rattle.image_code.proofs.code_view.CodeView.fetch_each.Given as goal

abbrev pub invariant-loop-n : goal.invariant-loop-n
invariant-loop-n l = executable (code_of l.self) 15 l.at
    ≡ take l.n l.into ++ executable (code_of l.self) (15 - l.n) l.next
