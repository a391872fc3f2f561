use Rattle.std.proofs.Common.{◌≡◌, ◌++◌, drop}
use Rattle.c_locals.proofs.globals.put_list.Given as goal
use Rattle.c_locals.specs.Words.{bytes_of_all}

abbrev pub invariant-loop-constant : goal.invariant-loop-constant
invariant-loop-constant l = l.own.items ++ bytes_of_all l.size (drop l.constant-index l.list)
    ≡ bytes_of_all l.size l.list
