-- A chain of infos, undone.
use Rattle.std.proofs.Common.{◌≡◌, ℕ, List, [], ◌∷◌, Err, ap}
use Rattle.seh_num.specs.Answers.{◌>>=◌}
use Rattle.flat_memory.specs.Memory.{Memory}
use Rattle.eh_tables.specs.declared.range.RuntimeFunction.{RuntimeFunction}
use Rattle.eh_tables.specs.Infos.{Info}
use Rattle.virtual_unwind.specs.declared.refusal.UnwindErr.{UnwindErr}
use Rattle.virtual_unwind.specs.CallerOf.{distance}
use Rattle.abi_unwind.specs.Undone.{AbiUndo, undone}
use Rattle.abi_unwind.specs.Caller.{codes_at, parent_or, chain_undone}

-- where the own codes are refused, all are
pub chain_refused : (m : Memory) (base rva : ℕ) (r : RuntimeFunction) (i : Info) (ps : List Info)
    (u : AbiUndo) (e : UnwindErr)
    → undone m base i (codes_at i (distance r.begin rva)) u ≡ Err e
    → chain_undone m base rva r i ps u ≡ Err e
chain_refused m base rva r i [] u e h = h
chain_refused m base rva r i (p ∷ ps) u e h =
    ap (λ x. x >>= chain_undone m base rva (parent_or r i.parent) p ps) h
