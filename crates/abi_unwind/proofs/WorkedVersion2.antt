-- The rows of version 2, computed.
use Rattle.std.proofs.Common.{refl}
use Rattle.flat_memory.specs.Memory.{executable, first_refused, number_at}
use Rattle.eh_tables.specs.Codes.{operation}
use Rattle.abi_unwind.specs.Tail.{tail_at, pops}
use Rattle.eh_tables.specs.Infos.{stored_scope_records}
use Rattle.eh_tables.specs.EitherInfos.{stored_info, info}
use Rattle.eh_tables.specs.EitherEntries.{entry}
use Rattle.abi_unwind.specs.Each.{abi_caller_each}
use Rattle.abi_unwind.specs.Version2Rows.{ListedEpilogues}

pub listed_epilogues : ListedEpilogues
unfolding executable tail_at pops first_refused number_at operation abi_caller_each
    stored_scope_records stored_info info entry
listed_epilogues = record {
  both = refl;
  last = refl;
  first = refl;
  in_prologue = refl;
  body = refl;
  before_pop = refl;
  at_pop = refl;
  at_return = refl;
  between = refl;
  at_last_pop = refl;
  at_last_return = refl;
  unlisted = refl;
  unlisted_last = refl;
  late = refl;
  unknown = refl;
  beside = refl;
}
