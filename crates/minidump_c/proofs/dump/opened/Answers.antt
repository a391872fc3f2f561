use Rattle.std.proofs.Common.{◌∙◌, refl, ap, List, ℕ, Option, Result}
use Rattle.minidump.specs.declared.refusal.DumpErr.{DumpErr}
use Rattle.minidump.specs.declared.structures.Memory64List.{Memory64List}
use Rattle.minidump.specs.declared.structures.Table.{Table}
use Rattle.minidump.specs.Lists as lists
use Rattle.minidump.specs.Memory as memory
use Rattle.minidump_c.specs.Dumps.{no_records, no_list}
use Rattle.minidump_c.specs.Statuses.{status_of, after}
use Rattle.minidump_c.proofs.dump.opened.Goals as goal

pub returns : goal.returns
returns c =
    let d = c.args.directory in
    let of_bytes = c.new-dump.ensures in
    let threads = c.threads-threads.ensures.answer
    ∙ ap (λ (b : List ℕ). lists.threads b d) of_bytes in
    let modules = c.modules-modules.ensures.answer
    ∙ ap (λ (b : List ℕ). lists.modules b d) of_bytes in
    let ranges = c.memory_list-memory.ensures.answer
    ∙ ap (λ (b : List ℕ). memory.memory_list b d) of_bytes in
    let ranges64 = c.memory64_list-memory64.ensures.answer
    ∙ ap (λ (b : List ℕ). memory.memory64_list b d) of_bytes in
    let table = λ (r : Result (Option Table) DumpErr). after no_records r in
    let status = λ (r : Result (Option Table) DumpErr). status_of r in
    record {
      bytes = refl;
      threads = c.found_or.ensures ∙ ap table threads;
      modules = c.found_or-2.ensures ∙ ap table modules;
      memory = c.found_or-3.ensures ∙ ap table ranges;
      memory64 = c.found_or-4.ensures
          ∙ ap (λ (r : Result (Option Memory64List) DumpErr). after no_list r) ranges64;
      threads_status = c.status_of.ensures ∙ ap status threads;
      modules_status = c.status_of-2.ensures ∙ ap status modules;
      memory_status = c.status_of-3.ensures ∙ ap status ranges;
      memory64_status = c.status_of-4.ensures
          ∙ ap (λ (r : Result (Option Memory64List) DumpErr). status_of r) ranges64;
    }
