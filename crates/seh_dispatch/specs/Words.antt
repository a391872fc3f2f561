-- The words of this crate's proofs: what its lemma files import, by the crates below.
pub use Rattle.seh_num.specs.declared.end.RunEnd.{RunEnd}
pub use Rattle.seh_num.specs.declared.event.Event.{Event}
pub use Rattle.flat_memory.specs.Memory.{Memory, loaded}
pub use Rattle.eh_tables.specs.Tables.{Entry, Tables, entry_at, no_range, end_before, entries, entries_of, TablesAreWhole, holding}
unfoldable pub use Rattle.eh_tables.specs.Tables.{entry}
pub use Rattle.eh_tables.specs.declared.scope.ScopeRecord.{ScopeRecord}
pub use Rattle.x64_instr.specs.declared.register.Reg.TheVariants.{Rsp, Rcx, Rdx}
pub use Rattle.x64_machine.specs.Effect.{State, Answer, state, step_answer, cpu_after, memory_after, register}
unfoldable pub use Rattle.x64_machine.specs.Effect.{step}
pub use Rattle.x64_machine.specs.declared.cpu.Cpu.{Cpu}
pub use Rattle.virtual_unwind.specs.CallerOf.{Functions, distance, functions_of, entry_of}
pub use Rattle.seh_records.specs.declared.dispatch.DispatchRecord.{DispatchRecord}
pub use Rattle.host_model.specs.Dispatch.{raised, row_before, jumping, if_finally, accepted, if_placed, after_placing, rows_of, asked_row, searches_on, asks_at, asks_on, unwinds_on, place_of, unwound_locally}
pub use Rattle.host_model.specs.Funclets.{inserted, if_below, if_same, with_row, of_rows, of_entries, funclets, by_kind, if_here, arrivals, arrived}
pub use Rattle.host_model.specs.HostStep.{turned, after, returned, returning, over, host, Printed, printed, printed_of, walked, walked_by, walk_from}
unfoldable pub use Rattle.host_model.specs.HostStep.{turn}
pub use Rattle.host_model.specs.Turns.{Continues, Turn, Ends, stopped, with_event, shown_in}
pub use Rattle.host_model.specs.declared.funclet.Funclet.{Funclet}
pub use Rattle.seh_dispatch.specs.FuncletLists.{AreAscending, funclet_of, funclets_of, listed}
pub use Rattle.seh_dispatch.specs.Machines.{state_of}
pub use Rattle.seh_dispatch.specs.Marks.{AreMarked}
pub use Rattle.seh_dispatch.specs.PrintedSteps.{followed, shown_at}
pub use Rattle.seh_dispatch.specs.Outcomes.{back_of, led, turn_of, led_turn, made_turn, turn_made, silent, all_silent, all_told}
pub use Rattle.seh_dispatch.specs.TurnEnds.{left, over_if, over_cpu}
pub use Rattle.seh_dispatch.specs.declared.filter.TheConstants.{REMAINDERS}
pub use Rattle.seh_dispatch.specs.declared.machine.HostedProcessor.{HostedProcessor}
pub use Rattle.seh_dispatch.specs.declared.outcome.Made.{Made}
pub use Rattle.seh_dispatch.specs.declared.outcome.TurnMade.{TurnMade}
pub use Rattle.seh_dispatch.specs.declared.outcome.TurnMade.TheVariants.{Told, Walks}
