-- The lemmas of the crates below that files of this crate cite.
pub use Rattle.flat_memory.proofs.Stores.{untouched, stored_is_loaded}
pub use Rattle.x64_encode.proofs.Lengths.{longest}
pub use Rattle.template_code.proofs.Lengths.{keep_length, compute_length, before_length}
pub use Rattle.template_code.proofs.Sizes.{sizes_append, call_size, template_sizes, passing_call_size, offset_next, address_size, short, call_code_size}
pub use Rattle.x64_templates.proofs.Calls.{call_begins}
pub use Rattle.x64_templates.proofs.Cells.{put, slot_high, fetch_does}
pub use Rattle.x64_templates.proofs.Computes.{code_split, Reached, runs_view, finish_run, Begun, operands_run}
pub use Rattle.x64_templates.proofs.Encoded.{fetch_fine, Fine, near, none_taking, finish_fine}
pub use Rattle.x64_templates.proofs.Entries.{number_small, beside, pushed_agrees, pushed_bytes, pushed_back}
pub use Rattle.x64_templates.specs.Prologues.{Within}
pub use Rattle.x64_templates.proofs.Ranges.{within_then, within_cell, within_keeps_code, within_agrees}
pub use Rattle.x64_templates.proofs.Flows.{keep_flow}
pub use Rattle.x64_templates.proofs.FuncletEntries.{pointers_kept, flag_run}
pub use Rattle.x64_templates.proofs.Funclets.{HasCell, keeps_of_cell, base_kept}
pub use Rattle.x64_templates.proofs.Information.{information_run, field_number}
pub use Rattle.x64_templates.proofs.Operands.{performed_same}
pub use Rattle.x64_templates.proofs.Parameters.{kept_at, keeps_register}
pub use Rattle.x64_templates.proofs.PlacedCode.{reaches_then, bytes_kept, same_number, all_may, enters_then, bytes_split, spells, reads, load_at}
pub use Rattle.x64_templates.proofs.Returns.{return_run, call_ends}
pub use Rattle.x64_templates.proofs.Services.{thunk_reaches, pushed_thunk}
pub use Rattle.x64_templates.proofs.Straight.{executes_then, executes_nothing, executes_one}
pub use Rattle.x64_templates.proofs.Unwinds.{with_two, FinallyCalled, finally_begins, local_unwind_begins}
pub use Rattle.match_runs.proofs.Matches.{fails_at_once, silently_before, silently_after, matched_as, matched_after, matched_slower}
pub use Rattle.match_runs.proofs.Shadows.{none_below, none_started, handler_started, straight, keep_first, host_keeps, fault_keeps, one_below}
pub use Rattle.match_runs.proofs.Turns.{comes_then, comes_one, comes_nowhere}
pub use Rattle.match_stack.proofs.ControlAddresses.{controls_are_of_the_list, control_addresses_are_of_functions}
pub use Rattle.match_stack.proofs.DispatchSteps.{answers_continue, finally_returns_unwind, raise_asks, local_unwind_unwinds, acceptance_unwinds}
pub use Rattle.match_stack.proofs.FuncletEntry.{set_small, few_items}
pub use Rattle.match_stack.proofs.HostRegisters.{nine_numbers}
pub use Rattle.match_stack.proofs.ListEnds.{end_within, in_stack}
pub use Rattle.match_stack.proofs.ListKeeping.{reads_other, kept_by_other_memories, reaches_above, kept_by_stores_below}
pub use Rattle.match_bodies.proofs.Places.ActivationPlaces.{locals_count, got_before, got_last, activations_are_at}
pub use Rattle.match_bodies.proofs.Places.ActivationStores.{same_activations, activated}
pub use Rattle.match_bodies.proofs.Walks.BodyCallers.{gives_caller, begin_finds}
pub use Rattle.match_bodies.proofs.Steps.BodyFrames.{locals_own, body_owed, frame_from, frame_owed, frame_stays, frame_with, slots_within, small_others}
pub use Rattle.match_bodies.proofs.Steps.BodyResumption.{IsFront, waits_in_body, all_front, no_front}
pub use Rattle.match_bodies.proofs.Steps.BodyViews.{IsCounted, locals_small, sp_low, frame_top, room_here, holds_here, slots_here, AsFunction, AsFunclet, kind, is_machine, locals_here}
pub use Rattle.match_bodies.proofs.Keeping.CallKeeping.{calls_keep, CalleeBegins, callee_begins, thunk_keeps}
pub use Rattle.match_bodies.proofs.Keeping.ChainKeeping.{reaches_keeps, stays_well_formed, Keeps, keeps_then, enters_keeps}
pub use Rattle.match_bodies.proofs.Steps.ComputeStep.{stored, writes, leaves_stored, fits_when_read}
pub use Rattle.match_bodies.proofs.Keeping.EntryKeeping.{arguments_plain, plain_both, passing_plain, parameters_steady, entry_ran, kept_plain, EntryRan, base_plain}
pub use Rattle.match_bodies.proofs.Prologues.FrameMaking.{making_steps}
pub use Rattle.match_bodies.proofs.Prologues.PlannedPrologues.{frame_there}
pub use Rattle.match_bodies.proofs.Steps.InstructionEffects.{others_of}
pub use Rattle.match_bodies.proofs.Steps.NextInstruction.{represents_next, new_on, further}
pub use Rattle.match_bodies.proofs.Places.NextSlots.{Ran, frame_after}
pub use Rattle.match_bodies.proofs.Places.LocalPlaces.{places_are, place_of_local, leaves_same, leaves_set}
pub use Rattle.match_bodies.proofs.Walks.OwedCallers.{finds_return, frame_is_owed, owed_return, owed_with, returns_alone}
pub use Rattle.match_bodies.proofs.Steps.PlainSteps.{GoesInside, from_here, label_small, moves_to, at_other, reached_here, is_read}
pub use Rattle.match_bodies.proofs.Keeping.ProgramKeeping.{program_stays, KeepsImage}
pub use Rattle.match_bodies.proofs.Walks.ReturnAddresses.{label_found, argument_found}
pub use Rattle.match_bodies.proofs.Places.LabelPlaces.{template_there, label_near, end_near, code_ends, address_next}
pub use Rattle.match_bodies.proofs.Walks.RoutineWalks.{reaches_steps, StepsTo, steps_split, keeps_split, AllPlain, AllSteady, plain_steady, enters_steps, read_here, Beneath, beneath_by, callers_above, gives_above, Finds, ran}
pub use Rattle.match_bodies.proofs.Walks.SilentTurns.{none_inside, reaches_silently, enters_silently, program_reaches, KeepsCode, program_kept, reaches_comes, funclet_makes, silent_here}
pub use Rattle.match_bodies.proofs.Places.HiddenBytes.{IsSaid, said_of_hidden, pointer_is_seen}
pub use Rattle.match_bodies.proofs.Places.SlotPlaces.{KeepsSlot, stack_is_hidden, SlotsPlaced}
pub use Rattle.match_bodies.proofs.Places.SlotWrites.{locals_after, temporaries_after, FitsAfter, one_more, set_length, local_after}
pub use Rattle.match_bodies.proofs.Places.StackTop.{body_on_top, OnTop}
pub use Rattle.match_bodies.proofs.Walks.StackWalks.{on_stack, stack_rises, keep_then}
pub use Rattle.match_bodies.proofs.Places.StackWords.{may_read_written, word_is, word_of}
pub use Rattle.match_bodies.proofs.Steps.StepNeeds.{askable_here, some_is, counted_here, code_at, label_in, body_there, owned_count, leaf_or_funclet, owner_waits, ready_here, held_here, goes_inside, around_here}
pub use Rattle.match_bodies.proofs.Keeping.TemplateKeeping.{information_keeps, finish_keeps, operands_keep}
pub use Rattle.match_bodies.proofs.Places.ArrivedParameters.{each}
pub use Rattle.match_bodies.proofs.Templates.TemplateRuns.{v, frame, slots, same_state, template_here, has_slots, sp_is, next_address, code_end, base, code, y, silent_at, Surroundings, get_or_is}
pub use Rattle.match_bodies.proofs.Templates.TemplateShadows.{kept_by_view, is_here, is_after, ends_at, RunsKeep, one_piece, caller_here, beyond_here, ends_gives, IsPast, past_ends, kept_here, Below}
pub use Rattle.match_bodies.proofs.Templates.TemplateSizes.{template_some, first_in_code}
pub use Rattle.match_bodies.proofs.Templates.TemplateSlots.{Leaves}
