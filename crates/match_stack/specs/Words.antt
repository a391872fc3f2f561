-- The words of this crate's proofs: what its lemma files import, by the crates below.
pub use Rattle.seh_num.specs.Widths.{low, half, limit, signed}
pub use Rattle.seh_num.specs.declared.event.Code.{Code}
pub use Rattle.seh_num.specs.declared.event.Event.{Event}
pub use Rattle.seh_num.specs.declared.width.Width.TheVariants.{W32}
pub use Rattle.host_layout.specs.declared.range.TheConstants.{STACK_END, STACK_START}
pub use Rattle.flat_memory.specs.Memory.{Memory, with_bytes, may_read, access, may_write, next, is_among, unless_refused}
unfoldable pub use Rattle.flat_memory.specs.Memory.{first_refused, number_at, with_number, executable}
pub use Rattle.flat_memory.specs.Protections.{is_readable, is_writable}
pub use Rattle.flat_memory.specs.declared.protection.Protection.{Protection}
pub use Rattle.source_meaning.specs.Raises.{noncontinuable, raise_event}
pub use Rattle.source_meaning.specs.State.{Exception}
pub use Rattle.linear_code.specs.Program.{LinearProgram}
pub use Rattle.linear_code.specs.declared.program.Region.{Region}
pub use Rattle.linear_code.specs.declared.program.RegionKind.{RegionKind}
pub use Rattle.linear_machine.specs.Frames.{Item, Searches, Unwinds, Frame, Waits, Handler, Resumption, Asked, FilterOf, VectoredAt, Configuration, Next, BodyName, Target, Store, Seen, FunctionBody, FuncletBody, body_of, with_function, functions_in}
unfoldable pub use Rattle.linear_machine.specs.Frames.{pick}
pub use Rattle.linear_machine.specs.Regions.{handlers, holds, handlers_in, regions_of, handlers_of, leads_to, stops}
pub use Rattle.linear_machine.specs.Searching.{accept, raise, resumed, consult, ask_at, ask_from, vectored_answered}
pub use Rattle.linear_machine.specs.Unwinding.{left_store, unwind_body, arrive, run_finally, leave_region, target_past}
pub use Rattle.eh_tables.specs.Infos.{Info}
pub use Rattle.eh_tables.specs.Tables.{Entry}
pub use Rattle.eh_tables.specs.declared.scope.ScopeRecord.{ScopeRecord}
pub use Rattle.x64_instr.specs.declared.instruction.Instr.{Instr}
pub use Rattle.x64_instr.specs.declared.register.Reg.TheVariants.{Rcx, Rsp, Rax, Rdx}
pub use Rattle.x64_machine.specs.Contexts.{context_of}
pub use Rattle.x64_machine.specs.Effect.{State, register}
pub use Rattle.x64_machine.specs.declared.context.Context.{Context}
pub use Rattle.x64_machine.specs.declared.cpu.Cpu.{Cpu}
pub use Rattle.template_code.specs.declared.layout.Layout.{Layout}
pub use Rattle.virtual_unwind.specs.CallerOf.{Functions, distance, CallerFrame, base_if, found, in_body, by_distance, past_prologue, of_entry, rising, risen}
unfoldable pub use Rattle.virtual_unwind.specs.CallerOf.{caller_in}
pub use Rattle.virtual_unwind.specs.Contexts.{get, rsp, rsp_raised}
pub use Rattle.virtual_unwind.specs.Tail.{FetchedInstr, item_of, from_item}
unfoldable pub use Rattle.virtual_unwind.specs.Tail.{tail_at, fetched_at, tail}
pub use Rattle.virtual_unwind.specs.Undone.{word, readable, Answer, popped, operations}
pub use Rattle.seh_records.specs.Laws.{RecordFits, AllSmall, AreBytes}
pub use Rattle.seh_records.specs.Record.{return_address_at, place_below}
unfoldable pub use Rattle.seh_records.specs.Record.{placed, misplaced, words, fetched}
pub use Rattle.seh_records.specs.Words.{block_byte, byte_of}
unfoldable pub use Rattle.seh_records.specs.Words.{with_block}
pub use Rattle.seh_records.specs.declared.dispatch.DispatchRecord.{DispatchRecord}
pub use Rattle.seh_records.specs.declared.dispatch.Kind.{Kind}
pub use Rattle.seh_records.specs.declared.layout.TheConstants.{RECORD_SIZE, PLACED_SIZE}
pub use Rattle.seh_walk.specs.Asked.{AskedRecord, holding, rows_from, is_end, unwound, until, until_if, first_with_jump_target, first_finally, is_searched, is_unwound, asked_by, searched}
pub use Rattle.seh_walk.specs.Walk.{filter_return, finally_return, vectored_return, is_search, is_unwinding, is_vectored, walk_in, steps, if_over, if_filter, framed, past_filter, past_finally, past_vectored, if_kind, above, if_above, saved_in, continue_walk}
unfoldable pub use Rattle.seh_walk.specs.Walk.{visited}
pub use Rattle.seh_walk.specs.declared.walk.WalkState.{WalkState}
pub use Rattle.seh_search.specs.Search.{by_handler, chosen}
unfoldable pub use Rattle.seh_search.specs.Search.{search}
pub use Rattle.seh_search.specs.declared.search_result.SearchResult.{SearchResult}
pub use Rattle.seh_unwind.specs.Unwind.{if_past, by_row, if_target}
unfoldable pub use Rattle.seh_unwind.specs.Unwind.{unwind}
pub use Rattle.seh_unwind.specs.declared.unwind_result.UnwindResult.{UnwindResult}
pub use Rattle.host_model.specs.Dispatch.{if_placed, unwinds_on, row_before, entered, in_hand, place_of, parameters, count, new_record, if_finally, accepting, accepted, again, searching, asks_at, asks_on, to_target, jumping, searches_on, eax, filter_returned, if_searching, vectored_returned, if_vectored, by_vectored_answer, restored, by_answer, by_sign, continued, rows_of, after_search, landed, at_landing, by_purpose, after_unwind}
pub use Rattle.host_model.specs.Funclets.{arrived, arrivals}
pub use Rattle.host_model.specs.Turns.{with_event, Turn, Continues, Ends}
pub use Rattle.host_model.specs.declared.funclet.Funclet.{Funclet}
pub use Rattle.match_stack.specs.ControlAddresses.{control_addresses, number_of, NumbersFunctions, ControlsAreOfTheList, ControlAddressesAreOfFunctions}
pub use Rattle.match_stack.specs.DispatchStates.{IsWellFormed, host_list}
pub use Rattle.match_stack.specs.AskLaws.{HandlersAreSmall, IsAsking, HandlerBegins, SearchFollows, AskTurns}
pub use Rattle.match_stack.specs.VectoredReturns.{vectored_turn, at_next, linear_vectored, HandlerHasAnswered, AsksOn, ContinuesSaved, AsksAnew, HandlerReturned, VectoredReturns}
pub use Rattle.match_stack.specs.DispatchSteps.{placed_in, AsksHost, IsException, RaiseAsks, LocalUnwindUnwinds, AcceptanceUnwinds, AnswersContinue, FinallyReturnsUnwind, SearchIsAnswered, AnswersAs}
pub use Rattle.match_stack.specs.FrameHandlers.{NoHandler, FirstHandler, NoBlock, Arrives, FirstBlock}
pub use Rattle.match_stack.specs.HostSearch.{IsWide, FindsHandler, SearchedAs, CanBeKept, Asks, Accepts}
pub use Rattle.match_stack.specs.HostUnwind.{store_of, Course, RunsBlock, UnwoundAs, on_top, Lands}
pub use Rattle.match_stack.specs.ImagePlan.{ImagePlan, IsFlagged, InCode, IsHandlerRow, IsOfKind, AreRegions, HasRows, HasNoRows, Gives, AllFinally, AllExcept, IsFinallyRow, target_rva, IsFunclet, IsEntryOf, HasEntries, IsGiven}
pub use Rattle.match_stack.specs.ItemMatches.{Activation, HasSpace, below_end, record_room, Onward, Linked, Reaches, activations_below, HoldsWords, IsInPlace, HoldsPlaces, temporaries_end, HasActivation, FrameWaits, LeafWaits, regions_from, IsAtRow, Aimed, Leads, home_end, HasPointers, BodyWaits, IsOwnRecord, IsActivation, locals_of, IsAbove, AimedHere, HasPurpose, ResumesFrom}
pub use Rattle.match_stack.specs.ListLaws.{IsLinkedStack, KeepsAbove, left_from, SearchFindsTheHandlers, UnwindingRunsTheBlocks, UnwindingStopsAtTheTarget, KeptByStoresBelow, KeptByOtherMemories, IsInstruction}
pub use Rattle.match_stack.specs.PlainWalks.{state, chosen_or, asked_row, plain_search, decided_or, plain_unwind}
pub use Rattle.match_stack.specs.RecordLaws.{RecordLeavesTheList, SearchIsOneMore, UnwindingIsOneMore, PushedRecordLeavesOthers, ReturnAddressIsPushed}
pub use Rattle.frame_rules.specs.Frame.{IsWord}
pub use Rattle.match_stack.specs.Stack.{is_asking, answer_return, teller, telling, told, IsChain, IsFragment, at_entry, IsAsTold, StackFrame, FrameIsAt, LeafIsAt, after_frame, after_leaf, StackItem, Searching, Unwinding, Framed, Leaf, IsStack, caller_frame, caller_of_leaf, RecordIsAt, IsBetween, Owned, ItemIsAt, OwnedBy, context_after, context_at}
pub use Rattle.match_stack.specs.StackRecords.{On, RecordHasRoom, IsData, pushed, IsUntouched}
pub use Rattle.match_stack.specs.TurnLaws.{IsSearching, SearchTurns, IsUnwinding, UnwindTurns}
pub use Rattle.match_stack.specs.WalkLaws.{context_below, FrameIsVisited, LeafIsVisited, SearchIsPassed, UnwindingIsPassed, StackIsOver, SearchIsOfTheList, UnwindingIsOfTheList, CanBePlaced, RecordIsOneMore, KeptByOtherStores, NothingBelowIsOwned, SlotsAreFree}
