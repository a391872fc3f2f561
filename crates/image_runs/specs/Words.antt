-- The words of this crate's proofs: what its lemma files import, by the crates below.
pub use Rattle.seh_num.specs.Shown.{Shown}
pub use Rattle.seh_num.specs.declared.end.RunEnd.{RunEnd}
pub use Rattle.seh_num.specs.declared.width.Width.TheVariants.{W64, W8}
pub use Rattle.host_layout.specs.declared.range.TheConstants.{STACK_START, STACK_END}
pub use Rattle.flat_memory.specs.Memory.{Memory, next, may_write}
unfoldable pub use Rattle.flat_memory.specs.Memory.{number_at}
pub use Rattle.flat_memory.specs.declared.protection.Protection.{Protection}
pub use Rattle.c_checked.specs.Program.{Program, Function}
pub use Rattle.c_checked.specs.Sound.{IsSound, count_up}
pub use Rattle.source_meaning.specs.Meaning.{meaning, is_calm, Calm}
pub use Rattle.source_meaning.specs.Source.{is_hidden, first_memory}
pub use Rattle.source_meaning.specs.declared.ended.Ended.{Ended}
pub use Rattle.source_meaning.specs.declared.depth.TheConstants.{DEEPEST}
pub use Rattle.linear_code.specs.Program.{LinearProgram, LinearFunction, LinearBody, LinearFunclet, weight, depth_weight}
pub use Rattle.linear_code.specs.declared.instruction.Instruction.{Instruction}
pub use Rattle.linear_code.specs.declared.slot.Slot.{Slot}
pub use Rattle.linear_code.specs.declared.slot.Slot.TheVariants.{Local, Temporary}
pub use Rattle.linear_machine.specs.Frames.{weight_of, Waits, Configuration, Seen, Running, Finished, Next, last_temporaries, BodyName, FunctionBody, Frame, body_of, FuncletBody, function_body, Asked, FilterOf, VectoredAt, Item, Searches, Unwinds, Stuck}
unfoldable pub use Rattle.linear_machine.specs.Frames.{pick, with_some}
pub use Rattle.linear_machine.specs.Instructions.{act, begin_function, waiting}
pub use Rattle.linear_machine.specs.Run.{instruction_at, instruction_in, main_arguments, start, seen, linear_meaning}
unfoldable pub use Rattle.linear_machine.specs.Run.{exec}
pub use Rattle.seh_ir.specs.Lowered.{lowered, scope_of, all_locals, lowered_function, lowered_funclets, all_funclets}
pub use Rattle.lowering_follows.specs.StepsPerTurn.{steps_per_turn_of}
pub use Rattle.lowering_invariants.specs.Ready.{IsReady, CanContinue}
pub use Rattle.lowering_invariants.specs.Slots.{IsSmallFunclet, IsField, IsPlain}
pub use Rattle.lowering_locals.specs.Agreement.{AgreeOnSet, StepsAgree}
pub use Rattle.lowering_locals.specs.Alike.{AreAlike}
pub use Rattle.lowering_locals.specs.Marks.{Marks}
pub use Rattle.lowering_locals.specs.Reads.{ReadsNoUnset}
pub use Rattle.lowering_locals.specs.UnsetLaws.{called_with, started_with}
pub use Rattle.pe_write.specs.Program.{image_of, ImageContents, sizes_of, text_at, parts_of, CanBeImage}
pub use Rattle.eh_tables.specs.Tables.{Entry}
pub use Rattle.x64_instr.specs.declared.instruction.Instr.{Instr}
pub use Rattle.x64_instr.specs.declared.operand.RegisterOrMemory.{RegisterOrMemory}
pub use Rattle.x64_instr.specs.declared.register.Reg.TheVariants.{Rsp, Rax, Rcx, Rdx, Rbx, Rbp, Rsi, Rdi, R12, R13, R14, R15}
pub use Rattle.x64_encode.specs.Chosen.{chosen, is_encodable}
pub use Rattle.x64_machine.specs.Contexts.{context_of, kept_of}
pub use Rattle.x64_machine.specs.Effect.{State, register, effect, Answer, with_register, with_flags, read, operand, write, may_change, computed, change, compare, with_quotient, with_rip}
unfoldable pub use Rattle.x64_machine.specs.Effect.{step}
pub use Rattle.x64_machine.specs.declared.context.Context.{Context}
pub use Rattle.x64_machine.specs.declared.cpu.Cpu.{Cpu}
pub use Rattle.template_code.specs.Bytes.{sizes, spelled}
unfoldable pub use Rattle.template_code.specs.Bytes.{size}
pub use Rattle.template_code.specs.Calls.{parameters_code, stack_parameter}
pub use Rattle.template_code.specs.Slots.{fetch_local, local_at, fetch, operands_code, finish_code}
pub use Rattle.template_code.specs.Template.{template}
pub use Rattle.template_code.specs.declared.layout.Layout.{Layout}
pub use Rattle.template_code.specs.declared.layout.TheConstants.{FRAME_BY_WEIGHT, MOST_WEIGHT}
pub use Rattle.x64_templates.specs.EntryStates.{InRegisters, with_arguments, OnStack, IsFunctionFrame, body_in_memory}
pub use Rattle.x64_templates.specs.Epilogues.{IsReturn}
pub use Rattle.x64_templates.specs.Runs.{HasCode, Enters, ReachesBody}
pub use Rattle.x64_templates.specs.Straight.{machine, MachineView, OtherRegisters}
pub use Rattle.virtual_unwind.specs.CallerOf.{Functions, distance}
pub use Rattle.virtual_unwind.specs.Contexts.{rsp}
pub use Rattle.virtual_unwind.specs.Undone.{word}
pub use Rattle.host_model.specs.Funclets.{arrivals, funclets}
pub use Rattle.host_model.specs.HostStep.{host}
pub use Rattle.host_model.specs.Loading.{first_cpu}
unfoldable pub use Rattle.host_model.specs.Loading.{mapped}
pub use Rattle.host_model.specs.Machine.{machine_of}
unfoldable pub use Rattle.host_model.specs.Machine.{run}
pub use Rattle.host_model.specs.declared.funclet.Funclet.{Funclet}
pub use Rattle.match_runs.specs.Comes.{Comes, IsLive}
pub use Rattle.match_runs.specs.Ends.{HasRule, run_end_of}
pub use Rattle.match_runs.specs.Laws.{ShowsAll, ShowsNoMore, RunBegins}
pub use Rattle.match_runs.specs.Matched.{is_separator, separators, separators_in, separators_at, turns_ahead, Moves, Begins, Fails, IsMatched, IsTakenIf, IsTaken, StepIsMatched, Simulates}
pub use Rattle.match_runs.specs.Shadow.{AllKeep, caller_at}
pub use Rattle.match_stack.specs.DispatchStates.{IsWellFormed}
pub use Rattle.match_stack.specs.ImagePlan.{ImagePlan, InCode}
pub use Rattle.match_stack.specs.ItemMatches.{home_end, HoldsWords, Activation, BodyWaits, Linked, HasSpace, below_end, activations_below, temporaries_end, ReturnsTo, locals_of}
pub use Rattle.match_stack.specs.PlainWalks.{state}
pub use Rattle.match_stack.specs.Stack.{StackItem, Framed, Leaf, FrameIsAt, IsStack, StackFrame, Searching, Unwinding, after_frame, after_leaf, LeafIsAt}
pub use Rattle.match_stack.specs.WalkLaws.{context_below}
pub use Rattle.match_bodies.specs.Bodies.{turns_left, RepresentsAt, held_below, slots_end, last_temporary, InBody}
pub use Rattle.match_bodies.specs.BodyViews.{seen_by_templates, counts_of}
pub use Rattle.match_bodies.specs.CodeSites.{Sites, arguments_code, function_arguments, links_of}
pub use Rattle.match_bodies.specs.ConfigurationFacts.{IsKnown, KnownNext, IsWellMade}
pub use Rattle.match_bodies.specs.Layouts.{IsLayoutIf, IsFunctionLayout, IsLeafLayout}
pub use Rattle.match_bodies.specs.ProgramImages.{IsMachineMemory, IsProgramImage, HasProgram, IsResumed, IsFramed, frame_of, frame_at_label}
pub use Rattle.match_bodies.specs.StepLaws.{turns_per_step, IsWithinBody}
pub use Rattle.match_turns.specs.CallOutcome.{CallBegins, begun, FunctionsApart}
pub use Rattle.match_turns.specs.DispatchOutcome.{Represents, WorksOn}
pub use Rattle.image_link.specs.Linked.{text_begin, linked}
pub use Rattle.image_link.specs.Routines.{RoutineView, routines, all_spare, is_leaf, no_function}
pub use Rattle.image_link.specs.Text.{bounds}
pub use Rattle.image_tables.specs.FrameLaws.{stack_frame}
pub use Rattle.text_bounds.specs.StepsPerTurnLaws.{steps_per_turn_in, program_of}
pub use Rattle.image_states.specs.Compiled.{HasWholeImage, IsMember, IsFuncletSized}
pub use Rattle.image_states.specs.Plans.{functions_of, funclets_of, plan_of, sites_of, or_none, routine_of}
pub use Rattle.image_states.specs.StartLaws.{HasBytes}
pub use Rattle.image_runs.specs.AgreementStates.{RepresentsWhereSet}
pub use Rattle.image_runs.specs.ImageLaws.{LoweredIsCompiled, LoweredHasImage}
pub use Rattle.image_runs.specs.ImageMeaning.{IsImageOf, CompiledRealise, CompiledShowNothingMore}
pub use Rattle.image_runs.specs.InstructionStates.{IsWithinInstruction, ScratchOnlyHere}
pub use Rattle.image_runs.specs.LiveFrames.{WalkGives, back_to, AreFrames}
pub use Rattle.image_runs.specs.MainStart.{first_stack, MainBegins, IsFirst}
pub use Rattle.image_runs.specs.ReturnFrames.{IsReturning, ReturnsWait}
pub use Rattle.image_runs.specs.RunLaws.{AgreeingAreKnown, AgreementSimulates, ImagesShowAll, ImagesShowNoMore}
pub use Rattle.image_runs.specs.RunStates.{IsRunning, HasNextStep, Passes}
pub use Rattle.image_runs.specs.RunWalks.{IsOfProgram, ShowsFramesOf, PassesTheFrames}
pub use Rattle.image_runs.specs.ScratchInstructions.{is_free_place, scratch_only, is_free}
pub use Rattle.image_runs.specs.SoundImages.{IsSoundImage, IsLinkable}
pub use Rattle.image_runs.specs.WalkLaws.{BeginningsAreWithin, WalksGiveTheFramesWithin, LinkedReturnsWait, ScratchStepsStayWithin, WalksGiveTheFrames}
pub use Rattle.image_runs.specs.WalkedLaws.{RunsEndAsPrograms, RunsPassTheFrames}
