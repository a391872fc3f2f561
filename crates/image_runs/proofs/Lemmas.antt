-- The lemmas of the crates below that files of this crate cite.
pub use Rattle.c_resolved.proofs.SoundPrograms.{accepted_is_sound}
pub use Rattle.lowering_invariants.proofs.Lowered.{lowered_is_whole}
pub use Rattle.lowering_invariants.proofs.Ready.{continues}
pub use Rattle.lowering_invariants.proofs.Stacks.TurnStack.{all_at}
pub use Rattle.lowering_locals.proofs.AgreementSteps.{agreement_at_call, agreeing_are_small, agreement_continues, agreement_at_start}
pub use Rattle.template_code.proofs.Sizes.{template_sizes, sizes_append}
pub use Rattle.x64_templates.proofs.PlacedCode.{same_number, bytes_kept, enters_then, outside_page, bytes_split, spells, reads}
pub use Rattle.match_runs.proofs.Steps.{at_instruction, matched_step, steps_are_matched}
pub use Rattle.match_runs.proofs.Taken.{Takes, taken}
pub use Rattle.match_stack.proofs.ItemVisits.{set_head, frame_is_visited, leaf_is_visited, search_is_passed, unwinding_is_passed, stack_is_over}
pub use Rattle.match_bodies.proofs.Steps.BodyFrames.{told_by, told_with}
pub use Rattle.match_bodies.proofs.Steps.BodyResumption.{frame_size, frame_told}
pub use Rattle.match_bodies.proofs.Keeping.ChainKeeping.{Keeps, enters_keeps, stays_well_formed}
pub use Rattle.match_bodies.proofs.Prologues.FrameMaking.{making_steps}
pub use Rattle.match_bodies.proofs.Places.LabelPlaces.{label_near, template_there, code_ends}
pub use Rattle.match_bodies.proofs.Places.SlotPlaces.{stack_is_hidden}
pub use Rattle.match_bodies.proofs.Places.StackTop.{leaf_layout, OnTop, leaf_frame, framed_here, framed_top, leaf_top, body_on_top, one_entry}
pub use Rattle.match_bodies.proofs.Places.StackWords.{word_is, may_read_written, word_of}
pub use Rattle.match_bodies.proofs.Steps.StepNeeds.{label_in}
pub use Rattle.match_bodies.proofs.Templates.TemplateRuns.{get_or_is}
pub use Rattle.match_bodies.proofs.Templates.TemplateSizes.{template_some, first_in_code}
pub use Rattle.match_turns.proofs.Functions.FunctionLocals.{argument_is}
pub use Rattle.match_turns.proofs.Functions.FunctionParameters.{parameters_stay, arguments_arrive, number_unarrived, own_frame, IsOwn, roomy_own, fresh_own, parameters_soon}
pub use Rattle.match_turns.proofs.Functions.FunctionPrologue.{Made, planned_frame}
pub use Rattle.match_turns.proofs.Operations.OperationCode.{is_some, IsSome, template_is_at, some_finish}
pub use Rattle.image_link.proofs.Images.{images_are_small}
pub use Rattle.image_tables.proofs.FuncletNumbers.{sum_of, sum_from_one, sums_agree, counts, lowered_names_funclets}
pub use Rattle.image_tables.proofs.RegionRanges.{lowered_has_regions}
pub use Rattle.image_tables.proofs.Table.{is, tables_are_read}
pub use Rattle.text_bounds.proofs.StatementNesting.{resolved_is_shallow}
pub use Rattle.text_bounds.proofs.StepsPerTurn.{steps_per_turn_are_bounded}
pub use Rattle.image_states.proofs.Images.{images_are_programs}
pub use Rattle.image_states.proofs.Starting.{images_start, images_load}
