-- The lemmas of the crates below that files of this crate cite.
pub use Rattle.x64_encode.proofs.Lengths.{longest}
pub use Rattle.template_code.proofs.Lengths.{compute_length, keep_length}
pub use Rattle.template_code.proofs.Sizes.{call_size, sizes_spelled, sizes_append, body_sizes, template_sizes, arrives, short, jump_if_zero_size, jump_size, call_code_size, passing_call_size}
pub use Rattle.x64_machine.proofs.Handlers.{step_keeps_vectored}
pub use Rattle.x64_templates.proofs.Chains.{all_turns, rest_of}
pub use Rattle.x64_templates.proofs.Computes.{code_split, compute_run, Begun, operands_run, Worked, work_run}
pub use Rattle.x64_templates.proofs.Encoded.{near, Fine}
pub use Rattle.x64_templates.proofs.Flows.{work_flow, separator_flow, jump_flow, keep_flow, operands_flow, information_flow, jump_if_zero_flow, IsFlow}
pub use Rattle.x64_templates.proofs.InstructionRuns.{instruction_run, LabelsNear}
pub use Rattle.x64_templates.proofs.PlacedCode.{thunk_encodable, Encodable, same_number, bytes_kept, outside_page, bytes_split, spells, reads, all_may}
pub use Rattle.match_runs.proofs.Shadows.{past_frame, straight, keep_first, HeadAbove, call_keeps, return_keeps, past_host, at_end, head_above, unique, none_below, one_below}
pub use Rattle.match_stack.proofs.ItemVisits.{set_head, frame_is_visited, leaf_is_visited, search_is_passed, unwinding_is_passed}
pub use Rattle.match_stack.proofs.ListEnds.{words_fit, places_fit, in_stack, end_within}
pub use Rattle.match_stack.proofs.ListKeeping.{reads_other, kept_by_other_memories}
pub use Rattle.match_stack.proofs.ListMemories.{ReadsSame, higher, frame_above, words_kept, places_kept, list_kept, frame_kept, leaf_kept, own_kept, frame_is_at, leaf_is_at, record_is_at}
pub use Rattle.match_stack.proofs.StackKeeping.{record_same, rises, kept_by_other_stores, nothing_below_is_owned}
pub use Rattle.match_stack.proofs.ContextWidths.{wide_of}
pub use Rattle.frame_rules.proofs.Undoing.{word-is}
pub use Rattle.match_stack.proofs.FrameWords.{told_depth, owned_low as frame_low, eight_numbers}
pub use Rattle.match_stack.proofs.AllocatedFrames.{is_word, others_same, rest_numbers}
