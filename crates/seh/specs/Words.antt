-- The words of this crate's proofs: what its lemma files import, by the crates below.
pub use Rattle.seh_num.specs.Shown.{Shown}
pub use Rattle.seh_num.specs.declared.end.RunEnd.{RunEnd}
pub use Rattle.seh_io.specs.Streams.{Faultless, Faulted, Grew, last_count}
pub use Rattle.seh_io.specs.Names.{no_names}
pub use Rattle.seh_io.specs.Text.{text, lines, end_line, ended}
pub use Rattle.seh_io.specs.Writer.{TookPart}
pub use Rattle.command_line.specs.declared.command.RunOptions.{RunOptions}
pub use Rattle.c_syntax.specs.Program.{ExternalDeclaration}
pub use Rattle.c_checked.specs.Program.{Program}
pub use Rattle.c_resolved.specs.Program.{resolve}
pub use Rattle.c_text.specs.Texts.{IsAccepted, TextIsRefused, IsCheckedAs}
pub use Rattle.source_meaning.specs.Meaning.{meaning}
pub use Rattle.source_meaning.specs.declared.ended.Ended.{Ended}
pub use Rattle.seh_ir.specs.Lowered.{lowered}
pub use Rattle.pe_image.specs.Image.{Image}
pub use Rattle.pe_image.specs.Reading.{IsImage, ImageIsRefused}
unfoldable pub use Rattle.pe_image.specs.Reading.{reading}
pub use Rattle.pe_image.specs.declared.refusal.ImageErr.{ImageErr}
pub use Rattle.host_model.specs.Machine.{machine_of}
unfoldable pub use Rattle.host_model.specs.Machine.{machine}
pub use Rattle.seh_host.specs.Running.{Running, first_running, run_of, running_of}
pub use Rattle.seh_host.specs.Turns.{end_within, taken_before}
pub use Rattle.match_runs.specs.Ends.{run_end, run_end_of}
pub use Rattle.image_link.specs.Linked.{linked}
pub use Rattle.seh.specs.Answers.{text_limit, image_limit, Judged, FromInput, Loads, IsInputAnswer, IsCompileAnswer, IsWrittenRun, IsRunAnswer, IsImageAnswer, IsTextRunAnswer, IsShowAnswer, end_by, text_by, IsRefusedLoad, shown_by, names_read, names_by, IsInput, LostFew, IsInputRefusal}
pub use Rattle.seh.specs.Calls.{Call, HadNoFault, Asks, Gave, WantedMemory, CompileIsComplete, RunIsComplete, MeaningIsComplete, ShowIsComplete, ExecIsComplete, TextsHaveOneImage, EndsWithin, GaveMeaning, LastLinesAgree, CompiledIsMeant, RunIsMeant}
pub use Rattle.seh.specs.Headline.{Headline, NothingMore, Walks, AreEnough, ShowsMeaning}
pub use Rattle.seh.specs.Images.{IsCompiled, IsTextRefusal, steps_per_turn}
pub use Rattle.seh.specs.Meanings.{IsProgramOf, IsMeaningAnswer, IsMeaningInputAnswer, shown_of, text_of, TookMeaningFront}
pub use Rattle.seh.specs.Refusals.{Reported, refusal_status, refusal_text}
pub use Rattle.seh.specs.SelftestLaws.{AsksSelftest, GaveSummary, SelftestReadsNothing, SelftestIsComplete, SelftestIsMeant, meant_summary}
pub use Rattle.seh.specs.Selftests.{IsSummaryAnswer, IsSelftestAnswer, events_line, selftest_options, summary, summary_by, summary_of}
pub use Rattle.seh.specs.Statuses.{status_of, meaning_status}
pub use Rattle.seh.specs.Streams.{Stream, stream, TookWhole}
pub use Rattle.seh.specs.declared.outcome.CommandOutcome.{CommandOutcome}
pub use Rattle.seh.specs.declared.outcome.CommandOutcome.TheVariants.{Compiled, Ran, Meant, Viewed}
pub use Rattle.seh.specs.declared.refusal.Refusal.{Refusal}
