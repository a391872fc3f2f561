-- The words of this crate's proofs: what its lemma files import, by the crates below.
pub use Rattle.seh_num.specs.Shown.{Shown}
pub use Rattle.seh_num.specs.Widths.{signed}
pub use Rattle.seh_num.specs.declared.end.RunEnd.{RunEnd}
pub use Rattle.seh_num.specs.declared.event.Code.{Code}
pub use Rattle.seh_num.specs.declared.event.Event.{Event}
pub use Rattle.seh_num.specs.declared.width.Width.TheVariants.{W32}
pub use Rattle.source_meaning.specs.Laws.{IsPrefixOf}
pub use Rattle.source_meaning.specs.Meaning.{is_calm}
pub use Rattle.linear_code.specs.Program.{LinearProgram, LinearBody, LinearFunction}
pub use Rattle.linear_code.specs.declared.instruction.Instruction.{Instruction}
pub use Rattle.linear_machine.specs.Frames.{body_of, Seen, Configuration, Finished, Running, Next, Stuck}
unfoldable pub use Rattle.linear_machine.specs.Frames.{with_some}
pub use Rattle.linear_machine.specs.Instructions.{act}
pub use Rattle.linear_machine.specs.Run.{shown, instruction_in, instruction_at, start, seen}
unfoldable pub use Rattle.linear_machine.specs.Run.{exec}
pub use Rattle.x64_instr.specs.declared.register.Reg.TheVariants.{Rax, Rsp}
pub use Rattle.x64_machine.specs.Effect.{State, register, Answer}
unfoldable pub use Rattle.x64_machine.specs.Effect.{step}
pub use Rattle.x64_machine.specs.declared.context.Context.{Context}
pub use Rattle.virtual_unwind.specs.CallerOf.{Functions, distance, CallerFrame}
pub use Rattle.host_model.specs.Funclets.{arrivals, arrived}
pub use Rattle.host_model.specs.HostStep.{host, Ended, over, turned, end_of}
unfoldable pub use Rattle.host_model.specs.HostStep.{turn}
pub use Rattle.host_model.specs.Machine.{or_turn, continued_by}
unfoldable pub use Rattle.host_model.specs.Machine.{run}
pub use Rattle.host_model.specs.Turns.{Ends, Continues}
pub use Rattle.host_model.specs.declared.funclet.Funclet.{Funclet}
pub use Rattle.match_runs.specs.Comes.{Comes, IsLive}
pub use Rattle.match_runs.specs.Ends.{HasRule, IsCalm, run_end_of}
pub use Rattle.match_runs.specs.Laws.{ShowsAll, ShowsNoMore, RunBegins, RunsShowAll, RunsShowNoMore, ProgramsShowAll, ProgramsShowNoMore, ProgramsWalkTheShadow, TurnsAreEnough}
pub use Rattle.match_runs.specs.Matched.{is_separator, separators, separators_in, separators_at, turns_ahead, Moves, Begins, IsMatched, IsTakenIf, IsTaken, StepsAreMatched, Fails, StepIsMatched, Simulates}
pub use Rattle.match_runs.specs.Shadow.{WalkGives, KeepsShadow, caller_at, if_below, drop_below, is_call, entered, calls_vectored, started, served, by_step, callers_of, GivesCallers, AllKeep}
unfoldable pub use Rattle.match_runs.specs.Shadow.{shadow_after}
