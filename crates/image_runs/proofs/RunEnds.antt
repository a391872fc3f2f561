-- A run of a compiled image ends only as its program does.
use Rattle.std.proofs.Common.{◌≡◌, Option, Some, None, subst}
use Rattle.image_runs.specs.Words.{RunEnd, Ended, run_end_of, IsOfProgram, RunsEndAsPrograms}
use Rattle.seh_num.specs.declared.end.RunEnd.TheVariants as ends
use Rattle.source_meaning.specs.declared.ended.Ended.TheVariants as source
use Rattle.image_runs.proofs.ImageMeaning.{compiled_show_nothing_more}

same_end : (a e : RunEnd) → Some a ≡ Some e → a ≡ e
same_end a e h = cc

-- the meaning has no other ends that a run may have
pub of_meaning : (o : Option Ended) (e : RunEnd) → run_end_of o ≡ Some e → IsOfProgram e
of_meaning None e h = absurd cc
of_meaning (Some (source.Exit v)) e h = subst IsOfProgram (same_end (ends.Exit v) e h) tt
of_meaning (Some (source.Unhandled code)) e h = subst IsOfProgram
    (same_end (ends.Unhandled code) e h) tt
of_meaning (Some (source.OutOfSteps n)) e h = absurd cc
of_meaning (Some (source.Undefined a)) e h = absurd cc
of_meaning (Some (source.Deep d)) e h = absurd cc

pub runs_end_as_programs : RunsEndAsPrograms
runs_end_as_programs program l reads bytes w arg m n lt enough_steps calm e end =
    let x = compiled_show_nothing_more program l reads bytes w arg m n lt enough_steps calm in
    of_meaning _ e (x.ends e end).0
