-- Whole programs, from the first turn of the machine on.
use Rattle.std.proofs.Common.{◌≡◌, ℕ, ◌+◌, ◌-◌, ◌*◌, List, [], sym, ap, subst, arith}
use Rattle.std.specs.Prelude.{Option, ℤ}
use Rattle.match_runs.specs.Words.{turns_ahead, State, Functions, Funclet, LinearProgram, LinearFunction, Configuration, with_some, exec, start, seen, HasRule, RunBegins, RunsShowAll, RunsShowNoMore, ProgramsShowAll, ProgramsShowNoMore, ProgramsWalkTheShadow, TurnsAreEnough}
use Rattle.match_runs.proofs.MatchedRuns.{RunIsPaid, silent_before, matched_run}
use Rattle.match_runs.proofs.All.{shows_all}
use Rattle.match_runs.proofs.NoMore.{shows_no_more}
use Rattle.match_runs.proofs.Shadowed.{walks_the_shadow}

pub all : RunsShowAll
all t fs program turns_per_step credit n turns s c steps rule enough =
    shows_all t fs n (turns_per_step * n + credit c - turns_ahead program turns_per_step c) turns s
    c.events (exec program n c)
    (matched_run t fs program turns_per_step credit n s c steps rule).run (omega arith)

pub no_more : RunsShowNoMore
no_more t fs program turns_per_step credit m n s c steps calm fewer =
    shows_no_more t fs n (turns_per_step * n + credit c - turns_ahead program turns_per_step c) m s
    c.events (exec program n c)
    (matched_run t fs program turns_per_step credit n s c steps calm.rule).run calm fewer

-- ---- from the first turn on

module _ (t : Functions) (fs : List Funclet) (program : LinearProgram) (turns_per_step : ℕ)
    (credit : Configuration → ℕ) (arg : ℤ) (first n : ℕ) (s : State)
    (b : RunBegins t fs program turns_per_step credit arg first s n) where
  -- the run of linear code
  from_main : seen program arg n ≡ exec program n (start program arg b.main)
  unfolding with_some
  from_main = ap (λ (o : Option LinearFunction). with_some [] o
      (λ main. exec program n (start program arg main))) b.is_main

  -- turns of the machine match a program's run
  program_run : HasRule (seen program arg n)
      → RunIsPaid t fs n (first + turns_per_step * n) 0 s [] (seen program arg n)
  program_run rule =
      let none = b.no_credit in
      let few = b.few in
      let c = start program arg b.main in
      subst (RunIsPaid t fs n (first + turns_per_step * n) 0 s []) (sym from_main)
      (silent_before t fs b.turns n (turns_per_step * n + credit c)
      (turns_ahead program turns_per_step c) n (first + turns_per_step * n) 0 s b.state []
      (exec program n c) (omega arith) (omega arith) b.comes
      (matched_run t fs program turns_per_step credit n b.state c b.steps
      (subst HasRule from_main rule)))

pub programs_all : ProgramsShowAll
programs_all t fs program turns_per_step credit arg first n turns s b rule enough =
    shows_all t fs n (first + turns_per_step * n - 0) turns s [] (seen program arg n)
    (program_run t fs program turns_per_step credit arg first n s b rule).run (omega arith)

pub programs_no_more : ProgramsShowNoMore
programs_no_more t fs program turns_per_step credit arg first m n s b calm fewer =
    shows_no_more t fs n (first + turns_per_step * n - 0) m s [] (seen program arg n)
    (program_run t fs program turns_per_step credit arg first n s b calm.rule).run calm fewer

pub programs_walk_the_shadow : ProgramsWalkTheShadow
programs_walk_the_shadow t fs program turns_per_step credit arg first m n s cs b calm fewer walk
    none =
    walks_the_shadow t fs n (first + turns_per_step * n - 0) m s cs [] (seen program arg n)
    (program_run t fs program turns_per_step credit arg first n s b calm.rule).run calm fewer walk
    none

pub enough : TurnsAreEnough
enough n first le = omega arith
