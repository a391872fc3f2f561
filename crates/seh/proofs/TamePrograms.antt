-- Of a Tame program each number of turns is matched by calm steps.
use Rattle.std.proofs.Common.{◌≡◌, ◌≤◌, ◌+◌, ◌*◌, ℕ, pos, Option, Some, None, refl, subst, arith}
use Rattle.seh.specs.Words.{RunEnd, machine, end_within, Ended, meaning, resolve, run_end_of, steps_per_turn}
use Rattle.seh_num.specs.declared.end.RunEnd.TheVariants as ends
use Rattle.source_meaning.specs.declared.ended.Ended.TheVariants as meant
use Rattle.seh.specs.TamePrograms.{IsNoFailure, TameProgramsWalk, TameProgramsEnd}

itself : (n : ℕ) → n ≤ n
itself n = omega arith

-- an end of a program is no failure
of_program : (o : Option Ended) (e : RunEnd) → run_end_of o ≡ Some e → IsNoFailure e
of_program None e h = let q : None ≡ Some e = h in absurd cc
of_program (Some (meant.Exit v)) e h =
    let same : ends.Exit v ≡ e = cc in
    subst IsNoFailure same (record { no_limit = λ a q. cc; no_stop = λ why a q. cc })
of_program (Some (meant.Unhandled c)) e h =
    let same : ends.Unhandled c ≡ e = cc in
    subst IsNoFailure same (record { no_limit = λ a q. cc; no_stop = λ why a q. cc })
of_program (Some (meant.Undefined a)) e h = let q : None ≡ Some e = h in absurd cc
of_program (Some (meant.Deep d)) e h = let q : None ≡ Some e = h in absurd cc
of_program (Some (meant.OutOfSteps n)) e h = let q : None ≡ Some e = h in absurd cc

-- nor is want of turns
within :
    (turns : ℕ) (o : Option Ended) (end : Option RunEnd)
    → ((e : RunEnd) → end ≡ Some e → run_end_of o ≡ Some e)
    → IsNoFailure (end_within turns end)
within turns o None as_program = record { no_limit = λ a q. cc; no_stop = λ why a q. cc }
within turns o (Some e) as_program = of_program o e (as_program e refl)

pub tame_programs_walk : TameProgramsWalk
tame_programs_walk source image compiled arg turns low tame none =
    let n = (turns + 1) * steps_per_turn source in
    compiled.walks arg turns n low (itself n) (tame n) none

pub tame_programs_end : TameProgramsEnd
tame_programs_end source image compiled arg turns low tame =
    let n = (turns + 1) * steps_per_turn source in
    let no_more = compiled.no_more arg turns n low (itself n) (tame n) in
    let meant_end = (meaning (resolve source compiled.whole).program (pos arg) n).end in
    within turns meant_end (machine image (pos arg) turns).end (λ e is. (no_more.ends e is).0)
