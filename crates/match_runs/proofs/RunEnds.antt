-- Runs of the machine past the turns that match a run of linear code.
use Rattle.std.proofs.Common.{◌≡◌, ℕ, suc, ◌+◌, ◌-◌, ◌≤◌, Some, List, ◌++◌, sym, ap, ◌∙◌, arith}
use Rattle.match_runs.specs.Words.{Shown, signed, RunEnd, Code, Event, W32, Rax, State, register, Functions, host, turn, run, Ends, Funclet, Finished, Seen, shown, IsLive, run_end_of}
use Rattle.seh_num.specs.declared.end.RunEnd.TheVariants as ends
use Rattle.source_meaning.specs.declared.ended.Ended.TheVariants as source
use Rattle.match_runs.proofs.Turns.{run_comes, run_returned, run_dies}
use Rattle.match_runs.proofs.MatchedRuns.{RunIsMatched}

-- what is shown, with an end of the machine
abbrev with_end : Seen → RunEnd → Shown RunEnd
with_end seen end = record { events = (shown seen).events; end = Some end }

-- a run of the machine has ended as linear code has, with the same events
pub record HasEnded (seen : Seen) (x : Shown RunEnd) : Type 0 where
  pub end : RunEnd
  pub same : x ≡ with_end seen end
  pub ends : run_end_of (shown seen).end ≡ Some end

module _ (t : Functions) (fs : List Funclet) where
  -- where the program has returned
  pub returned : (n : ℕ) (s : State) (events : List Event) (seen : Seen) → s.cpu.rip ≡ 0
      → seen ≡ Finished (source.Exit (signed W32 (register s.cpu Rax))) events
      → HasEnded seen (run t fs n (host s) events)
  returned n s events seen over is = record {
    end = ends.Exit (signed W32 (register s.cpu Rax));
    same = run_returned t fs n s events over
        ∙ ap (λ (x : Seen). with_end x (ends.Exit (signed W32 (register s.cpu Rax)))) (sym is);
    ends = ap (λ (x : Seen). run_end_of (shown x).end) is;
  }

  -- where the next turn is the last, since nobody handles an exception
  pub died : (n : ℕ) (s : State) (events last : List Event) (code : Code) (seen : Seen) → IsLive s
      → turn t fs s ≡ Ends last (ends.Unhandled code)
      → seen ≡ Finished (source.Unhandled code) (events ++ last)
      → HasEnded seen (run t fs (suc n) (host s) events)
  died n s events last code seen live dies is = record {
    end = ends.Unhandled code;
    same = run_dies t fs n s events last (ends.Unhandled code) live dies
        ∙ ap (λ (x : Seen). with_end x (ends.Unhandled code)) (sym is);
    ends = ap (λ (x : Seen). run_end_of (shown x).end) is;
  }

  -- a run is what it is from where those turns end
  pub run_from : (least most m : ℕ) (s : State) (out : List Event) (seen : Seen)
      (r : RunIsMatched t fs least most s out seen) → r.turns ≤ m
      → run t fs m (host s) out ≡ run t fs (m - r.turns) (host r.state) (out ++ r.events)
  run_from least most m s out seen r le =
      let split : m ≡ r.turns + (m - r.turns) = omega arith in
      ap (λ k. run t fs k (host s) out) split
      ∙ run_comes t fs r.turns (m - r.turns) s r.state out r.events r.comes
