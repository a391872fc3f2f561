-- A run that is matched step by step passes a state for each step.
use Rattle.std.proofs.Common.{◌≡◌, inl, inr, ℕ, zero, suc, ◌+◌, List, [], Some, sym, subst, ◌∙◌, arith}
use Rattle.std.proofs.lemmas.List.{append-nil}
use Rattle.image_runs.specs.Words.{State, Functions, Funclet, Instruction, LinearProgram, Configuration, Seen, Running, Finished, Stuck, act, instruction_at, exec, HasRule, turns_ahead, Begins, IsMatched, Simulates, IsRunning, HasNextStep, Passes}
use Rattle.match_runs.proofs.Matches.{silently_after}
use Rattle.image_runs.proofs.Lemmas.{at_instruction, matched_step, Takes, taken}

running_has_rule : (x : Seen) → IsRunning x → HasRule x
running_has_rule (Running es) h = tt
running_has_rule (Finished e es) h = absurd h
running_has_rule (Stuck es) h = absurd h

module _ (t : Functions) (fs : List Funclet) (program : LinearProgram) (turns_per_step : ℕ)
    (credit : Configuration → ℕ) (R : ℕ → State → Configuration → Type 0)
    (Holds : State → Configuration → Type 0)
    (simulates : Simulates t fs program turns_per_step credit R)
    (holds : (n : ℕ) (s : State) (c : Configuration) → R n s c → Holds s c) where
  module _ (n : ℕ) (s : State) (c : Configuration) (i : Instruction)
      (at : instruction_at program c ≡ Some i)
      (rest : (u : State) (d : Configuration) → R n u d → IsRunning (exec program n d)
      → Passes t fs program turns_per_step credit Holds n u d)
      (running : IsRunning (act program i (exec program n) c)) where
    abbrev Goal : Type 0
    Goal = HasNextStep t fs program turns_per_step credit
        (Passes t fs program turns_per_step credit Holds n) s c

    plainly : turns_ahead program turns_per_step c ≡ 0
        → IsMatched t fs program turns_per_step credit (R n) s c i → Goal
    plainly none (inl v) = record {
      turns = v.turns;
      some = v.some;
      configuration = v.configuration;
      few = (let few = v.few in omega arith);
      state = v.state;
      events = v.events;
      comes = v.comes;
      shown = v.shown;
      continues = λ k. at_instruction program k c i at ∙ v.acts (exec program k);
      rest = rest v.state v.configuration v.is_there
          (subst IsRunning (v.acts (exec program n)) running);
    }
    plainly none (inr (inl v)) = absurd (subst IsRunning (v.acts (exec program n)) running)
    plainly none (inr (inr (inl v))) = absurd (subst IsRunning (v.acts (exec program n)) running)
    plainly none (inr (inr (inr v))) = absurd (subst IsRunning (v.acts (exec program n)) running)

    -- a function begins: after what the step shows its turns show nothing
    begun : turns_ahead program turns_per_step c ≡ 0
        → Begins t fs program turns_per_step credit (R n) s c i → Goal
    begun none v = record {
      turns = v.first + v.turns;
      some = v.some;
      configuration = v.configuration;
      few = (let few = v.few in omega arith);
      state = v.state;
      events = v.events;
      comes = silently_after t fs v.first v.turns s v.middle v.state v.events v.shows v.comes;
      shown = v.shown;
      continues = λ k. at_instruction program k c i at ∙ v.acts (exec program k);
      rest = rest v.state v.configuration v.is_there
          (subst IsRunning (v.acts (exec program n)) running);
    }

    step : Takes t fs program turns_per_step credit (R n) s c i → Goal
    step (inl m) = elim m.1 [ inl v ↦ plainly m.0 v | inr v ↦ begun m.0 v ]
    step (inr v) = record {
      turns = v.turns;
      some = v.some;
      configuration = v.configuration;
      few = v.few;
      state = v.state;
      events = [];
      comes = v.comes;
      shown = v.shown ∙ sym (append-nil c.events);
      continues = λ k. at_instruction program k c i at ∙ v.acts (exec program k);
      rest = rest v.state v.configuration v.is_there
          (subst IsRunning (v.acts (exec program n)) running);
    }

  -- where the relation gives that something holds, it holds in a state for each step
  pub passes : (n : ℕ) (s : State) (c : Configuration) → R n s c → IsRunning (exec program n c)
      → Passes t fs program turns_per_step credit Holds n s c
  passes zero s c r running = holds zero s c r
  passes (suc n) s c r running =
      let x = matched_step t fs program turns_per_step credit (R n) n s c
      (simulates.steps n s c r) (running_has_rule (exec program (suc n) c) running) in (
        holds (suc n) s c r,
        step n s c x.instruction x.at (λ u d. passes n u d) (subst IsRunning
            (at_instruction program n c x.instruction x.at) running)
            (taken t fs program turns_per_step credit (R n) s c x.instruction x.at x.matched),
      )
