-- Steps of linear code, and what they show whatever steps_are_matched.
use Rattle.std.proofs.Common.{◌≡◌, ℕ, zero, suc, ◌+◌, List, refl, ap, subst, ◌∙◌, arith}
use Rattle.std.specs.Prelude.{Option, Some, None}
use Rattle.match_runs.specs.Words.{is_separator, State, Functions, Funclet, LinearProgram, Instruction, Configuration, Finished, Running, Seen, with_some, Stuck, act, instruction_at, exec, HasRule, IsTaken, StepIsMatched, Simulates, StepsAreMatched}
use Rattle.linear_machine.proofs.RunLengths.{More, longer}
use Rattle.match_runs.proofs.Taken.{taken_as}

module _ (program : LinearProgram) where
  -- a step and what steps_are_matched
  pub one_more : (n : ℕ) (c : Configuration) → exec program (suc n) c
      ≡ with_some c.events (instruction_at program c) (λ i. act program i (exec program n) c)
  unfolding exec
  one_more n c = refl

  pub at_instruction : (n : ℕ) (c : Configuration) (i : Instruction)
      → instruction_at program c ≡ Some i → exec program (suc n) c
      ≡ act program i (exec program n) c
  unfolding with_some
  at_instruction n c i e = one_more n c ∙ ap (λ (o : Option Instruction). with_some c.events o
      (λ i. act program i (exec program n) c)) e

  pub at_none : (n : ℕ) (c : Configuration) → instruction_at program c ≡ None
      → exec program (suc n) c ≡ Stuck c.events
  unfolding with_some
  at_none n c e = one_more n c ∙ ap (λ (o : Option Instruction). with_some c.events o
      (λ i. act program i (exec program n) c)) e

  rule_less : (a b : Seen) → More a b → HasRule b → HasRule a
  rule_less (Running es) b m rule = tt
  rule_less (Finished e es) b m rule = subst HasRule m rule
  rule_less (Stuck es) b m rule = subst HasRule m rule

  -- a rule leads on from a step where it does from a run that begins with it
  pub first_has_rule : (n : ℕ) (c : Configuration) (i : Instruction)
      → instruction_at program c ≡ Some i → HasRule (exec program (suc n) c)
      → HasRule (act program i (exec program zero) c)
  first_has_rule n c i e rule =
      let k : 1 + n ≡ suc n = omega arith in
      subst HasRule (at_instruction zero c i e)
      (rule_less (exec program 1 c) (exec program (suc n) c)
      (subst (λ m. More (exec program 1 c) (exec program m c)) k (longer program 1 n c)) rule)

  pub none_has_no_rule : (n : ℕ) (c : Configuration) → instruction_at program c ≡ None
      → HasRule (exec program (suc n) c) → ⊥
  none_has_no_rule n c e rule = subst HasRule (at_none n c e) rule

-- ---- steps that are matched

-- the instruction of a next step, and that it is matched
pub record MatchedStep (t : Functions) (fs : List Funclet) (program : LinearProgram)
    (turns_per_step : ℕ) (credit : Configuration → ℕ) (Represents : State → Configuration → Type 0)
    (s : State) (c : Configuration) : Type 0 where
  pub instruction : Instruction
  pub at : instruction_at program c ≡ Some instruction
  pub matched : IsTaken t fs program turns_per_step credit Represents s c instruction

module _ (t : Functions) (fs : List Funclet) (program : LinearProgram) (turns_per_step : ℕ)
    (credit : Configuration → ℕ) where
  -- a step of a run that isn't stuck
  pub matched_step : (Represents : State → Configuration → Type 0) (n : ℕ) (s : State)
      (c : Configuration) → StepIsMatched t fs program turns_per_step credit Represents s c
      → HasRule (exec program (suc n) c)
      → MatchedStep t fs program turns_per_step credit Represents s c
  matched_step Represents n s c step rule = by (instruction_at program c) refl
    where
      by : (o : Option Instruction) → instruction_at program c ≡ o
          → MatchedStep t fs program turns_per_step credit Represents s c
      by None at = absurd (none_has_no_rule program n c at rule)
      by (Some i) at = record {
        instruction = i;
        at = at;
        matched = step i at (first_has_rule program n c i at rule);
      }

  -- ---- relations that each step keeps

  pub steps_are_matched : (R : ℕ → State → Configuration → Type 0)
      → Simulates t fs program turns_per_step credit R → (n : ℕ) (s : State) (c : Configuration)
      → R n s c → StepsAreMatched t fs program turns_per_step credit n s c
  steps_are_matched R simulates zero s c r = simulates.live s c r
  steps_are_matched R simulates (suc n) s c r = λ i at rule. taken_as t fs program turns_per_step
      credit (R n) (StepsAreMatched t fs program turns_per_step credit n)
      (steps_are_matched R simulates n) s c i (is_separator i) (simulates.steps n s c r i at rule)
