-- What is done on the data stack keeps what the machine comes to.
use Rattle.std.proofs.Common.{◌≡◌, ℕ, zero, suc, List, [], ◌∷◌, refl, sym, ap, ◌∙◌, Option, Some, None}
use Rattle.std.specs.Prelude.{nat_lt}
use Rattle.source_machine.specs.Words.{Memory, DataFrame, DataPart, StackedParameter, StackedVariable, Program, Ended, Undefined, Normal, State, End, Outcome, Gives, set_memory, count_steps, counting, Does, ended_call, bring, open_frame, close_part, put_variable, given_by, close, clear, allocate, local_of, placing, clearing, with_next, Place, Plan, Machine, at_state, follow, stored, brought, opened, put_stacked, cleared}
use Rattle.c_operations.specs.Performed as performing
use Rattle.source_machine.specs.Frames as frames
use Rattle.source_machine.proofs.FrameKeeping.{comes, from, over_keeps, few_keeps}

-- an end of the program passes
abbrev pub PassesEnds : (Outcome → Outcome) → Type 0
PassesEnds c = (e : Option Ended) (st : State) → c (Gives (End e) st) ≡ Gives (End e) st

pub end_of_call : (n s : ℕ) (part : Option DataPart)
    → PassesEnds (λ o. ended_call n s (close_part part n o))
unfolding ended_call close
end_of_call n s None e st = refl
end_of_call n s (Some part) e st = refl

module _ (program : Program) (d : Does) where
  stored_keeps : (m : Machine) (x : performing.OperationResult) (go : Machine → Machine)
      (c : Outcome → Outcome) (k : ℕ → State → Outcome) → PassesEnds c
      → ((v : ℕ) (memory : Memory) → comes program d (go (at_state m (set_memory m.state memory)))
      ≡ from program d m (c (k v (set_memory m.state memory))))
      → comes program d (stored m x go) ≡ from program d m (c (given_by x m.state k))
  unfolding given_by
  stored_keeps m (performing.Gives v memory) go c k ends h = h v memory
  stored_keeps m (performing.Raises code access) go c k ends h =
      over_keeps program d m None ∙ ap (from program d m) (sym (ends None m.state))
  stored_keeps m (performing.Undefined a) go c k ends h =
      over_keeps program d m (Some (Undefined a))
      ∙ ap (from program d m) (sym (ends (Some (Undefined a)) m.state))

  -- a plan does what is to follow, whatever the state
  abbrev Follows : Machine → Plan → (Outcome → Outcome) → (State → Outcome) → Type 0
  Follows m plan c go =
      (st : State) → comes program d (follow (at_state m st) plan) ≡ from program d m (c (go st))

  brought_keeps : (m : Machine) (base : ℕ) (ps : List StackedParameter) (k : ℕ) (plan : Plan)
      (c : Outcome → Outcome) (go : State → Outcome) → PassesEnds c → Follows m plan c go
      → (st : State) → comes program d (brought program base ps k plan (at_state m st))
      ≡ from program d m (c (bring program base ps k st go))
  brought_keeps m base [] k plan c go ends h st = h st
  brought_keeps m base (p ∷ ps) k plan c go ends h st =
      stored_keeps (at_state m st)
      (placing program base p.width p.offset k (local_of st k p.parameter) st)
      (brought program base ps k plan) c
      (λ v st. bring program base ps k st go) ends
      (λ v memory. brought_keeps m base ps k plan c go ends h (set_memory st memory))

  pub opened_keeps : (m : Machine) (f : Option DataFrame) (k : ℕ) (plan : Plan)
      (c : Outcome → Outcome) (go : State → Outcome) → PassesEnds c → Follows m plan c go
      → (st : State) → comes program d (opened program f k plan (at_state m st))
      ≡ from program d m (c (open_frame program f k st go))
  opened_keeps m None k plan c go ends h st = h st
  opened_keeps m (Some f) k plan c go ends h st =
      brought_keeps m f.base f.parameters k plan c go ends h (allocate f.base f.size k st)

  pub put_stacked_keeps : (m : Machine) (v : StackedVariable) (x : ℕ) (p : Place) (plan : Plan)
      (go : State → Outcome)
      → ((st : State) → comes program d (follow (at_state m st) plan) ≡ from program d m (go st))
      → comes program d (put_stacked program v x p plan m)
      ≡ from program d m (put_variable program v p.activation x m.state go)
  put_stacked_keeps m v x p plan go h =
      stored_keeps m (placing program v.base v.width v.offset p.activation x m.state)
      (λ m. follow m plan) (λ o. o) (λ x st. go st) (λ e st. refl)
      (λ x memory. h (set_memory m.state memory))

  pub cleared_keeps : (m : Machine) (v : StackedVariable) (n : ℕ) (p : Place)
      → comes program d (cleared program v n p m)
      ≡ from program d m (clear program v p.activation n m.state (λ st. Gives Normal st))
  unfolding clear counting
  cleared_keeps m v zero p = refl
  cleared_keeps m v (suc n) p =
      few_keeps program d (nat_lt m.state.steps_left 1) m _ _
      (stored_keeps (at_state m (count_steps 1 m.state))
      (clearing program v p.activation (suc n) (count_steps 1 m.state))
      (λ m. with_next m (frames.ClearElements v n p)) (λ o. o)
      (λ x st. clear program v p.activation n st (λ st. Gives Normal st)) (λ e st. refl)
      (λ x memory. refl))
