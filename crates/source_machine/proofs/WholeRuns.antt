-- What was shown is the front of all that is shown.
use Rattle.std.proofs.Common.{◌≡◌, ℕ, zero, suc, ◌<◌, refl, ◌∙◌}
use Rattle.std.proofs.Common.{subst, arith, inl, inr}
use Rattle.std.specs.Prelude.{true}
use Rattle.std.proofs.lemmas.Bool.{cases_Bool}
use Rattle.source_machine.specs.Words.{Program, state_of, does, IsPrefixOf, Next, Over, Machine, step, after, reaches, comes_to, is_over, distance, ShowsBefore}
use Rattle.source_machine.proofs.StepKeeping.{keeps_meaning}
use Rattle.source_machine.proofs.StepDistance.{decreases}
use Rattle.source_machine.proofs.StepEvents.{extends}
use Rattle.source_machine.proofs.Lemmas.{prefix_self, prefix_then}

-- a machine whose run is over has shown all
over_shows : (program : Program) (m : Machine) (next : Next) → is_over next ≡ true
    → IsPrefixOf m.state.events
    (state_of (reaches program (does program) m.handlers m.stack m.state next)).events
over_shows program m (Over how) e = prefix_self m.state.events
over_shows program m next e = cc

within : (program : Program) (n : ℕ) (m : Machine) → distance m < n
    → IsPrefixOf m.state.events (state_of (comes_to program (does program) m)).events
within program zero m near = absurd (omega arith)
within program (suc n) m near =
    elim (cases_Bool (is_over m.next)) [
      | inl e ↦ over_shows program m m.next e
      | inr e ↦
          let less : distance (step program m) < distance m = decreases program m e in
          let rest : IsPrefixOf (step program m).state.events
          (state_of (comes_to program (does program) (step program m))).events =
          within program n (step program m) (omega arith) in
          prefix_then m.state.events (step program m).state.events _ (extends program m)
          (subst (λ o. IsPrefixOf (step program m).state.events (state_of o).events)
          (keeps_meaning program m) rest)
    ]

pub shows_before : ShowsBefore
shows_before program m = within program (suc (distance m)) m (omega arith)

-- ---- many steps

-- wherever a run has come, it comes to the same
pub all_keep : (program : Program) (k : ℕ) (m : Machine)
    → comes_to program (does program) (after program k m) ≡ comes_to program (does program) m
all_keep program zero m = refl
all_keep program (suc k) m = all_keep program k (step program m) ∙ keeps_meaning program m
