-- Configurations that differ in locals alone that haven't been set.
--
-- The main definition: `AreAlike`.
use Rattle.std.specs.Prelude.{◌≡◌, ℕ, ◌+◌, Bool, true, false, List, [], ◌∷◌, ◌++◌, length, None}
use Rattle.seh_num.specs.declared.event.Event.{Event}
use Rattle.linear_code.specs.Program.{LinearProgram, LinearFunction}
use Rattle.linear_code.specs.declared.instruction.Instruction.{Instruction}
use Rattle.source_meaning.specs.Expressions.{no_exception}
use Rattle.linear_machine.specs.Frames.{FunctionBody, Item, Store, Configuration, Seen, Next}
use Rattle.linear_machine.specs.Instructions.{act}
use Rattle.linear_machine.specs.Run.{exec}
use Rattle.lowering_locals.specs.Marks.{Marks, next_marks}

-- a local that has been set is the same
abbrev pub IsSame : Bool → ℕ → ℕ → Type 0
IsSame true v w = v ≡ w
IsSame false v w = Unit {0}

-- the locals of an activation, one by one
abbrev pub AreLocalsAlike : List Bool → List ℕ → List ℕ → Type 0
AreLocalsAlike [] [] [] = Unit {0}
AreLocalsAlike (m ∷ ms) (v ∷ vs) (w ∷ ws) = IsSame m v w × AreLocalsAlike ms vs ws
AreLocalsAlike ms vs ws = ⊥

-- as many activations, one by one
abbrev pub AreActivationsAlike : Marks → List (List ℕ) → List (List ℕ) → Type 0
AreActivationsAlike [] [] [] = Unit {0}
AreActivationsAlike (ms ∷ marks) (vs ∷ xs) (ws ∷ ys) =
    AreLocalsAlike ms vs ws × AreActivationsAlike marks xs ys
AreActivationsAlike marks xs ys = ⊥

-- the same but for locals that haven't been set
pub record AreAlike (marks : Marks) (c d : Configuration) : Type 0 where
  pub frame : d.frame ≡ c.frame
  pub below : d.below ≡ c.below
  pub memory : d.store.memory ≡ c.store.memory
  pub handlers : d.store.vectored ≡ c.store.vectored
  pub events : d.events ≡ c.events
  pub activations : AreActivationsAlike marks c.store.activations d.store.activations

-- a function begins: its arguments are its first locals, and the others are these numbers; what it
-- counts above 1 is held until it ends
abbrev pub freshly : ℕ → LinearFunction → List ℕ → List ℕ → ℕ → List Item → Store → List Event
    → Configuration
freshly f function arguments values held below store es = record {
  frame =
      record {
        body = FunctionBody f;
        next = 0;
        activation = length store.activations;
        exception = no_exception;
        held = held + (function.surplus + function.data_surplus);
        temporaries = [];
        landed = None;
      };
  below = below;
  store = record store { activations = store.activations ++ (arguments ++ values) ∷ [] };
  events = es;
}

-- ---- steps of both

module _ (program : LinearProgram) (i : Instruction) (marks : Marks) (c d : Configuration) where
  -- where one goes, and where the other does
  pub record GoTo (c' d' : Configuration) : Type 0 where
    pub one : (next : Next) → act program i next c ≡ next c'
    pub other : (next : Next) → act program i next d ≡ next d'
    pub alike : AreAlike (next_marks program i c c' marks) c' d'

  -- each goes where the other goes, and ends where the other ends; what is seen of one turn is the
  -- same
  pub record GoAlike : Type 0 where
    pub forth : (c' : Configuration) → ((next : Next) → act program i next c ≡ next c')
        → (d' : Configuration) × GoTo c' d'
    pub back : (d' : Configuration) → ((next : Next) → act program i next d ≡ next d')
        → (c' : Configuration) × GoTo c' d'
    pub end : (seen : Seen) → ((next : Next) → act program i next c ≡ seen) → (next : Next)
        → act program i next d ≡ seen
    pub back_end : (seen : Seen) → ((next : Next) → act program i next d ≡ seen) → (next : Next)
        → act program i next c ≡ seen
    pub seen : act program i (exec program 0) d ≡ act program i (exec program 0) c
