-- Whose locals the live activations are.
--
-- The main definition: `HasActivations`.
use Rattle.std.specs.Prelude.{◌≡◌, ℕ, List, [], ◌∷◌, ◌++◌, length, slice_get, Some}
use Rattle.linear_code.specs.Program.{LinearProgram, LinearFunction}
use Rattle.linear_machine.specs.Frames.{BodyName, FunctionBody, FuncletBody, Frame, Item, Waits, Searches, Unwinds, Configuration}
use Rattle.lowering_invariants.specs.Bodies.{owner_of}

-- a function has an activation of its own
abbrev pub with_own : BodyName → List ℕ → List ℕ
with_own (FunctionBody k) owners = owners ++ k ∷ []
with_own (FuncletBody k) owners = owners

-- the functions of the activations of what waits, outermost first
abbrev pub owners_of : List Item → List ℕ
owners_of [] = []
owners_of (Waits f ∷ below) = with_own f.body (owners_of below)
owners_of (Searches exception resumption asked ∷ below) = owners_of below
owners_of (Unwinds rest target ∷ below) = owners_of below

module _ (program : LinearProgram) where
  -- an activation of the function that a body works on; a function's own is the innermost
  abbrev pub WorksOn : Frame → BodyName → List ℕ → Type 0
  WorksOn f (FunctionBody k) owners = f.activation ≡ length owners
  WorksOn f (FuncletBody k) owners =
      (function : ℕ) × (owner_of program (FuncletBody k) ≡ Some function)
      × (slice_get owners f.activation ≡ Some function)

  abbrev pub AreWorking : List Item → Type 0
  AreWorking [] = Unit {0}
  AreWorking (Waits f ∷ below) = WorksOn f f.body (owners_of below) × AreWorking below
  AreWorking (Searches exception resumption asked ∷ below) = AreWorking below
  AreWorking (Unwinds rest target ∷ below) = AreWorking below

  -- as many locals as a function has
  pub record IsActivationOf (k : ℕ) (locals : List ℕ) : Type 0 where
    pub function : LinearFunction
    pub there : slice_get program.functions k ≡ Some function
    pub count : length locals ≡ function.body.locals

  -- one by one
  abbrev pub AreActivations : List ℕ → List (List ℕ) → Type 0
  AreActivations [] [] = Unit {0}
  AreActivations (k ∷ ks) (locals ∷ rest) = IsActivationOf k locals × AreActivations ks rest
  AreActivations ks rest = ⊥

  -- the store has an activation for each function that runs or waits, and no other
  pub record HasActivations (c : Configuration) : Type 0 where
    pub working : AreWorking (Waits c.frame ∷ c.below)
    pub stored : AreActivations (owners_of (Waits c.frame ∷ c.below)) c.store.activations
