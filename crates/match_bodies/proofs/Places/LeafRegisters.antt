-- The locals of a leaf function stand in registers of the processor, volatile ones too.
use Rattle.std.proofs.Common.{◌≡◌, ℕ, ◌+◌, ◌<◌, ◌≤◌, inl, inr, Bool, true, false, Option, Some, None, List, [], ◌∷◌, refl, sym, ap, subst, ◌∙◌}
use Rattle.std.specs.Prelude.{slice_index}
use Rattle.std.proofs.lemmas.Bool.{cases_lt}
use Rattle.x64_machine.specs.declared.cpu.Cpu.{Cpu}
use Rattle.match_bodies.specs.Words.{Memory, Layout, LinearBody, BodyName, FunctionBody, FuncletBody, body_of, context_of, kept_of, rsp, Activation, IsInPlace, HoldsPlaces, HasActivation, leaf_values, now_of, IsInRegister, RegistersHold, Setting, IsLaidOut, register_number, register_of, place_of, InFrame, arrived_in, parameter_register}
use Rattle.match_bodies.proofs.Places.StackTop.{leaf_layout}
use Rattle.x64_instr.specs.Registers.{number}
use Rattle.match_bodies.proofs.Places.LocalRegisters.{place_early}
use Rattle.match_bodies.proofs.Places.FramePlaces.{activation_with}

-- ---- locals in other registers

place_with : (m : Memory) (now now' : ℕ → ℕ) (at v : ℕ) (o : Option ℕ) → IsInPlace m now at v o
    → IsInRegister now' v o → IsInPlace m now' at v o
place_with m now now' at v None h r = h
place_with m now now' at v (Some n) h r = r

places_with : (m : Memory) (now now' : ℕ → ℕ) (register : ℕ → Option ℕ) (i at end : ℕ)
    (vs : List ℕ) → HoldsPlaces m now register i at end vs → RegistersHold now' register i vs
    → HoldsPlaces m now' register i at end vs
places_with m now now' register i at end [] h r = h
places_with m now now' register i at end (v ∷ vs) h r = (
  place_with m now now' at v (register i) h.0 r.0,
  places_with m now now' register (i + 1) (at + 8) end vs h.1 r.1,
)

-- an activation's locals, in other registers that hold them
pub leaf_with : (m : Memory) (now now' : ℕ → ℕ) (register : ℕ → Option ℕ) (y : Layout)
    (sp size k : ℕ) (acts : List Activation) (name : BodyName)
    → HasActivation m now register y sp size k acts name
    → RegistersHold now' register 0 (leaf_values true name acts)
    → HasActivation m now' register y sp size k acts name
leaf_with m now now' register y sp size k [] (FunctionBody f) h r = absurd h
leaf_with m now now' register y sp size k (a ∷ outer) (FunctionBody f) h r = record {
  none = h.none;
  activation = h.activation;
  values = places_with m now now' register 0 (sp + y.locals) (sp + size) a.values h.values r;
}
leaf_with m now now' register y sp size k acts (FuncletBody j) h r = h

-- a body's locals, where the nonvolatile registers are the same, and a leaf function's locals are
-- in the others
pub activation_at : (m : Memory) (register : ℕ → Option ℕ) (y : Layout) (cpu cpu' : Cpu)
    (leaf : Bool) (size k : ℕ) (acts : List Activation) (name : BodyName)
    → kept_of cpu'.registers ≡ kept_of cpu.registers
    → RegistersHold (now_of true cpu') register 0 (leaf_values leaf name acts)
    → HasActivation m (now_of leaf cpu) register y (rsp (context_of cpu)) size k acts name
    → HasActivation m (now_of leaf cpu') register y (rsp (context_of cpu')) size k acts name
activation_at m register y cpu cpu' false size k acts name same r h =
    activation_with m register y (context_of cpu) (context_of cpu') size k acts name same h
activation_at m register y cpu cpu' true size k acts name same r h =
    subst (λ (ks : List ℕ). HasActivation m (now_of true cpu') register y (slice_index ks 0) size k
    acts name) (sym same)
    (leaf_with m (now_of true cpu) (now_of true cpu') register y (rsp (context_of cpu)) size k acts
    name h r)

-- ---- which locals registers hold

places_hold : (m : Memory) (now : ℕ → ℕ) (register : ℕ → Option ℕ) (i at end : ℕ) (vs : List ℕ)
    → HoldsPlaces m now register i at end vs → RegistersHold now register i vs
places_hold m now register i at end [] h = tt
places_hold m now register i at end (v ∷ vs) h = (
  place_holds at v (register i) h.0,
  places_hold m now register (i + 1) (at + 8) end vs h.1,
)
  where
    place_holds : (at v : ℕ) (o : Option ℕ) → IsInPlace m now at v o → IsInRegister now v o
    place_holds at v None h = tt
    place_holds at v (Some n) h = h

-- those of the body that runs
pub running_hold : (m : Memory) (register : ℕ → Option ℕ) (y : Layout) (cpu : Cpu) (leaf : Bool)
    (sp size k : ℕ) (acts : List Activation) (name : BodyName)
    → HasActivation m (now_of leaf cpu) register y sp size k acts name
    → RegistersHold (now_of true cpu) register 0 (leaf_values leaf name acts)
running_hold m register y cpu false sp size k acts name h = tt
running_hold m register y cpu true sp size k acts (FuncletBody j) h = tt
running_hold m register y cpu true sp size k [] (FunctionBody f) h = tt
running_hold m register y cpu true sp size k (a ∷ outer) (FunctionBody f) h =
    places_hold m (now_of true cpu) register 0 (sp + y.locals) (sp + size) a.values h.values

-- no leaf function
pub framed_hold : (now : ℕ → ℕ) (register : ℕ → Option ℕ) (leaf : Bool) (acts : List Activation)
    (name : BodyName) → leaf ≡ false → RegistersHold now register 0 (leaf_values leaf name acts)
framed_hold now register leaf acts name e =
    subst (λ (l : Bool). RegistersHold now register 0 (leaf_values l name acts)) (sym e) tt

-- ---- other registers in which parameters that stay have the same numbers

module _ (y : Layout) (register : ℕ → Option ℕ) (same : (x : ℕ) → register x ≡ register_of y x)
    (framed : (x : ℕ) → y.arrivals ≤ x → place_of y x ≡ InFrame) (cpu cpu' : Cpu)
    (stay : (i : ℕ) → i < y.arrivals → arrived_in cpu' i ≡ arrived_in cpu i) where
  abbrev Held : Cpu → (v : ℕ) → Option ℕ → Type 0
  Held c v o = IsInRegister (now_of true c) v o

  one_held : (i v : ℕ) → Held cpu v (register i) → Held cpu' v (register i)
  one_held i v h = elim (cases_lt i y.arrivals) [
    | inl lt ↦
        (let at : register i ≡ Some (number (parameter_register i)) =
        same i ∙ ap (register_number i) (place_early y i lt) in
        subst (Held cpu' v) (sym at) (stay i lt ∙ subst (Held cpu v) at h))
    | inr le ↦
        (let none : register i ≡ None = same i ∙ ap (register_number i) (framed i le) in
        subst (Held cpu' v) (sym none) tt)
  ]

  all_held : (i : ℕ) (vs : List ℕ) → RegistersHold (now_of true cpu) register i vs
      → RegistersHold (now_of true cpu') register i vs
  all_held i [] h = tt
  all_held i (v ∷ vs) h = (one_held i v h.0, all_held (i + 1) vs h.1)

module _ (setting : Setting) where
  open setting use {functions as t, funclets as fs, program, plan as p, sites as q, image}

  held_by : (leaf : Bool) (name : BodyName) (b : LinearBody) → p.leaf name ≡ leaf
      → IsLaidOut program p name b → (cpu cpu' : Cpu) (acts : List Activation)
      → ((i : ℕ) → i < (p.layout name).arrivals → arrived_in cpu' i ≡ arrived_in cpu i)
      → RegistersHold (now_of true cpu) (p.register name) 0 (leaf_values leaf name acts)
      → RegistersHold (now_of true cpu') (p.register name) 0 (leaf_values leaf name acts)
  held_by false name b is h cpu cpu' acts stay held = tt
  held_by true (FuncletBody k) b is h cpu cpu' acts stay held = tt
  held_by true (FunctionBody f) b is h cpu cpu' [] stay held = tt
  held_by true (FunctionBody f) b is h cpu cpu' (a ∷ outer) stay held =
      let l = leaf_layout t fs program p q (FunctionBody f) b is h in
      all_held (p.layout (FunctionBody f)) (p.register (FunctionBody f)) (image.registers f)
      l.in_frame cpu cpu' stay 0 a.values held

  -- a leaf function's locals are in their registers still
  pub leaf_held : (name : BodyName) (b : LinearBody) → body_of program name ≡ Some b
      → (cpu cpu' : Cpu) (acts : List Activation)
      → ((i : ℕ) → i < (p.layout name).arrivals → arrived_in cpu' i ≡ arrived_in cpu i)
      → RegistersHold (now_of true cpu) (p.register name) 0 (leaf_values (p.leaf name) name acts)
      → RegistersHold (now_of true cpu') (p.register name) 0 (leaf_values (p.leaf name) name acts)
  leaf_held name b there cpu cpu' acts stay held =
      held_by (p.leaf name) name b refl (image.laid_out name b there) cpu cpu' acts stay held
