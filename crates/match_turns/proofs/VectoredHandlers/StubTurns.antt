-- Each turn from where a built-in function is called to its service keeps the shadow.
use Rattle.std.proofs.Common.{◌≡◌, ℕ, ◌+◌, List, [], ◌∷◌, refl, subst, arith}
use Rattle.match_turns.specs.Words.{Rcx, Rdx, address_of, Memory, Flags, State, sizes, MachineView, machine, BuiltIn, Put, Protect, RaiseException, Walk, AddVectored, RemoveVectored, StackItem, AllKeep, FindsReturn, nothing_owed, CallsBuiltIn, host_service_of, Setting}
use Rattle.template_code.specs.Handlers.{address_in}
use Rattle.x64_templates.specs.Runs.{Reaches, Steps}
use Rattle.x64_templates.specs.Thunks.{HasThunk}
use Rattle.match_bodies.specs.ProgramImages.{HasService, HasBuiltIn}
use Rattle.match_bodies.proofs.Walks.RoutineWalks.{Beneath}
use Rattle.match_turns.proofs.Lemmas.{short, thunk_reaches, reaches_steps, thunk_keeps}
use Rattle.match_turns.proofs.Services.BuiltInThunks.{IsDirect, direct_service, called_found}
use Rattle.match_turns.proofs.Services.BuiltInRun.{thunk_turns}
use Rattle.match_turns.proofs.VectoredHandlers.StubRun.{adding_size, removing_size, adding, removing}
use Rattle.match_turns.proofs.VectoredHandlers.StubShadow.{stub_keeps}

-- one turn is a step
one_step : (s u : State) → Reaches 1 s u → Steps s u
one_step s u r = subst (Steps s) r.2 r.1.steps

module _ (setting : Setting) where
  open setting use {functions as t, funclets as fs, program, plan as p, sites as q, image}

  -- at a service it finds the caller
  service_found : (f : BuiltIn) (m : Memory) → FindsReturn t m (address_of (host_service_of f))
  service_found Put m = image.callers_outside.services m (address_of (host_service_of Put))
      (omega arith)
      (omega arith) (λ e. absurd (omega arith)) (λ e. absurd (omega arith))
      (λ e. absurd (omega arith))
  service_found Protect m = image.callers_outside.services m (address_of (host_service_of Protect))
      (omega arith) (omega arith) (λ e. absurd (omega arith)) (λ e. absurd (omega arith))
      (λ e. absurd (omega arith))
  service_found RaiseException m = image.callers_outside.services m
      (address_of (host_service_of RaiseException)) (omega arith) (omega arith)
      (λ e. absurd (omega arith)) (λ e. absurd (omega arith)) (λ e. absurd (omega arith))
  service_found Walk m = image.callers_outside.services m (address_of (host_service_of Walk))
      (omega arith) (omega arith) (λ e. absurd (omega arith)) (λ e. absurd (omega arith))
      (λ e. absurd (omega arith))
  service_found (AddVectored f) m = image.callers_outside.services m
      (address_of (host_service_of (AddVectored f))) (omega arith) (omega arith)
      (λ e. absurd (omega arith)) (λ e. absurd (omega arith)) (λ e. absurd (omega arith))
  service_found (RemoveVectored f) m = image.callers_outside.services m
      (address_of (host_service_of (RemoveVectored f))) (omega arith) (omega arith)
      (λ e. absurd (omega arith)) (λ e. absurd (omega arith)) (λ e. absurd (omega arith))

  module _ (v : MachineView) (g : Flags) (top from back : ℕ) (others : List ℕ)
      (list : List StackItem) where
    -- where a view's return address is that of the call
    abbrev IsCalledAt : MachineView → ℕ → Type 0
    IsCalledAt w at = Beneath t (machine w at g) nothing_owed top from back others list

    -- by a thunk alone
    thunk_turn : (f : BuiltIn) → IsDirect f → CallsBuiltIn program f
        → HasBuiltIn t fs program p q v.memory f → IsCalledAt v (q.thunk f)
        → AllKeep t fs 1 (machine v (q.thunk f) g)
    thunk_turn f direct called has beneath =
        let at = q.thunk f in
        let service = address_of (host_service_of f) in
        let s = machine v at g in
        let u = machine v service g in
        let thunk : HasThunk v.memory at service = (direct_service setting f v.memory direct
        has).thunk in
        thunk_keeps setting s u top from back others list beneath at service refl thunk
        (reaches_steps 1 s u (thunk_reaches v at service g thunk)) refl
        (λ m. called_found setting f m called) (service_found f)

    pub turns_keep : (f : BuiltIn) → CallsBuiltIn program f
        → HasBuiltIn t fs program p q v.memory f → IsCalledAt v (q.thunk f)
        → AllKeep t fs (thunk_turns f) (machine v (q.thunk f) g)
    turns_keep Put called has beneath = thunk_turn Put tt called has beneath
    turns_keep Protect called has beneath = thunk_turn Protect tt called has beneath
    turns_keep RaiseException called has beneath = thunk_turn RaiseException tt called has beneath
    turns_keep Walk called has beneath = thunk_turn Walk tt called has beneath
    turns_keep (AddVectored f) called has beneath =
        let at = q.thunk (AddVectored f) in
        let to = p.handler f in
        let service = address_of (host_service_of (AddVectored f)) in
        let w : MachineView = record v { rdx = to } in
        let s = machine v at g in
        let u = machine w (at + 7) g in
        let n = adding_size (at + 7) to in
        let next : at + sizes (address_in Rdx (at + 7) to ∷ []) ≡ at + 7 = omega arith in
        let thunk : HasThunk v.memory (at + 7) service = (subst (λ a. HasService t fs program p q
        v.memory a (host_service_of (AddVectored f))) next has.service).thunk in
        stub_keeps setting s u (machine w service g) top from back others list beneath
        (address_in Rdx (at + 7) to) (short (at + 7) to has.names.near) has.stub refl
        (one_step s u (adding v at to service g has.names.near has.stub)) refl refl (λ a. refl)
        (at + 7) service refl thunk
        (reaches_steps 1 u (machine w service g) (thunk_reaches w (at + 7) service g thunk)) refl
        (λ m. called_found setting (AddVectored f) m called)
        (λ m. image.callers_outside.thunks m (AddVectored f) 7 called (omega arith))
        (service_found (AddVectored f))
    turns_keep (RemoveVectored f) called has beneath =
        let at = q.thunk (RemoveVectored f) in
        let to = p.handler f in
        let service = address_of (host_service_of (RemoveVectored f)) in
        let w : MachineView = record v { rcx = to } in
        let s = machine v at g in
        let u = machine w (at + 7) g in
        let n = removing_size (at + 7) to in
        let next : at + sizes (address_in Rcx (at + 7) to ∷ []) ≡ at + 7 = omega arith in
        let thunk : HasThunk v.memory (at + 7) service = (subst (λ a. HasService t fs program p q
        v.memory a (host_service_of (RemoveVectored f))) next has.service).thunk in
        stub_keeps setting s u (machine w service g) top from back others list beneath
        (address_in Rcx (at + 7) to) (short (at + 7) to has.names.near) has.stub refl
        (one_step s u (removing v at to service g has.names.near has.stub)) refl refl (λ a. refl)
        (at + 7) service refl thunk
        (reaches_steps 1 u (machine w service g) (thunk_reaches w (at + 7) service g thunk)) refl
        (λ m. called_found setting (RemoveVectored f) m called)
        (λ m. image.callers_outside.thunks m (RemoveVectored f) 7 called (omega arith))
        (service_found (RemoveVectored f))
