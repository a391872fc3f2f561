-- From where a built-in function is called to its service: a thunk, after a stub where a vectored
-- handler is put in or taken out.
use Rattle.std.proofs.Common.{◌≡◌, ℕ, ◌+◌, ◌≤◌, [], ◌∷◌, subst, arith}
use Rattle.match_turns.specs.Words.{Rcx, Rdx, address_of, Flags, sizes, MachineView, machine, BuiltIn, Put, Protect, RaiseException, Walk, AddVectored, RemoveVectored, host_service_of, ImagePlan, Setting}
use Rattle.host_layout.specs.declared.service.Service.TheVariants as services
use Rattle.template_code.specs.Handlers.{address_in}
use Rattle.x64_templates.specs.Runs.{Reaches}
use Rattle.match_bodies.specs.ProgramImages.{HasService, HasBuiltIn}
use Rattle.match_turns.proofs.Lemmas.{thunk_reaches}
use Rattle.match_turns.proofs.Services.BuiltInThunks.{direct_service}
use Rattle.match_turns.proofs.VectoredHandlers.StubRun.{adding_size, removing_size, adding_reaches, removing_reaches}

abbrev pub thunk_turns : BuiltIn → ℕ
thunk_turns (AddVectored f) = 2
thunk_turns (RemoveVectored f) = 2
thunk_turns f = 1

pub few_turns : (f : BuiltIn) → thunk_turns f ≤ 2
few_turns Put = omega arith
few_turns Protect = omega arith
few_turns RaiseException = omega arith
few_turns Walk = omega arith
few_turns (AddVectored f) = omega arith
few_turns (RemoveVectored f) = omega arith

-- RCX and RDX at the service
abbrev pub named_rcx : ImagePlan → BuiltIn → ℕ → ℕ
named_rcx p (RemoveVectored f) x = p.handler f
named_rcx p f x = x

abbrev pub named_rdx : ImagePlan → BuiltIn → ℕ → ℕ
named_rdx p (AddVectored f) x = p.handler f
named_rdx p f x = x

-- with the name thunk
abbrev pub named : ImagePlan → BuiltIn → MachineView → MachineView
named p f v = record v { rcx = named_rcx p f v.rcx; rdx = named_rdx p f v.rdx }

module _ (setting : Setting) where
  open setting use {functions as t, funclets as fs, program, plan as p, sites as q}

  pub service_reaches : (f : BuiltIn) (v : MachineView) (g : Flags)
      → HasBuiltIn t fs program p q v.memory f
      → Reaches (thunk_turns f) (machine v (q.thunk f) g)
      (machine (named p f v) (address_of (host_service_of f)) g)
  service_reaches Put v g has = thunk_reaches v (q.thunk Put) (address_of services.Put) g
      (direct_service setting Put v.memory tt has).thunk
  service_reaches Protect v g has = thunk_reaches v (q.thunk Protect)
      (address_of services.Protect) g (direct_service setting Protect v.memory tt has).thunk
  service_reaches RaiseException v g has = thunk_reaches v (q.thunk RaiseException)
      (address_of services.RaiseException) g
      (direct_service setting RaiseException v.memory tt has).thunk
  service_reaches Walk v g has = thunk_reaches v (q.thunk Walk) (address_of services.Walk) g
      (direct_service setting Walk v.memory tt has).thunk
  service_reaches (AddVectored f) v g has =
      let at = q.thunk (AddVectored f) in
      let n = adding_size (at + 7) (p.handler f) in
      let next : at + sizes (address_in Rdx (at + 7) (p.handler f) ∷ []) ≡ at + 7 = omega arith in
      adding_reaches v at (p.handler f) (address_of services.AddVectored) g has.names.near
      has.stub
      (subst (λ a. HasService t fs program p q v.memory a services.AddVectored) next
      has.service).thunk
  service_reaches (RemoveVectored f) v g has =
      let at = q.thunk (RemoveVectored f) in
      let n = removing_size (at + 7) (p.handler f) in
      let next : at + sizes (address_in Rcx (at + 7) (p.handler f) ∷ []) ≡ at + 7 = omega arith in
      removing_reaches v at (p.handler f) (address_of services.RemoveVectored) g
      has.names.near has.stub
      (subst (λ a. HasService t fs program p q v.memory a services.RemoveVectored) next
      has.service).thunk
