-- Where built-in functions are called: those without a stub where their thunk is.
use Rattle.std.proofs.Common.{◌≡◌, ◌+◌, refl, subst, arith}
use Rattle.match_turns.specs.Words.{Memory, BuiltIn, Put, Protect, RaiseException, Walk, AddVectored, RemoveVectored, sizes, host_service_of, FindsReturn, CallsBuiltIn, stub_code, Setting}
use Rattle.match_bodies.specs.ProgramImages.{HasService, HasBuiltIn}

-- what is called isn't about a vectored handler
abbrev pub IsDirect : BuiltIn → Type 0
IsDirect (AddVectored f) = ⊥
IsDirect (RemoveVectored f) = ⊥
IsDirect f = Unit {0}

module _ (setting : Setting) where
  open setting use {functions as t, funclets as fs, program, plan as p, sites as q, image}

  pub stub_size : (f : BuiltIn) → IsDirect f → sizes (stub_code p f (q.thunk f)) ≡ 0
  stub_size Put d = refl
  stub_size Protect d = refl
  stub_size RaiseException d = refl
  stub_size Walk d = refl
  stub_size (AddVectored f) d = absurd d
  stub_size (RemoveVectored f) d = absurd d

  -- its service
  pub direct_service : (f : BuiltIn) (m : Memory) → IsDirect f → HasBuiltIn t fs program p q m f
      → HasService t fs program p q m (q.thunk f) (host_service_of f)
  direct_service f m d has =
      let z = stub_size f d in
      let same : q.thunk f + sizes (stub_code p f (q.thunk f)) ≡ q.thunk f = omega arith in
      subst (λ a. HasService t fs program p q m a (host_service_of f)) same has.service

  -- where a built-in function is called the walk finds its caller
  pub called_found : (f : BuiltIn) (m : Memory) → CallsBuiltIn program f
      → FindsReturn t m (q.thunk f)
  called_found f m calls =
      let same : q.thunk f + 0 ≡ q.thunk f = omega arith in
      subst (FindsReturn t m) same (image.callers_outside.thunks m f 0 calls (omega arith))
