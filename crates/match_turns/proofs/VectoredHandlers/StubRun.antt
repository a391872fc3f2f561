-- The stub of a vectored handler is run: the address of its name thunk comes to a register, and
-- its thunk leads to the service.
use Rattle.std.proofs.Common.{◌≡◌, ℕ, ◌+◌, ◌%◌, ◌^◌, [], ◌∷◌, Ok, refl, ap, ◌∙◌, arith}
use Rattle.match_turns.specs.Words.{W64, low, Rcx, Rdx, Flags, size, IsNear, MachineView, machine, HasCode}
unfoldable use Rattle.x64_encode.specs.Chosen.{modrm}
use Rattle.template_code.specs.Handlers.{address_in}
use Rattle.template_code.specs.Jumps.{distance}
use Rattle.x64_templates.specs.Runs.{Reaches}
use Rattle.x64_templates.specs.Thunks.{HasThunk}
use Rattle.x64_templates.proofs.Jumps.{one_reaches}
use Rattle.match_turns.proofs.Lemmas.{short, reaches_then, thunk_reaches}
use Rattle.template_code.proofs.Sizes.{arrives}

pub adding_size : (next to : ℕ) → size (address_in Rdx next to) ≡ 7
unfolding size modrm
adding_size next to = refl

pub removing_size : (next to : ℕ) → size (address_in Rcx next to) ≡ 7
unfolding size modrm
removing_size next to = refl

module _ (v : MachineView) (at name service : ℕ) (f : Flags) (near : IsNear (at + 7) name) where
  arrived : (at + 7 + 0 + distance (at + 7) name) % 2 ^ 64 % 2 ^ 64 ≡ name
  arrived =
      let a = arrives (at + 7) name near in
      let n = near in
      let small = near.1 in
      omega arith

  pub adding : HasCode v.memory at (address_in Rdx (at + 7) name ∷ [])
      → Reaches 1 (machine v at f) (machine (record v { rdx = name }) (at + 7) f)
  adding code =
      let i = address_in Rdx (at + 7) name in
      let there : at + size i ≡ at + 7 = ap (λ (k : ℕ). at + k) (adding_size (at + 7) name) in
      one_reaches i v (record v { rdx = name }) at (at + 7) f f (short (at + 7) name near) refl code
      (ap (λ (a : ℕ). Ok (machine (record v {
        rdx = low W64 ((a + 0 + distance (at + 7) name) % 2 ^ 64);
      }) a f)) there ∙ ap (λ (x : ℕ). Ok (machine (record v { rdx = x }) (at + 7) f)) arrived)

  pub removing : HasCode v.memory at (address_in Rcx (at + 7) name ∷ [])
      → Reaches 1 (machine v at f) (machine (record v { rcx = name }) (at + 7) f)
  removing code =
      let i = address_in Rcx (at + 7) name in
      let there : at + size i ≡ at + 7 = ap (λ (k : ℕ). at + k) (removing_size (at + 7) name) in
      one_reaches i v (record v { rcx = name }) at (at + 7) f f (short (at + 7) name near) refl code
      (ap (λ (a : ℕ). Ok (machine (record v {
        rcx = low W64 ((a + 0 + distance (at + 7) name) % 2 ^ 64);
      }) a f)) there ∙ ap (λ (x : ℕ). Ok (machine (record v { rcx = x }) (at + 7) f)) arrived)

  -- with the name thunk as the second argument, or as the only one
  pub adding_reaches : HasCode v.memory at (address_in Rdx (at + 7) name ∷ [])
      → HasThunk v.memory (at + 7) service
      → Reaches 2 (machine v at f) (machine (record v { rdx = name }) service f)
  adding_reaches code thunk =
      let w = record v { rdx = name } in
      reaches_then 1 1 (machine v at f) (machine w (at + 7) f) (machine w service f) (adding code)
      (thunk_reaches w (at + 7) service f thunk)

  pub removing_reaches : HasCode v.memory at (address_in Rcx (at + 7) name ∷ [])
      → HasThunk v.memory (at + 7) service
      → Reaches 2 (machine v at f) (machine (record v { rcx = name }) service f)
  removing_reaches code thunk =
      let w = record v { rcx = name } in
      reaches_then 1 1 (machine v at f) (machine w (at + 7) f) (machine w service f)
      (removing code) (thunk_reaches w (at + 7) service f thunk)
