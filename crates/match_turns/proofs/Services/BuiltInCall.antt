-- A built-in function is called: RAX is cleared, the arguments are passed, and its stub or thunk
-- begins.
use Rattle.std.proofs.Common.{◌≡◌, ℕ, ◌+◌, ◌≤◌, [], ◌∷◌, refl, ap, subst, arith}
use Rattle.match_turns.specs.Words.{opcode_register, Flags, Temporary, BodyState, size, sizes, keep, IsNear, return_at, begin_call, call_code, clear_result, call_built_in_code, MachineView, machine, sp_of, with_four, pushed, HasBelow, HasCode, FramePlace, Roomy, FrameHolds, effect}
use Rattle.x64_templates.specs.Runs.{Reaches}
use Rattle.match_turns.proofs.Lemmas.{reaches_then, code_split, call_begins}
use Rattle.x64_templates.proofs.Jumps.{one_reaches}

abbrev pub cleared : MachineView → MachineView
cleared v = record v { rax = 0 }

clear_size : size clear_result ≡ 5
unfolding size opcode_register
clear_size = refl

abbrev pub with_arguments_of : MachineView → BodyState → ℕ → MachineView
with_arguments_of v b first = with_four (cleared v) (b.slots (Temporary first))
    (b.slots (Temporary (first + 1))) (b.slots (Temporary (first + 2)))
    (b.slots (Temporary (first + 3)))

-- its stub or thunk is reached, with the return address at RSP
pub record ThunkReached (p : FramePlace) (first : ℕ) (v : MachineView) (rip to : ℕ) (f : Flags)
    (b : BodyState) : Type 0 where
  pub flags : Flags
  pub comes : Reaches 6 (machine v rip f) (machine
      (pushed (with_arguments_of v b first) p.sp (return_at p.layout first (rip + 5))) to flags)

pub thunk_reached : (p : FramePlace) (first : ℕ) (v : MachineView) (rip to : ℕ) (f : Flags)
    (b : BodyState) → Roomy p → first + 4 ≤ p.counts.temporaries → sp_of v ≡ p.sp
    → FrameHolds p v.locals v.memory b → HasBelow v.memory p.sp 8
    → IsNear (return_at p.layout first (rip + 5)) to
    → HasCode v.memory rip (call_built_in_code p.layout first rip to)
    → ThunkReached p first v rip to f b
thunk_reached p first v rip to f b room le at h below near code =
    let y = p.layout in
    let call = call_code y (Temporary first) first (rip + 5) to in
    let parts = code_split v.memory rip (clear_result ∷ []) call code in
    let n = clear_size in
    let next : rip + size clear_result ≡ rip + 5 = ap (λ (k : ℕ). rip + k) n in
    let there : rip + sizes (clear_result ∷ []) ≡ rip + 5 = omega arith in
    let rest = subst (λ a. HasCode v.memory a call) there parts.1 in
    let begin = code_split v.memory (rip + 5) (begin_call y first (rip + 5) to)
    (keep y (Temporary first)) rest in
    let w = cleared v in
    let u = with_arguments_of v b first in
    let back = return_at y first (rip + 5) in
    let one : Reaches 1 (machine v rip f) (machine w (rip + 5) f) = one_reaches clear_result v w rip
    (rip + 5) f f refl refl parts.0 (ap (λ (a : ℕ). effect (machine v a f) clear_result) next) in
    let five = call_begins p first w (rip + 5) to f b room le at h below near begin.0 in
    record {
      flags = five.flags;
      comes = reaches_then 1 5 (machine v rip f) (machine w (rip + 5) f)
          (machine (pushed u p.sp back) to five.flags) one five.comes;
    }
