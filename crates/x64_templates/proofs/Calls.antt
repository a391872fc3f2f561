-- Calls, entries and returns.
use Rattle.std.proofs.Common.{◌≡◌, ℕ, ◌+◌, ◌-◌, ◌%◌, ◌^◌, ◌<◌, ◌≤◌, [], ◌∷◌, None, Ok, refl, ap, ◌∙◌, arith}
use Rattle.x64_templates.specs.Words.{W64, low, first_refused, may_read, may_write, number_at, Rcx, Rdx, Rsp, R8, R9, Relative, Instr, Flags, ◌>>=◌, State, Answer, with_rip, load, store, effect, Temporary, BodyState, MachineView, machine, Executes, size, sizes, fetched, temporary_at, distance, call, IsNear, return_at, begin_call, sp_of, with_sp, with_four, pushed, moved, HasBelow, Reaches, HasCode, FramePlace, Roomy, FrameHolds, arguments_code, CallBegun}
use Rattle.x64_instr.specs.declared.instruction.Instr.TheVariants as instrs
use Rattle.x64_templates.proofs.PlacedCode.{all_may, store_at, load_at, reaches_then}
use Rattle.x64_templates.proofs.Straight.{executes_one, executes_then}
use Rattle.x64_templates.proofs.Cells.{may_read_slot, sp_address}
use Rattle.x64_templates.proofs.Encoded.{Fine, near}
use Rattle.x64_templates.proofs.Computes.{code_split, runs_view}
use Rattle.x64_templates.proofs.Jumps.{one_reaches}
use Rattle.x64_templates.proofs.Lemmas.{arrives, short, call_size}

-- ---- four arguments

pub word_is : (y x : ℕ) → y ≡ x → x < 2 ^ 64 → low W64 y ≡ x
word_is y x e lt = omega arith

loaded_by : (i : Instr) (v : MachineView) (to : ℕ → MachineView) (d at x : ℕ)
    → ((rip : ℕ) (f : Flags) → effect (machine v rip f) i
    ≡ (load v.memory ((sp_of v + 0 + d) % 2 ^ 64) W64 >>= λ y. Ok (machine (to (low W64 y)) rip f)))
    → (sp_of v + 0 + d) % 2 ^ 64 ≡ at → first_refused (may_read v.memory) 8 at ≡ None
    → number_at v.memory.byte 8 at ≡ x → x < 2 ^ 64 → Executes (i ∷ []) v (to x)
loaded_by i v to d at x h e may is lt = executes_one i v (to x) (λ rip f. (
  f,
  h rip f
      ∙ ap (λ (a : ℕ). load v.memory a W64 >>= λ y. Ok (machine (to (low W64 y)) rip f)) e
      ∙ ap (λ (o : Answer ℕ). o >>= λ y. Ok (machine (to (low W64 y)) rip f))
      (load_at v.memory at may)
      ∙ ap (λ (y : ℕ). Ok (machine (to y) rip f)) (word_is (number_at v.memory.byte 8 at) x is lt),
))

abbrev one : MachineView → ℕ → MachineView
one v a = record v { rcx = a }

abbrev two : MachineView → ℕ → ℕ → MachineView
two v a b = record v { rcx = a; rdx = b }

abbrev three : MachineView → ℕ → ℕ → ℕ → MachineView
three v a b c = record v { rcx = a; rdx = b; rest = record v.rest { r8 = c } }

arguments_do : (p : FramePlace) (first : ℕ) (v : MachineView) (b : BodyState) → Roomy p
    → first + 4 ≤ p.counts.temporaries → sp_of v ≡ p.sp → FrameHolds p v.locals v.memory b
    → Executes (arguments_code p.layout first) v
    (with_four v (b.slots (Temporary first)) (b.slots (Temporary (first + 1)))
    (b.slots (Temporary (first + 2))) (b.slots (Temporary (first + 3))))
arguments_do p first v b room le at h =
    let y = p.layout in
    let a0 = b.slots (Temporary first) in
    let a1 = b.slots (Temporary (first + 1)) in
    let a2 = b.slots (Temporary (first + 2)) in
    let a3 = b.slots (Temporary (first + 3)) in
    let place = λ (i : ℕ) (lt : i < p.counts.temporaries) (sp : ℕ) (is : sp ≡ p.sp). ap
    (λ (s : ℕ). (s + 0 + temporary_at y i) % 2 ^ 64) is
    ∙ sp_address y p.counts p.reserved p.sp p.base p.arrived room i lt in
    let may = λ (i : ℕ) (lt : i < p.counts.temporaries). may_read_slot y p.counts p.reserved p.sp
    p.base p.arrived room v.locals v.memory b (Temporary i) h lt in
    let l0 : first < p.counts.temporaries = omega arith in
    let l1 : first + 1 < p.counts.temporaries = omega arith in
    let l2 : first + 2 < p.counts.temporaries = omega arith in
    let l3 : first + 3 < p.counts.temporaries = omega arith in
    let i0 = fetched Rcx Rsp (temporary_at y first) in
    let i1 = fetched Rdx Rsp (temporary_at y (first + 1)) in
    let i2 = fetched R8 Rsp (temporary_at y (first + 2)) in
    let i3 = fetched R9 Rsp (temporary_at y (first + 3)) in
    let d0 = loaded_by i0 v (λ x. one v x) (temporary_at y first) (p.sp + temporary_at y first) a0
    (λ rip f. refl) (place first l0 (sp_of v) at) (may first l0) (h.slot (Temporary first) l0)
    (h.small (Temporary first) l0) in
    let d1 = loaded_by i1 (one v a0) (λ x. two v a0 x) (temporary_at y (first + 1))
    (p.sp + temporary_at y (first + 1)) a1 (λ rip f. refl) (place (first + 1) l1 (sp_of v) at)
    (may (first + 1) l1) (h.slot (Temporary (first + 1)) l1)
    (h.small (Temporary (first + 1)) l1) in
    let d2 = loaded_by i2 (two v a0 a1) (λ x. three v a0 a1 x) (temporary_at y (first + 2))
    (p.sp + temporary_at y (first + 2)) a2 (λ rip f. refl) (place (first + 2) l2 (sp_of v) at)
    (may (first + 2) l2) (h.slot (Temporary (first + 2)) l2)
    (h.small (Temporary (first + 2)) l2) in
    let d3 = loaded_by i3 (three v a0 a1 a2) (λ x. with_four v a0 a1 a2 x)
    (temporary_at y (first + 3)) (p.sp + temporary_at y (first + 3)) a3 (λ rip f. refl)
    (place (first + 3) l3 (sp_of v) at)
    (may (first + 3) l3) (h.slot (Temporary (first + 3)) l3)
    (h.small (Temporary (first + 3)) l3) in
    executes_then (i0 ∷ []) (i1 ∷ i2 ∷ i3 ∷ []) v (one v a0) (with_four v a0 a1 a2 a3) d0
    (executes_then (i1 ∷ []) (i2 ∷ i3 ∷ []) (one v a0) (two v a0 a1) (with_four v a0 a1 a2 a3) d1
    (executes_then (i2 ∷ []) (i3 ∷ []) (two v a0 a1) (three v a0 a1 a2) (with_four v a0 a1 a2 a3) d2
    d3))

arguments_fine : (p : FramePlace) (first : ℕ) → Roomy p → first + 4 ≤ p.counts.temporaries
    → Fine (arguments_code p.layout first)
arguments_fine p first room le =
    let t = room.temporaries in (
      near (temporary_at p.layout first) (omega arith),
      refl,
      refl,
      (
        near (temporary_at p.layout (first + 1)) (omega arith),
        refl,
        refl,
        (
          near (temporary_at p.layout (first + 2)) (omega arith),
          refl,
          refl,
          (near (temporary_at p.layout (first + 3)) (omega arith), refl, refl, tt),
        ),
      ),
    )

-- ---- the call itself

call_effect : (v : MachineView) (sp next d to : ℕ) (f : Flags) → sp_of v ≡ sp
    → HasBelow v.memory sp 8 → (next + d) % 2 ^ 64 ≡ to
    → effect (machine v next f) (instrs.Call (Relative d)) ≡ Ok (machine (pushed v sp next) to f)
call_effect v sp next d to f at below e =
    let enough = below.enough in
    let high = below.high in
    let spot : (sp_of v + (2 ^ 64 - 8)) % 2 ^ 64 ≡ sp - 8 = omega arith in
    let word : low W64 (sp - 8) ≡ sp - 8 = omega arith in
    let lowered = λ (a : ℕ). machine (moved v (low W64 a)) next f in
    let may = all_may (may_write v.memory) 8 (sp - 8) (omega arith)
    (λ a p q. below.writable a (omega arith) (omega arith)) in
    ap (λ (a : ℕ). store (lowered a) a W64 next >>= λ t. Ok (with_rip t ((next + d) % 2 ^ 64))) spot
    ∙ ap (λ (o : Answer State). o >>= λ t. Ok (with_rip t ((next + d) % 2 ^ 64)))
    (store_at (lowered (sp - 8)) (sp - 8) next may)
    ∙ ap (λ (a : ℕ). Ok (machine (record v {
      rest = with_sp v.rest a;
      memory = (pushed v sp next).memory;
    }) ((next + d) % 2 ^ 64) f)) word
    ∙ ap (λ (a : ℕ). Ok (machine (pushed v sp next) a f)) e

pub call_reaches : (v : MachineView) (sp rip to : ℕ) (f : Flags) → sp_of v ≡ sp
    → HasBelow v.memory sp 8 → IsNear (rip + 5) to → HasCode v.memory rip (call (rip + 5) to ∷ [])
    → Reaches 1 (machine v rip f) (machine (pushed v sp (rip + 5)) to f)
call_reaches v sp rip to f at below n code =
    let i = call (rip + 5) to in
    let next : rip + size i ≡ rip + 5 = ap (λ (k : ℕ). rip + k) (call_size (rip + 5) to) in
    one_reaches i v (pushed v sp (rip + 5)) rip to f f (short (rip + 5) to n) refl code
    (ap (λ (a : ℕ). effect (machine v a f) i) next
    ∙ call_effect v sp (rip + 5) (distance (rip + 5) to) to f at below (arrives (rip + 5) to n))

pub call_begins : (p : FramePlace) (first : ℕ) (v : MachineView) (rip to : ℕ) (f : Flags)
    (b : BodyState) → Roomy p → first + 4 ≤ p.counts.temporaries → sp_of v ≡ p.sp
    → FrameHolds p v.locals v.memory b → HasBelow v.memory p.sp 8
    → IsNear (return_at p.layout first rip) to
    → HasCode v.memory rip (begin_call p.layout first rip to) → CallBegun p first v rip to f b
call_begins p first v rip to f b room le at h below n code =
    let args = arguments_code p.layout first in
    let back = return_at p.layout first rip in
    let w = with_four v (b.slots (Temporary first)) (b.slots (Temporary (first + 1)))
    (b.slots (Temporary (first + 2))) (b.slots (Temporary (first + 3))) in
    let parts = code_split v.memory rip args (call back to ∷ []) code in
    let r = runs_view args v w rip f (arguments_fine p first room le) parts.0
    (arguments_do p first v b room le at h) in
    let c = call_reaches w p.sp (rip + sizes args) to r.left at below n parts.1 in
    record {
      flags = r.left;
      comes = reaches_then 4 1 (machine v rip f)
          (machine w (rip + sizes args) r.left) (machine (pushed w p.sp back) to r.left) r.comes c;
    }
