-- A `__finally` block is called at the normal end of its body, and a local unwind is asked for.
use Rattle.std.proofs.Common.{◌≡◌, ℕ, ◌+◌, ◌%◌, ◌^◌, ◌<◌, [], ◌∷◌, Ok, refl, sym, ap, subst, ◌∙◌, arith}
use Rattle.x64_templates.specs.Words.{W32, W64, low, Rcx, Rdx, Rsp, modrm, Flags, effect, MachineView, machine, Executes, size, sizes, move, distance, call, IsNear, sp_of, pushed, HasBelow, Reaches, HasCode, finally_arguments, call_finally_code, address_to, local_unwind_code}
use Rattle.x64_instr.specs.declared.operand.RegisterOrMemory.TheVariants as places
use Rattle.x64_instr.specs.declared.operand.Operand.TheVariants as operands
use Rattle.x64_instr.specs.declared.instruction.Instr.TheVariants as instrs
use Rattle.x64_templates.proofs.PlacedCode.{reaches_then}
use Rattle.x64_templates.proofs.Straight.{executes_one, executes_then}
use Rattle.x64_templates.proofs.Encoded.{Fine}
use Rattle.x64_templates.proofs.Computes.{code_split, runs_view}
use Rattle.x64_templates.proofs.Jumps.{one_reaches}
use Rattle.x64_templates.proofs.Lemmas.{short}
use Rattle.x64_templates.proofs.Calls.{call_reaches}

word : (sp x : ℕ) → x ≡ sp → sp < 2 ^ 63 → low W64 (low W64 x) ≡ sp
word sp x e lt = omega arith

abbrev pub with_two : MachineView → ℕ → ℕ → MachineView
with_two v a b = record v { rcx = a; rdx = b }

-- ---- at the normal end of a body: ECX is 0, RDX the base of the frame

finally_do : (v : MachineView) (sp : ℕ) → sp_of v ≡ sp → sp < 2 ^ 63
    → Executes finally_arguments v (with_two v 0 sp)
finally_do v sp at lt =
    let i = instrs.Move W32 (places.Register Rcx) (operands.Immediate 0) in
    executes_then (i ∷ []) (move W64 Rdx Rsp ∷ []) v (with_two v 0 v.rdx) (with_two v 0 sp)
    (executes_one i v (with_two v 0 v.rdx) (λ rip f. (f, refl)))
    (executes_one (move W64 Rdx Rsp) (with_two v 0 v.rdx) (with_two v 0 sp)
    (λ rip f. (f, ap (λ (a : ℕ). Ok (machine (with_two v 0 a) rip f)) (word sp (sp_of v) at lt))))

finally_fine : Fine finally_arguments
finally_fine = (refl, refl, refl, (refl, refl, refl, tt))

pub record FinallyCalled (v : MachineView) (sp rip to : ℕ) (f : Flags) : Type 0 where
  pub flags : Flags
  pub comes : Reaches 3 (machine v rip f) (machine
      (pushed (with_two v 0 sp) sp (rip + sizes finally_arguments + 5)) to flags)

pub finally_begins : (v : MachineView) (sp rip to : ℕ) (f : Flags) → sp_of v ≡ sp
    → HasBelow v.memory sp 8 → IsNear (rip + sizes finally_arguments + 5) to
    → HasCode v.memory rip (call_finally_code rip to) → FinallyCalled v sp rip to f
finally_begins v sp rip to f at below n code =
    let back = rip + sizes finally_arguments + 5 in
    let parts = code_split v.memory rip finally_arguments (call back to ∷ []) code in
    let w = with_two v 0 sp in
    let r = runs_view finally_arguments v w rip f finally_fine parts.0
    (finally_do v sp at below.high) in
    record {
      flags = r.left;
      comes = reaches_then 2 1 (machine v rip f)
          (machine w (rip + sizes finally_arguments) r.left) (machine (pushed w sp back) to r.left)
          r.comes (call_reaches w sp (rip + sizes finally_arguments) to r.left at below n parts.1);
    }

-- ---- a local unwind: RCX is the base of the frame, RDX the target

move_size : size (move W64 Rcx Rsp) ≡ 3
unfolding size modrm
move_size = refl

address_size : (next to : ℕ) → size (address_to next to) ≡ 7
unfolding size modrm
address_size next to = refl

address_effect : (v : MachineView) (next to : ℕ) (f : Flags) → IsNear next to
    → effect (machine v next f) (address_to next to) ≡ Ok (machine (with_two v v.rcx to) next f)
address_effect v next to f n =
    let a = n.0 in let b = n.1 in
    let plain : (next + 0 + distance next to) % 2 ^ 64 ≡ to = omega arith in
    let q : low W64 to ≡ to = omega arith in
    ap (λ (x : ℕ). Ok (machine (with_two v v.rcx (low W64 x)) next f)) plain
    ∙ ap (λ (x : ℕ). Ok (machine (with_two v v.rcx x) next f)) q

pub local_unwind_begins : (v : MachineView) (sp rip target to : ℕ) (f : Flags) → sp_of v ≡ sp
    → HasBelow v.memory sp 8 → IsNear (rip + 10) target → IsNear (rip + 15) to
    → HasCode v.memory rip (local_unwind_code rip target to)
    → Reaches 3 (machine v rip f) (machine (pushed (with_two v sp target) sp (rip + 15)) to f)
local_unwind_begins v sp rip target to f at below nt nc code =
    let i = move W64 Rcx Rsp in
    let j = address_to (rip + 10) target in
    let k = call (rip + 15) to in
    let p = code_split v.memory rip (i ∷ []) (j ∷ k ∷ []) code in
    let si = move_size in
    let sj = address_size (rip + 10) target in
    let e1 : rip + sizes (i ∷ []) ≡ rip + 3 = omega arith in
    let there = subst (λ a. HasCode v.memory a (j ∷ k ∷ [])) e1 p.1 in
    let q = code_split v.memory (rip + 3) (j ∷ []) (k ∷ []) there in
    let e2 : rip + 3 + sizes (j ∷ []) ≡ rip + 10 = omega arith in
    let r1 : rip + size i ≡ rip + 3 = omega arith in
    let r2 : rip + 3 + size j ≡ rip + 10 = omega arith in
    let e3 : rip + 10 + 5 ≡ rip + 15 = omega arith in
    let v1 = with_two v sp v.rdx in
    let v2 = with_two v sp target in
    let first : Reaches 1 (machine v rip f) (machine v1 (rip + 3) f) = one_reaches i v v1 rip
    (rip + 3) f f refl refl p.0
    (ap (λ (a : ℕ). Ok (machine (with_two v a v.rdx) (rip + size i) f))
    (word sp (sp_of v) at below.high) ∙ ap (λ (a : ℕ). Ok (machine v1 a f)) r1) in
    let second : Reaches 1 (machine v1 (rip + 3) f) (machine v2 (rip + 10) f) = one_reaches j v1 v2
    (rip + 3) (rip + 10) f f (short (rip + 10) target nt) refl q.0
    (ap (λ (a : ℕ). effect (machine v1 a f) j) r2 ∙ address_effect v1 (rip + 10) target f nt) in
    let third = call_reaches v2 sp (rip + 10) to f at below (subst (λ a. IsNear a to) (sym e3) nc)
    (subst (λ a. HasCode v.memory (rip + 10) (call a to ∷ [])) (sym e3)
    (subst (λ a. HasCode v.memory a (k ∷ [])) e2 q.1)) in
    subst (λ a. Reaches 3 (machine v rip f) (machine (pushed v2 sp a) to f)) e3
    (reaches_then 1 2 (machine v rip f) (machine v1 (rip + 3) f)
    (machine (pushed v2 sp (rip + 10 + 5)) to f) first
    (reaches_then 1 1 (machine v1 (rip + 3) f) (machine v2 (rip + 10) f)
    (machine (pushed v2 sp (rip + 10 + 5)) to f) second third))
