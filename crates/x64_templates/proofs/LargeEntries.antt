-- A large frame is entered.
use Rattle.std.proofs.Common.{◌≡◌, ℕ, ◌+◌, ◌-◌, ◌*◌, ◌/◌, ◌^◌, ◌<◌, ◌≤◌, true, false, ltb, List, [], ◌∷◌, Ok, refl, sym, ap, subst, ◌∙◌, arith, inl, inr}
use Rattle.std.specs.Prelude.{◌⊎◌}
use Rattle.std.proofs.lemmas.Bool.{cases_lt, lt-ltb}
use Rattle.x64_templates.specs.Words.{W32, W64, low, may_write, Rax, Rsp, Instr, Flags, subtracted, effect, spelled, MachineView, machine, size, sizes, call, IsNear, sp_of, pushed, HasBelow, moved, check_stack, Reaches, HasCode, opcode_register, distance}
use Rattle.frame_rules.specs.Plan.{allocating}
use Rattle.x64_instr.specs.declared.operand.RegisterOrMemory.TheVariants as places
use Rattle.x64_instr.specs.declared.operand.Operand.TheVariants as operands
use Rattle.x64_instr.specs.declared.instruction.Operation.TheVariants as arithmetic
use Rattle.x64_instr.specs.declared.instruction.Instr.TheVariants as instrs
use Rattle.x64_templates.proofs.PlacedCode.{bytes_kept, reaches_then}
use Rattle.x64_templates.proofs.Cells.{put}
use Rattle.x64_templates.proofs.Computes.{code_split}
use Rattle.x64_templates.proofs.Jumps.{one_reaches}
use Rattle.x64_templates.proofs.Lemmas.{call_size}
use Rattle.x64_templates.proofs.Calls.{call_reaches}
use Rattle.x64_templates.proofs.Entries.{beside, pushed_back}
use Rattle.x64_templates.proofs.Probing.{Touchable, with_probes, check_run}

-- ---- code stays while a return address is put on the stack

pub fixed_beside : (v : MachineView) (sp a : ℕ) → HasBelow v.memory sp 8
    → may_write v.memory a ≡ false → (a + 8 < sp) ⊎ (sp ≤ a)
fixed_beside v sp a below fixed = elim (cases_lt (a + 8) sp) [
  | inl lt ↦ inl lt
  | inr le ↦ elim (cases_lt a sp) [
    | inl lt ↦ let x : true ≡ false = sym (below.writable a le lt) ∙ fixed in absurd cc
    | inr ge ↦ inr ge
  ]
]

pub pushed_keeps_code : (v : MachineView) (sp back at : ℕ) (code : List Instr)
    → HasBelow v.memory sp 8 → HasCode v.memory at code → HasCode (pushed v sp back).memory at code
pushed_keeps_code v sp back at code below h = record {
  is_there = bytes_kept v.memory (pushed v sp back).memory at (spelled code)
      (λ a fixed. beside v.memory sp back a below.enough below.high
      (fixed_beside v sp a below fixed)) refl h.is_there;
  placed = h.placed;
}

-- ---- the entry

move_size : (n : ℕ) → size (instrs.Move W32 (places.Register Rax) (operands.Immediate n)) ≡ 5
unfolding size opcode_register
move_size n = refl

-- RSP has fallen by the frame, RAX, R10 and R11 hold something else, and below the old RSP a return
-- address was written
pub record EnteredLarge (v : MachineView) (sp frame rip check : ℕ) (f : Flags) : Type 0 where
  pub flags : Flags
  pub tenth : ℕ
  pub eleventh : ℕ
  pub comes : Reaches (8 + 4 * (frame / 4096)) (machine v rip f) (machine
      (record v {
        rax = frame;
        rest = record v.rest { rsp = sp - frame; r10 = tenth; r11 = eleventh };
        memory = (pushed v sp (rip + 10)).memory;
      }) (rip + sizes (allocating (distance (rip + 10) check) frame false)) flags)

lower_by_rax : (v : MachineView) (n sp next : ℕ) (f : Flags) → sp_of v ≡ sp → v.rax ≡ n → n ≤ sp
    → sp < 2 ^ 64 → effect (machine v next f)
    (instrs.Arithmetic arithmetic.Sub W64 (places.Register Rsp) (operands.Register Rax))
    ≡ Ok (machine (moved v (sp - n)) next (subtracted W64 (low W64 (sp_of v)) (low W64 v.rax)).1)
unfolding subtracted
lower_by_rax v n sp next f e rax le high =
    ap (λ (a : ℕ). Ok (machine (moved v a) next
    (subtracted W64 (low W64 (sp_of v)) (low W64 v.rax)).1))
    (let q : low W64 (low W64 (low W64 (sp_of v) + (2 ^ 64 - low W64 v.rax)))
    ≡ sp - n = omega arith in q)

pub enter_large_run : (v : MachineView) (sp frame rip check : ℕ) (f : Flags)
    → sp_of v ≡ sp → HasBelow v.memory sp 8 → Touchable v.memory sp frame → frame < 2 ^ 31
    → IsNear (rip + 10) check → rip + 10 < 2 ^ 48 → HasCode v.memory check check_stack
    → HasCode v.memory rip (allocating (distance (rip + 10) check) frame false)
    → EnteredLarge v sp frame rip check f
enter_large_run v sp frame rip check f at below touch small near high leaf code =
    let e = touch.enough in let hi = touch.high in let mo = touch.more in
    let i = instrs.Move W32 (places.Register Rax) (operands.Immediate frame) in
    let j = call (rip + 10) check in
    let k = instrs.Arithmetic arithmetic.Sub W64 (places.Register Rsp) (operands.Register Rax) in
    let si = move_size frame in
    let sj = call_size (rip + 10) check in
    let p = code_split v.memory rip (i ∷ []) (j ∷ k ∷ []) code in
    let e1 : rip + sizes (i ∷ []) ≡ rip + 5 = omega arith in
    let q = code_split v.memory (rip + 5) (j ∷ []) (k ∷ [])
    (subst (λ a. HasCode v.memory a (j ∷ k ∷ [])) e1 p.1) in
    let e2 : rip + 5 + sizes (j ∷ []) ≡ rip + 10 = omega arith in
    let tail = subst (λ a. HasCode v.memory a (k ∷ [])) e2 q.1 in
    let e3 : rip + 5 + 5 ≡ rip + 10 = omega arith in
    let v1 = put true v frame in
    let v2 = pushed v1 sp (rip + 10) in
    let word : low W32 (low W32 frame) ≡ frame = omega arith in
    let fits : ltb frame (2 ^ 32) ≡ true = lt-ltb frame (2 ^ 32) (omega arith) in
    let r1 : rip + size i ≡ rip + 5 = omega arith in
    let first : Reaches 1 (machine v rip f) (machine v1 (rip + 5) f) = one_reaches i v v1 rip
    (rip + 5) f f fits refl p.0
    (ap (λ (a : ℕ). Ok (machine (put true v a) (rip + size i) f)) word
    ∙ ap (λ (a : ℕ). Ok (machine v1 a f)) r1) in
    let second = subst (λ a. Reaches 1 (machine v1 (rip + 5) f) (machine (pushed v1 sp a) check f))
    e3 (call_reaches v1 sp (rip + 5) check f at below (subst (λ a. IsNear a check) (sym e3) near)
    (subst (λ a. HasCode v.memory (rip + 5) (call a check ∷ [])) (sym e3) q.0)) in
    let third = check_run v2 sp frame (rip + 10) check f refl refl
    (record { enough = e; more = mo; high = hi; readable = touch.readable })
    (pushed_back v1 sp (rip + 10) below (omega arith))
    (pushed_keeps_code v1 sp (rip + 10) check check_stack below leaf) in
    let v3 = moved (with_probes v2 third.tenth (sp - frame)) sp in
    let g = (subtracted W64 (low W64 (sp_of v3)) (low W64 v3.rax)).1 in
    let v4 = moved v3 (sp - frame) in
    let last = one_reaches k v3 v4 (rip + 10) (rip + 10 + size k) third.flags g refl refl
    (pushed_keeps_code v1 sp (rip + 10) (rip + 10) (k ∷ []) below tail)
    (lower_by_rax v3 frame sp (rip + 10 + size k) third.flags refl refl e (omega arith)) in
    let end : rip + 10 + size k
    ≡ rip + sizes (allocating (distance (rip + 10) check) frame false) = omega arith in
    let pages = 5 + 4 * (frame / 4096) in
    let turns : 1 + (1 + (pages + 1)) ≡ 8 + 4 * (frame / 4096) = omega arith in
    let all = reaches_then 1 (1 + (pages + 1)) (machine v rip f) (machine v1 (rip + 5) f)
    (machine v4 (rip + 10 + size k) g) first
    (reaches_then 1 (pages + 1) (machine v1 (rip + 5) f) (machine v2 check f)
    (machine v4 (rip + 10 + size k) g) second
    (reaches_then pages 1 (machine v2 check f) (machine v3 (rip + 10) third.flags)
    (machine v4 (rip + 10 + size k) g) third.comes last)) in
    record {
      flags = g;
      tenth = third.tenth;
      eleventh = sp - frame;
      comes = subst (λ n. Reaches n (machine v rip f)
          (machine v4 (rip + sizes (allocating (distance (rip + 10) check) frame false)) g)) turns
          (subst (λ a. Reaches (1 + (1 + (pages + 1))) (machine v rip f) (machine v4 a g)) end
          all);
    }
