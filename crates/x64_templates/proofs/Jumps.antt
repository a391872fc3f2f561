-- Jumps come to their labels.
use Rattle.x64_templates.proofs.Lemmas.{arrives, short, jump_if_size, sizes_append}
use Rattle.std.proofs.Common.{◌≡◌, ℕ, ◌+◌, ◌-◌, ◌%◌, ◌^◌, ◌<◌, Bool, true, false, cond, eqb, [], ◌∷◌, ◌++◌, length, Ok, refl, sym, ap, subst, ◌∙◌, arith, length-append}
use Rattle.x64_templates.specs.Words.{W64, low, Memory, Rax, Relative, Instr, chosen, is_encodable, Flags, subtracted, holds, State, effect, Slot, BodyState, takes_frame, MachineView, machine, size, sizes, fetch, distance, jump_equal, jump_code, compare_zero, test_code, jump_if_zero_code, separator_code, IsNear, IsBytes, Reaches, HasCode, FramePlace, Roomy, FrameHolds, AreArrived, IsThere, ReachesBody, jump, local_in}
use Rattle.x64_instr.specs.declared.instruction.Condition.{Condition}
use Rattle.x64_instr.specs.declared.instruction.Condition.TheVariants as conditions
use Rattle.x64_instr.specs.declared.instruction.Instr.TheVariants as instrs
use Rattle.x64_templates.proofs.PlacedCode.{bytes_split, reaches_then}
use Rattle.x64_templates.proofs.Straight.{one_runs}
use Rattle.x64_templates.proofs.Cells.{put, sp_of, fetch_does}
use Rattle.x64_templates.proofs.Encoded.{fetch_fine}
use Rattle.x64_templates.proofs.Computes.{code_split, runs_view}

-- ---- one instruction

pub one_reaches : (i : Instr) (v w : MachineView) (rip at : ℕ) (f g : Flags) → is_encodable i ≡ true
    → takes_frame i ≡ false → HasCode v.memory rip (i ∷ [])
    → effect (machine v (rip + size i) f) i ≡ Ok (machine w at g)
    → Reaches 1 (machine v rip f) (machine w at g)
one_reaches i v w rip at f g enc inside code e =
    let p = bytes_split v.memory rip (chosen i) [] code.is_there in
    let l = code.placed.low in
    let h = code.placed.high in
    (one_runs i (machine v rip f) (machine w at g) (enc, tt) inside p.0
    (record { low = l; high = omega arith }) e).comes

stays : (p : FramePlace) (turns : ℕ) (v w : MachineView) (rip at : ℕ) (f g : Flags) (b : BodyState)
    → Reaches turns (machine v rip f) (machine w at g) → w.rest ≡ v.rest → w.locals ≡ v.locals
    → w.memory ≡ v.memory
    → FrameHolds p v.locals v.memory b → ReachesBody p turns (machine v rip f) at v.rest v.locals b
stays p turns v w rip at f g b comes rest locals same h = record {
  after = w;
  flags = g;
  comes = comes;
  rest = rest;
  locals = λ r is free. ap (λ l. local_in l r) locals;
  holds = subst (λ l. FrameHolds p l w.memory b) (sym locals)
      (subst (λ (m : Memory). FrameHolds p v.locals m b) (sym same) h);
  changes = record {
    protection = ap (λ (m : Memory). m.protection) same;
    byte = λ a own out. ap (λ (m : Memory). m.byte a) same;
    bytes = λ x. subst IsBytes (sym same) x;
  };
}

jump_size : (d : ℕ) → size (instrs.Jump (Relative d)) ≡ 5
unfolding size
jump_size d = refl

-- ---- a jump, and nothing

pub jump_run : (p : FramePlace) (v : MachineView) (rip to : ℕ) (f : Flags) (b : BodyState)
    → IsNear (rip + 5) to → FrameHolds p v.locals v.memory b
    → HasCode v.memory rip (jump_code rip to)
    → ReachesBody p 1 (machine v rip f) to v.rest v.locals b
jump_run p v rip to f b near h code =
    let i = jump (rip + 5) to in
    let e : (rip + size i + distance (rip + 5) to) % 2 ^ 64
    ≡ to = ap (λ (n : ℕ). (rip + n + distance (rip + 5) to) % 2 ^ 64)
    (jump_size (distance (rip + 5) to)) ∙ arrives (rip + 5) to near in
    stays p 1 v v rip to f f b (one_reaches i v v rip to f f (short (rip + 5) to near) refl code
    (ap (λ (a : ℕ). Ok (machine v a f)) e)) refl refl refl h

pub separator_run : (p : FramePlace) (v : MachineView) (rip : ℕ) (f : Flags) (b : BodyState)
    → FrameHolds p v.locals v.memory b → HasCode v.memory rip separator_code
    → ReachesBody p 1 (machine v rip f) (rip + sizes separator_code) v.rest v.locals b
separator_run p v rip f b h code =
    let i = instrs.NoOperation in
    let z : rip + size i ≡ rip + (size i + 0) = omega arith in
    stays p 1 v v rip (rip + (size i + 0)) f f b
    (one_reaches i v v rip (rip + (size i + 0)) f f refl refl code
    (ap (λ (a : ℕ). Ok (machine v a f)) z)) refl refl refl h

-- ---- a jump where a slot holds 0

abbrev zero_flags : MachineView → Flags
zero_flags v = (subtracted W64 (low W64 v.rax) 0).1

zero_holds : (v : MachineView) → v.rax < 2 ^ 64 → (zero_flags v).zero ≡ eqb v.rax 0
unfolding subtracted
zero_holds v lt = ap (λ (n : ℕ). eqb n 0) (let q : low W64 (low W64 v.rax + (2 ^ 64 - 0))
    ≡ v.rax = omega arith in q)

test_comes : (v : MachineView) (rip : ℕ) (f : Flags) → HasCode v.memory rip (compare_zero ∷ [])
    → Reaches 1 (machine v rip f) (machine v (rip + size compare_zero) (zero_flags v))
test_comes v rip f code = one_reaches compare_zero v v rip (rip + size compare_zero) f
    (zero_flags v) refl refl code refl

-- by the condition, to the label or on
pub branch_effect : (v : MachineView) (next d : ℕ) (f : Flags) (c : Condition) (z : Bool)
    → holds f c ≡ z → effect (machine v next f) (instrs.JumpIf c d)
    ≡ Ok (machine v (cond z ((next + d) % 2 ^ 64) next) f)
branch_effect v next d f c true e = ap (λ (t : Bool).
    let u : State = record {
      cpu = cond t (machine v ((next + d) % 2 ^ 64) f).cpu
          (machine v next f).cpu;
      memory = v.memory;
      vectored = v.vectored;
    } in Ok u) e
branch_effect v next d f c false e = ap (λ (t : Bool).
    let u : State = record {
      cpu = cond t (machine v ((next + d) % 2 ^ 64) f).cpu
          (machine v next f).cpu;
      memory = v.memory;
      vectored = v.vectored;
    } in Ok u) e

branch_comes : (v : MachineView) (rip to : ℕ) (f : Flags) (z : Bool) → f.zero ≡ z
    → IsNear (rip + 6) to → HasCode v.memory rip (jump_equal (rip + 6) to ∷ [])
    → Reaches 1 (machine v rip f) (machine v (cond z to (rip + 6)) f)
branch_comes v rip to f z e near code =
    let i = jump_equal (rip + 6) to in
    let d = distance (rip + 6) to in
    let next : rip + size i ≡ rip + 6 = ap (λ (n : ℕ). rip + n) (jump_if_size d) in
    one_reaches i v v rip (cond z to (rip + 6)) f f (short (rip + 6) to near) refl code
    (branch_effect v (rip + size i) d f conditions.Equal z e
    ∙ ap (λ (n : ℕ). Ok (machine v (cond z ((n + d) % 2 ^ 64) n) f)) next
    ∙ ap (λ (n : ℕ). Ok (machine v (cond z n (rip + 6)) f)) (arrives (rip + 6) to near))

-- the three parts, one after another
three_then : (l m n : ℕ) (s t u w : State) → Reaches l s t → Reaches m t u → Reaches n u w
    → Reaches (l + (m + n)) s w
three_then l m n s t u w a b c = reaches_then l (m + n) s t w a (reaches_then m n t u w b c)

pub jump_if_zero_comes : (p : FramePlace) (slot : Slot) (v : MachineView) (rip to : ℕ) (f : Flags)
    (b : BodyState) (z : Bool) → eqb (b.slots slot) 0 ≡ z → Roomy p → IsThere p slot
    → AreArrived p v → sp_of v ≡ p.sp → IsNear (rip + sizes (test_code p.layout slot) + 6) to
    → FrameHolds p v.locals v.memory b → HasCode v.memory rip
    (jump_if_zero_code p.layout slot rip to)
    → ReachesBody p (length (jump_if_zero_code p.layout slot rip to)) (machine v rip f)
    (cond z to (rip + sizes (test_code p.layout slot) + 6)) v.rest v.locals b
jump_if_zero_comes p slot v rip to f b z e room is here at near h code =
    let y = p.layout in
    let first = fetch y Rax slot in
    let there = rip + sizes (test_code y slot) in
    let branch = jump_equal (there + 6) to in
    let w = put true v (b.slots slot) in
    let parts = code_split v.memory rip first (compare_zero ∷ branch ∷ []) code in
    let parts' = code_split v.memory (rip + sizes first) (compare_zero ∷ []) (branch ∷ [])
    parts.1 in
    let r = runs_view first v w rip f (fetch_fine y p.counts p.sp p.base true slot room is) parts.0
    (fetch_does y p.counts p.reserved p.sp p.base p.arrived room true slot v b is here at h) in
    let t = test_comes w (rip + sizes first) r.left parts'.0 in
    let mid : rip + sizes first + size compare_zero
    ≡ there = omega (arith, sizes_append first (compare_zero ∷ [])) in
    let mid' : rip + sizes first + sizes (compare_zero ∷ [])
    ≡ there = omega (arith, sizes_append first (compare_zero ∷ [])) in
    let g = zero_flags w in
    let c = branch_comes w there to g z (zero_holds w (h.small slot is) ∙ e) near
    (subst (λ a. HasCode v.memory a (branch ∷ [])) mid' parts'.1) in
    let turns : length first + (1 + 1) ≡ length (first ++ (compare_zero ∷ branch ∷ [])) = sym
    (length-append first (compare_zero ∷ branch ∷ [])) in
    subst (λ k. ReachesBody p k (machine v rip f) (cond z to (there + 6)) v.rest v.locals b) turns
    (stays p (length first + (1 + 1)) v w rip (cond z to (there + 6)) f g b
    (three_then (length first) 1 1 (machine v rip f) (machine w (rip + sizes first) r.left)
    (machine w there g) (machine w (cond z to (there + 6)) g) r.comes
    (subst (λ a. Reaches 1 (machine w (rip + sizes first) r.left) (machine w a g)) mid t) c)
    refl refl refl h)
