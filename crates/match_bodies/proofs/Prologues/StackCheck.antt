-- `__chkstk` keeps the shadow: it touches a frame page by page, and returns to the prologue that
-- called it.
use Rattle.std.proofs.Common.{◌≡◌, ℕ, zero, suc, ◌+◌, ◌-◌, ◌*◌, ◌/◌, ◌%◌, ◌^◌, ◌<◌, ◌≤◌, Bool, true, false, List, [], ◌∷◌, ◌++◌, Ok, refl, sym, ap, subst, ◌∙◌, arith, inl, inr}
use Rattle.std.specs.Prelude.{slice_index, if◌then◌else◌}
use Rattle.std.proofs.lemmas.Bool.{cases_lt}
use Rattle.seh_num.specs.Widths.{low}
use Rattle.x64_machine.specs.Words.{subtracted}
use Rattle.match_bodies.specs.Words.{Memory, W8, W64, Rax, Rsp, R10, R11, Instr, is_encodable, State, register, with_rip, effect, size, sizes, above, first_touch, page_down, loop_back, touched_range, touching, check_stack, Steps, HasCode, StackItem, KeepsShadow, AllKeep, FindsReturn, FindsOwed, Owed, Setting, modrm, Answer}
use Rattle.x64_instr.specs.declared.operand.RegisterOrMemory.TheVariants as places
use Rattle.x64_instr.specs.declared.operand.Operand.TheVariants as operands
use Rattle.x64_instr.specs.declared.instruction.Condition.{Condition}
use Rattle.x64_instr.specs.declared.instruction.Condition.TheVariants as conditions
use Rattle.x64_instr.specs.declared.instruction.Operation.TheVariants as arithmetic
use Rattle.x64_instr.specs.declared.instruction.Instr.TheVariants as instrs
use Rattle.x64_machine.specs.Conditions.{holds}
use Rattle.match_bodies.proofs.Lemmas.{code_split, keep_first}
use Rattle.x64_templates.proofs.Probing.{goes_back, goes_on, goes_on_below}
use Rattle.match_bodies.proofs.Steps.InstructionEffects.{the_same, others_of, is_idle, loads_address, subtracts, compares, touches}
use Rattle.match_bodies.proofs.Walks.SilentTurns.{program_kept}
use Rattle.match_bodies.proofs.Walks.RoutineWalks.{effect_here, code_next, StepsTo, steps_split, keeps_split, Beneath}
use Rattle.match_bodies.proofs.Walks.ShadowTurns.{Probing, probed, probes, probe_returns}
use Rattle.match_bodies.specs.Setting.{HasProgram}

-- ---- its instructions

abbrev to_base : Instr
to_base = instrs.LoadAddress W64 R11 (above Rsp 8)

abbrev to_end : Instr
to_end = instrs.Arithmetic arithmetic.Sub W64 (places.Register R11) (operands.Register Rax)

abbrev to_first : Instr
to_first = instrs.LoadAddress W64 R10 (above Rsp first_touch)

abbrev touch : Instr
touch = instrs.Test W8 (places.Memory (above R10 0)) (operands.Register Rax)

abbrev down : Instr
down = instrs.LoadAddress W64 R10 (above R10 page_down)

abbrev compared_by : Instr
compared_by =
    instrs.Arithmetic arithmetic.Compare W64 (places.Register R10) (operands.Register R11)

abbrev again : Instr
again = instrs.JumpIf conditions.GreaterOrEqual loop_back

abbrev touch_last : Instr
touch_last = instrs.Test W8 (places.Memory (above R11 0)) (operands.Register Rax)

abbrev ending : List Instr
ending = touch_last ∷ instrs.Return ∷ []

-- where its loop begins, and where that ends
abbrev loop_at : ℕ
loop_at = 0 + size to_base + size to_end + size to_first

abbrev jump_at : ℕ
jump_at = loop_at + size touch + size down + size compared_by

pub return_size : size instrs.Return ≡ 1
unfolding size
return_size = refl

loop_size : size touch + size down + size compared_by + size again ≡ 20
unfolding size modrm
loop_size = refl

-- ---- a jump on a condition

-- it isn't taken where a page further down is below the end, or below 0
goes_past : (x y : ℕ) → x < y + 4096 → x < 2 ^ 63 → y < 2 ^ 63
    → holds (subtracted W64 (low W64 ((x + page_down) % 2 ^ 64)) (low W64 y)).1
    conditions.GreaterOrEqual ≡ false
goes_past x y lt small high = elim (cases_lt x 4096) [
  | inl few ↦ goes_on_below ((x + page_down) % 2 ^ 64) y (omega arith) (omega arith) high
  | inr ge ↦ goes_on ((x + page_down) % 2 ^ 64) y (omega arith) high
]

-- it goes there where the condition holds, and falls through where it does not
record Branches (s u : State) (to : ℕ) : Type 0 where
  memory : u.memory ≡ s.memory
  registers : u.cpu.registers ≡ s.cpu.registers
  rip : u.cpu.rip ≡ to

abbrev branch_target : Bool → (rip d : ℕ) → ℕ
branch_target true rip d = (rip + d) % 2 ^ 64
branch_target false rip d = rip

branches : (s u : State) (c : Condition) (d : ℕ) (b : Bool) → holds s.cpu.flags c ≡ b
    → effect s (instrs.JumpIf c d) ≡ Ok u → Branches s u (branch_target b s.cpu.rip d)
branches s u c d b h e = by b (subst (λ x. ◌≡◌ {A = Answer State} (Ok (record s {
  cpu = if x then record s.cpu { rip = (s.cpu.rip + d) % 2 ^ 64 } else s.cpu;
})) (Ok u)) h e)
  where
    by : (b : Bool) → ◌≡◌ {A = Answer State} (Ok (record s {
      cpu = if b then record s.cpu { rip = (s.cpu.rip + d) % 2 ^ 64 } else s.cpu;
    })) (Ok u) → Branches s u (branch_target b s.cpu.rip d)
    by true is = subst (λ (x : State). Branches s x ((s.cpu.rip + d) % 2 ^ 64)) (the_same is)
        (record { memory = refl; registers = refl; rip = refl })
    by false is = subst (λ (x : State). Branches s x s.cpu.rip) (the_same is)
        (record { memory = refl; registers = refl; rip = refl })

module _ (setting : Setting) where
  open setting use {functions as t, funclets as fs, program, plan as p, sites as q, image}

  -- the prologue goes on at `next`, and k bytes are its frame's, from `base` down
  module _ (o : Owed) (top from back : ℕ) (others : List ℕ) (list : List StackItem)
      (next k base : ℕ) (finds : (m : Memory) → FindsOwed t m next o) where
    -- so many of its bytes have been run
    pub record Checking (v : State) (d : ℕ) (left : List Instr) : Type 0 where
      pub probing : Probing t fs o top from back others list v next k
      pub rip : v.cpu.rip ≡ q.check_stack + d
      pub code : HasCode v.memory v.cpu.rip left
      pub program_there : HasProgram setting v.memory
      pub inside : d < sizes check_stack

    -- it has returned, in so many turns
    pub record Checked (n : ℕ) (v w : State) : Type 0 where
      pub keeps : AllKeep t fs n v
      pub beneath : Beneath t w o top from back others list
      pub has : HasProgram setting w.memory
      pub rip : w.cpu.rip ≡ next
      pub rax : register w.cpu Rax ≡ k

    kept : (s u : State) → Steps s u → HasProgram setting s.memory → HasProgram setting u.memory
    kept s u st has = program_kept t fs program p q s.memory u.memory
        (record { protection = st.protection; fixed = st.fixed }) has

    here_found : (v : State) (d : ℕ) (left : List Instr) → Checking v d left
        → FindsReturn t v.memory v.cpu.rip
    here_found v d left c = subst (λ a. FindsReturn t v.memory a) (sym c.rip)
        (image.callers_outside.check_stack v.memory d c.inside)

    -- what an instruction does
    does : (v w : State) (d : ℕ) (i : Instr) (left : List Instr) → is_encodable i ≡ true
        → Steps v w → Checking v d (i ∷ left) → effect (with_rip v (v.cpu.rip + size i)) i ≡ Ok w
    does v w d i left enc st c = effect_here v w i left enc c.code st.steps

    record Checks (v w : State) (d : ℕ) (left : List Instr) : Type 0 where
      keeps : KeepsShadow t fs v w
      after : Checking w d left

    checks : (v w : State) (d : ℕ) (i : Instr) (left : List Instr) → is_idle i ≡ true
        → is_encodable i ≡ true → d + size i < sizes check_stack → Steps v w
        → register w.cpu Rax ≡ register v.cpu Rax → Checking v d (i ∷ left)
        → Checks v w (d + size i) left
    checks v w d i left idle enc inside st rax c =
        let z : q.check_stack + (d + size i) ≡ v.cpu.rip + size i = omega (arith, c.rip) in
        let one = probes t fs o top from back others list v w next k st c.probing
        (here_found v d (i ∷ left) c) finds i left idle enc c.code rax
        (subst (λ a. FindsReturn t w.memory a) z
        (image.callers_outside.check_stack w.memory (d + size i) inside)) in
        record {
          keeps = one.keeps;
          after = record {
            probing = one.probing;
            rip = one.rip ∙ sym z;
            code = code_next v w i left enc c.code st one.rip;
            program_there = kept v w st c.program_there;
            inside = inside;
          };
        }

    -- ---- its end

    ends : (v w : State) (d : ℕ) → d + size touch_last < sizes check_stack → StepsTo 2 v w
        → Checking v d ending → Checked 2 v w
    ends v w d inside r c =
        let u = r.0 in
        let r2 = r.2 in
        let x = r2.0 in
        let same = touches (with_rip v (v.cpu.rip + size touch_last)) u W8
        (places.Memory (above R11 0)) (operands.Register Rax)
        (does v u d touch_last (instrs.Return ∷ []) refl r.1 c) in
        let one = checks v u d touch_last (instrs.Return ∷ []) refl refl inside r.1
        (ap (λ (rs : List ℕ). slice_index rs 0) same) c in
        let a = one.after in
        let two = probe_returns t fs o top from back others list u x next k r2.1 a.probing
        (here_found u (d + size touch_last) (instrs.Return ∷ []) a) finds [] a.code in
        subst (Checked 2 v) r2.2
        (record {
          keeps = keep_first t fs 1 v u r.1.steps one.keeps
              (keep_first t fs 0 u x r2.1.steps two.keeps tt);
          beneath = two.beneath;
          has = kept u x r2.1 a.program_there;
          rip = two.rip;
          rax = two.rax;
        })

    -- ---- its loop

    -- so many pages have been gone down
    record Touching (v : State) (j : ℕ) : Type 0 where
      checking : Checking v loop_at (touching ++ ending)
      tenth : register v.cpu R10 + 4096 * j ≡ base
      eleventh : register v.cpu R11 + k ≡ base

    record Compared (v w : State) : Type 0 where
      keeps : AllKeep t fs 3 v
      checking : Checking w jump_at (again ∷ ending)
      tenth : register w.cpu R10 ≡ (register v.cpu R10 + page_down) % 2 ^ 64
      eleventh : register w.cpu R11 ≡ register v.cpu R11
      flags : w.cpu.flags
          ≡ (subtracted W64 (low W64 (register w.cpu R10)) (low W64 (register w.cpu R11))).1

    compared : (v w : State) (j : ℕ) → StepsTo 3 v w → Touching v j → Compared v w
    compared v w j r h =
        let n = return_size in
        let v1 = r.0 in
        let r2 = r.2 in
        let v2 = r2.0 in
        let r3 = r2.2 in
        let v3 = r3.0 in
        let same1 = touches (with_rip v (v.cpu.rip + size touch)) v1 W8
        (places.Memory (above R10 0)) (operands.Register Rax)
        (does v v1 loop_at touch (down ∷ compared_by ∷ again ∷ ending) refl r.1 h.checking) in
        let at1 = λ (x : ℕ). ap (λ (rs : List ℕ). slice_index rs x) same1 in
        let c1 = checks v v1 loop_at touch (down ∷ compared_by ∷ again ∷ ending) refl refl
        (omega arith) r.1 (at1 0) h.checking in
        let count1 = c1.after.probing.count in
        let t2 = loads_address (with_rip v1 (v1.cpu.rip + size down)) v2 R10
        (above R10 page_down) count1 (omega arith)
        (does v1 v2 (loop_at + size touch) down (compared_by ∷ again ∷ ending) refl r2.1 c1.after)
        in
        let c2 = checks v1 v2 (loop_at + size touch) down (compared_by ∷ again ∷ ending) refl refl
        (omega arith) r2.1 (t2.beside 0 (λ z. absurd (omega arith))) c1.after in
        let f3 = compares (with_rip v2 (v2.cpu.rip + size compared_by)) v3 R10 R11
        (does v2 v3 (loop_at + size touch + size down) compared_by (again ∷ ending) refl r3.1
        c2.after) in
        let at3 = λ (x : ℕ). ap (λ (rs : List ℕ). slice_index rs x) f3.registers in
        let c3 = checks v2 v3 (loop_at + size touch + size down) compared_by (again ∷ ending) refl
        refl (omega arith) r3.1 (at3 0) c2.after in
        let one = at1 10 in
        let moved : register v2.cpu R10 ≡ (register v.cpu R10 + page_down) % 2 ^ 64 = t2.is
        ∙ (let z : (register v1.cpu R10 + 0 + page_down) % 2 ^ 64 % 2 ^ 64
        ≡ (register v.cpu R10 + page_down) % 2 ^ 64 = omega arith in z) in
        subst (Compared v) r3.2
        (record {
          keeps = keep_first t fs 2 v v1 r.1.steps c1.keeps
              (keep_first t fs 1 v1 v2 r2.1.steps c2.keeps
              (keep_first t fs 0 v2 v3 r3.1.steps c3.keeps tt));
          checking = c3.after;
          tenth = at3 10 ∙ moved;
          eleventh = at3 11 ∙ t2.beside 11 (λ z. absurd (omega arith)) ∙ at1 11;
          flags = f3.flags ∙ (λ i. (subtracted W64 (low W64 (sym (at3 10) i))
              (low W64 (sym (at3 11) i))).1);
        })

    -- after the jump
    record Jumped (w u : State) (d : ℕ) (left : List Instr) : Type 0 where
      keeps : KeepsShadow t fs w u
      checking : Checking u d left
      tenth : register u.cpu R10 ≡ register w.cpu R10
      eleventh : register u.cpu R11 ≡ register w.cpu R11

    jumped : (w u : State) (b : Bool) (d : ℕ) (left : List Instr) → Steps w u
        → Checking w jump_at (again ∷ ending) → holds w.cpu.flags conditions.GreaterOrEqual ≡ b
        → branch_target b (w.cpu.rip + size again) loop_back ≡ q.check_stack + d
        → d < sizes check_stack → HasCode u.memory (q.check_stack + d) left → Jumped w u d left
    jumped w u b d left st c h to inside code =
        let s = with_rip w (w.cpu.rip + size again) in
        let j = branches s u conditions.GreaterOrEqual loop_back b h
        (does w u jump_at again ending refl st c) in
        let at = λ (x : ℕ). ap (λ (rs : List ℕ). slice_index rs x) j.registers in
        let rip : u.cpu.rip ≡ q.check_stack + d = j.rip ∙ to in
        let one = probed t fs o top from back others list w u next k st c.probing
        (here_found w jump_at (again ∷ ending) c) finds again ending (q.check_stack + d) refl
        c.code refl j.memory (at 4) (ap others_of j.registers) (at 0) rip
        (image.callers_outside.check_stack u.memory d inside) in
        record {
          keeps = one.keeps;
          checking = record {
            probing = one.probing;
            rip = rip;
            code = subst (λ a. HasCode u.memory a left) (sym rip) code;
            program_there = kept w u st c.program_there;
            inside = inside;
          };
          tenth = at 10;
          eleventh = at 11;
        }

    -- what follows so many of its instructions
    after_range : (m : Memory) → HasProgram setting m
        → HasCode m (q.check_stack + loop_at) (touching ++ ending)
    after_range m has =
        let z : q.check_stack + sizes touched_range ≡ q.check_stack + loop_at = omega arith in
        subst (λ a. HasCode m a (touching ++ ending)) z
        (code_split m q.check_stack touched_range (touching ++ ending) has.check_stack).1

    -- the jump is taken where a page more is in the frame
    taken : (v w u : State) (j : ℕ) → Touching v j → Compared v w → Steps w u
        → 4096 * suc j ≤ k → k ≤ base → base < 2 ^ 63
        → Jumped w u loop_at (touching ++ ending) × Touching u (suc j)
    taken v w u j h c st more room high =
        let x = c.checking in
        let low' = x.code.placed.low in
        let high' = x.code.placed.high in
        let ten = c.tenth in
        let eleven = c.eleventh in
        let ten' = h.tenth in
        let eleven' = h.eleventh in
        let n = return_size in
        let size20 = loop_size in
        let at = x.rip in
        let a : ℕ = register w.cpu R10 in
        let b : ℕ = register w.cpu R11 in
        let a_is : a + 4096 * suc j ≡ base = omega arith in
        let b_is : b + k ≡ base = omega arith in
        let flag = ap (λ f. holds f conditions.GreaterOrEqual) c.flags
        ∙ goes_back a b (omega arith) (omega arith) in
        let g = jumped w u true loop_at (touching ++ ending) st x flag
        (let z : (w.cpu.rip + size again + loop_back) % 2 ^ 64 ≡ q.check_stack + loop_at =
        omega arith in z) (omega arith) (after_range u.memory (kept w u st x.program_there)) in (
          g,
          record {
            checking = g.checking;
            tenth = ap (λ y. y + 4096 * suc j) g.tenth ∙ a_is;
            eleventh = ap (λ y. y + k) g.eleventh ∙ b_is;
          },
        )

    -- and is not taken after the last one
    left_behind : (v w u : State) (j : ℕ) → Touching v j → Compared v w → Steps w u
        → k < 4096 * suc j → 4096 * j ≤ k → k ≤ base → base < 2 ^ 63
        → Jumped w u (jump_at + size again) ending
    left_behind v w u j h c st more less room high =
        let x = c.checking in
        let n = return_size in
        let ten = c.tenth in
        let ten' = h.tenth in
        let eleven = c.eleventh in
        let eleven' = h.eleventh in
        let at = x.rip in
        let has = kept w u st x.program_there in
        let b : ℕ = register w.cpu R11 in
        let flag = ap (λ f. holds f conditions.GreaterOrEqual) c.flags
        ∙ (λ i. holds (subtracted W64 (low W64 (ten i)) (low W64 b)).1 conditions.GreaterOrEqual)
        ∙ goes_past (register v.cpu R10) b (omega arith) (omega arith) (omega arith) in
        let z : q.check_stack + sizes (touched_range ++ touching)
        ≡ q.check_stack + (jump_at + size again) = omega arith in
        jumped w u false (jump_at + size again) ending st x flag (omega arith) (omega arith)
        (subst (λ a. HasCode u.memory a ending) z
        (code_split u.memory q.check_stack (touched_range ++ touching) ending has.check_stack).1)

    -- with so many rounds left after this one
    rounds : (m j : ℕ) → j + m ≡ k / 4096 → k ≤ base → base < 2 ^ 63 → (v w : State)
        → StepsTo (4 * m + 6) v w → Touching v j → Checked (4 * m + 6) v w
    rounds zero j last room high v w r h =
        let n = return_size in
        let e : 4 * zero + 6 ≡ 3 + 3 = omega arith in
        let a = steps_split 3 3 v w (subst (λ n. StepsTo n v w) e r) in
        let u = a.0 in
        let r4 = a.2 in
        let x = r4.0 in
        let c = compared v u j a.1 h in
        let g = left_behind v u x j h c r4.1 (omega arith) (omega arith) room high in
        let rest = ends x w (jump_at + size again) (omega arith) r4.2 g.checking in
        record {
          keeps = subst (λ n. AllKeep t fs n v) (sym e)
              (keeps_split t fs 3 3 v u a.1 c.keeps
              (keep_first t fs 2 u x r4.1.steps g.keeps rest.keeps));
          beneath = rest.beneath;
          has = rest.has;
          rip = rest.rip;
          rax = rest.rax;
        }
    rounds (suc m) j last room high v w r h =
        let e : 4 * suc m + 6 ≡ 3 + suc (4 * m + 6) = omega arith in
        let a = steps_split 3 (suc (4 * m + 6)) v w (subst (λ n. StepsTo n v w) e r) in
        let u = a.0 in
        let r4 = a.2 in
        let x = r4.0 in
        let c = compared v u j a.1 h in
        let g = taken v u x j h c r4.1 (omega arith) room high in
        let rest = rounds m (suc j) (omega arith) room high x w r4.2 g.1 in
        record {
          keeps = subst (λ n. AllKeep t fs n v) (sym e)
              (keeps_split t fs 3 (suc (4 * m + 6)) v u a.1 c.keeps
              (keep_first t fs (4 * m + 6) u x r4.1.steps g.0.keeps rest.keeps));
          beneath = rest.beneath;
          has = rest.has;
          rip = rest.rip;
          rax = rest.rax;
        }

    -- ---- all of it

    record Ranged (v w : State) : Type 0 where
      keeps : AllKeep t fs 3 v
      touches : Touching w 1

    ranged : (v w : State) → StepsTo 3 v w → Checking v 0 check_stack
        → register v.cpu Rsp + 8 ≡ base → 4096 ≤ k → k ≤ base → base < 2 ^ 63 → Ranged v w
    ranged v w r c at large room high =
        let n = return_size in
        let v1 = r.0 in
        let r2 = r.2 in
        let v2 = r2.0 in
        let r3 = r2.2 in
        let v3 = r3.0 in
        let more2 = to_first ∷ touching ++ ending in
        let t1 = loads_address (with_rip v (v.cpu.rip + size to_base)) v1 R11 (above Rsp 8)
        c.probing.count (omega arith) (does v v1 0 to_base (to_end ∷ more2) refl r.1 c) in
        let c1 = checks v v1 0 to_base (to_end ∷ more2) refl refl (omega arith) r.1
        (t1.beside 0 (λ z. absurd (omega arith))) c in
        let based : register v1.cpu R11 ≡ base = t1.is
        ∙ (let z : (register v.cpu Rsp + 0 + 8) % 2 ^ 64 % 2 ^ 64 ≡ base = omega arith in z) in
        let t2 = subtracts (with_rip v1 (v1.cpu.rip + size to_end)) v2 R11 Rax base k
        c1.after.probing.count (omega arith) based c1.after.probing.rax room (omega arith)
        (does v1 v2 (0 + size to_base) to_end more2 refl r2.1 c1.after) in
        let c2 = checks v1 v2 (0 + size to_base) to_end more2 refl refl (omega arith) r2.1
        (t2.beside 0 (λ z. absurd (omega arith))) c1.after in
        let sp = t2.beside 4 (λ z. absurd (omega arith))
        ∙ t1.beside 4 (λ z. absurd (omega arith)) in
        let t3 = loads_address (with_rip v2 (v2.cpu.rip + size to_first)) v3 R10
        (above Rsp first_touch) c2.after.probing.count (omega arith)
        (does v2 v3 (0 + size to_base + size to_end) to_first (touching ++ ending) refl r3.1
        c2.after) in
        let c3 = checks v2 v3 (0 + size to_base + size to_end) to_first (touching ++ ending) refl
        refl (omega arith) r3.1 (t3.beside 0 (λ z. absurd (omega arith))) c2.after in
        let first : (register v2.cpu Rsp + 0 + first_touch) % 2 ^ 64 % 2 ^ 64 + 4096 * 1
        ≡ base = omega arith in
        let end : base - k + k ≡ base = omega arith in
        subst (Ranged v) r3.2
        (record {
          keeps = keep_first t fs 2 v v1 r.1.steps c1.keeps
              (keep_first t fs 1 v1 v2 r2.1.steps c2.keeps
              (keep_first t fs 0 v2 v3 r3.1.steps c3.keeps tt));
          touches = record {
            checking = c3.after;
            tenth = ap (λ x. x + 4096 * 1) t3.is ∙ first;
            eleventh = ap (λ x. x + k) (t3.beside 11 (λ z. absurd (omega arith)) ∙ t2.is) ∙ end;
          };
        })

    pub checked : (v w : State) → StepsTo (5 + 4 * (k / 4096)) v w → Checking v 0 check_stack
        → register v.cpu Rsp + 8 ≡ base → 4096 ≤ k → k ≤ base → base < 2 ^ 63
        → Checked (5 + 4 * (k / 4096)) v w
    checked v w r c at large room high =
        let m = k / 4096 - 1 in
        let e : 5 + 4 * (k / 4096) ≡ 3 + (4 * m + 6) = omega arith in
        let a = steps_split 3 (4 * m + 6) v w (subst (λ n. StepsTo n v w) e r) in
        let u = a.0 in
        let one = ranged v u a.1 c at large room high in
        let rest = rounds m 1 (omega arith) room high u w a.2 one.touches in
        record {
          keeps = subst (λ n. AllKeep t fs n v) (sym e)
              (keeps_split t fs 3 (4 * m + 6) v u a.1 one.keeps rest.keeps);
          beneath = rest.beneath;
          has = rest.has;
          rip = rest.rip;
          rax = rest.rax;
        }
