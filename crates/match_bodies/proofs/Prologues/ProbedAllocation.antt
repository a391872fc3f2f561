-- A large allocation keeps the shadow: its size is put into RAX, `__chkstk` touches its pages, and
-- RSP falls by RAX.
use Rattle.std.proofs.Common.{◌≡◌, ℕ, suc, ◌+◌, ◌-◌, ◌*◌, ◌/◌, ◌^◌, ◌<◌, ◌≤◌, true, List, [], ◌∷◌, refl, sym, ap, subst, ◌∙◌, arith}
use Rattle.std.proofs.lemmas.Bool.{lt-ltb}
use Rattle.match_bodies.specs.Words.{Memory, W32, Rax, Rsp, Instr, is_encodable, Context, context_of, State, register, with_rip, word, AllSmall, size, sizes, IsNear, call, check_stack, Steps, HasCode, StackItem, KeepsShadow, AllKeep, context_below, FindsReturn, FindsOwed, Owed, IsOwed, Setting, opcode_register, modrm}
use Rattle.eh_tables.specs.declared.code.UnwindOperation.{UnwindOperation}
use Rattle.eh_tables.specs.declared.code.UnwindOperation.TheVariants.{Allocate}
use Rattle.x64_instr.specs.declared.operand.RegisterOrMemory.TheVariants as places
use Rattle.x64_instr.specs.declared.operand.Operand.TheVariants as operands
use Rattle.x64_instr.specs.declared.instruction.Instr.TheVariants as instrs
use Rattle.frame_rules.specs.Codes.{depth, are_allowed}
use Rattle.frame_rules.proofs.Order.{Ordered}
use Rattle.match_bodies.proofs.Lemmas.{call_size, code_split, keep_first}
use Rattle.match_bodies.proofs.Steps.InstructionEffects.{others_of, puts_rax}
use Rattle.match_bodies.proofs.Walks.OwedCallers.{owed_depth}
use Rattle.match_bodies.proofs.Walks.SilentTurns.{program_kept}
use Rattle.match_bodies.proofs.Walks.RoutineWalks.{effect_here, code_next, StepsTo, steps_split, keeps_split, Beneath}
use Rattle.match_bodies.proofs.Walks.ShadowTurns.{called, above_called, owed_called, call_keeps_shadow}
use Rattle.match_bodies.proofs.Prologues.StackCheck.{return_size, Checking, checked}
use Rattle.match_bodies.proofs.Prologues.PrologueSteps.{of_codes, falling, idles, made_by_rax}
use Rattle.match_bodies.specs.Setting.{HasProgram}

-- ---- sizes

pub move_size : (n : ℕ) → size (instrs.Move W32 (places.Register Rax) (operands.Immediate n)) ≡ 5
unfolding size opcode_register
move_size n = refl

pub falling_size : size falling ≡ 3
unfolding size modrm
falling_size = refl

-- ---- its turns

-- three, and those of `__chkstk`
abbrev pub large_turns : ℕ → ℕ
large_turns k = 8 + 4 * (k / 4096)

-- k bytes, by three instructions from an address on, where these codes are still to be undone
module _ (setting : Setting) (f offset top from back : ℕ) (others : List ℕ) (list : List StackItem)
    (close : offset < 2 ^ 16) (small : AllSmall others) (high : top < 2 ^ 63) (k at : ℕ)
    (ops : List UnwindOperation) where
  open setting use {functions as t, funclets as fs, program, plan as p, sites as q, image}

  abbrev owed : Owed
  owed = of_codes f offset ops

  abbrev next : ℕ
  next = at + 10

  abbrev first : Instr
  first = instrs.Move W32 (places.Register Rax) (operands.Immediate k)

  abbrev second : Instr
  second = call next q.check_stack

  pub record IsLargeAt : Type 0 where
    pub large : 4096 < k
    pub most : k < 2 ^ 31
    pub room : depth (Allocate k ∷ ops) ≤ top
    pub order : Ordered (Allocate k ∷ ops)
    pub allowed : are_allowed f (Allocate k ∷ ops) ≡ true
    pub near : IsNear next q.check_stack
    pub there : (m : Memory) → HasProgram setting m
        → HasCode m at (first ∷ second ∷ falling ∷ [])
    pub first_found : (m : Memory) → FindsOwed t m at owed
    pub second_found : (m : Memory) → FindsOwed t m (at + 5) owed
    pub third_found : (m : Memory) → FindsOwed t m next owed
    pub after_found : (m : Memory) → HasProgram setting m
        → FindsOwed t m (at + 13) (of_codes f offset (Allocate k ∷ ops))

  -- it has been made, in so many turns
  pub record Taken (n : ℕ) (e u : State) : Type 0 where
    pub keeps : AllKeep t fs n e
    pub beneath : Beneath t u (of_codes f offset (Allocate k ∷ ops)) top from back others list
    pub has : HasProgram setting u.memory
    pub rip : u.cpu.rip ≡ at + 13

  module _ (l : IsLargeAt) where
    kept : (s u : State) → Steps s u → HasProgram setting s.memory → HasProgram setting u.memory
    kept s u st has = program_kept t fs program p q s.memory u.memory
        (record { protection = st.protection; fixed = st.fixed }) has

    third_there : (m : Memory) → HasProgram setting m → HasCode m next (falling ∷ [])
    third_there m h =
        let two = code_split m at (first ∷ second ∷ []) (falling ∷ []) (l.there m h) in
        let z : at + sizes (first ∷ second ∷ []) ≡ next = let a = move_size k in
        let c = call_size next q.check_stack in omega arith in
        subst (λ a. HasCode m a (falling ∷ [])) z two.1

    -- RSP falls
    last_made : (v w : State) → Beneath t v owed top from back others list → v.cpu.rip ≡ next
        → register v.cpu Rax ≡ k → Steps v w → HasProgram setting v.memory → Taken 1 v w
    last_made v w b' here rax st has' =
        let code = subst (λ a. HasCode v.memory a (falling ∷ [])) (sym here)
        (third_there v.memory has') in
        let has = kept v w st has' in
        let three = falling_size in
        let to : v.cpu.rip + size falling ≡ at + 13 = omega arith in
        let m = made_by_rax t fs f offset top from back others list close small high v w [] k ops
        st b' l.order l.allowed l.room rax code
        (subst (λ a. FindsOwed t v.memory a owed) (sym here) (l.third_found v.memory))
        (subst (λ a. FindsOwed t w.memory a (of_codes f offset (Allocate k ∷ ops))) (sym to)
        (l.after_found w.memory has)) in
        record {
          keeps = keep_first t fs 0 v w st.steps m.keeps tt;
          beneath = m.beneath;
          has = has;
          rip = m.rip ∙ to;
        }

    module _ (e u : State) (here : e.cpu.rip ≡ at)
        (beneath : Beneath t e owed top from back others list) (has : HasProgram setting e.memory)
      where
        -- its size is put into RAX
        record Put (v : State) : Type 0 where
          keeps : KeepsShadow t fs e v
          below : Beneath t v owed top from back others list
          rip : v.cpu.rip ≡ at + 5
          rax : register v.cpu Rax ≡ k
          code : HasCode v.memory v.cpu.rip (second ∷ falling ∷ [])
          program_there : HasProgram setting v.memory

        puts : (v : State) → Steps e v → Put v
        puts v st =
            let most = l.most in
            let a = move_size k in
            let enc : is_encodable first ≡ true = lt-ltb k (2 ^ 32) (omega arith) in
            let code = subst (λ x. HasCode e.memory x (first ∷ second ∷ falling ∷ [])) (sym here)
            (l.there e.memory has) in
            let five : at + 5 ≡ e.cpu.rip + size first = omega arith in
            let one = idles t fs f offset top from back others list e v first
            (second ∷ falling ∷ []) ops refl enc code st beneath
            (subst (λ x. FindsOwed t e.memory x owed) (sym here) (l.first_found e.memory))
            (subst (λ x. FindsOwed t v.memory x owed) five (l.second_found v.memory)) in
            record {
              keeps = one.keeps;
              below = one.beneath;
              rip = one.rip ∙ sym five;
              rax = puts_rax (with_rip e (e.cpu.rip + size first)) v k beneath.count (omega arith)
                  (effect_here e v first (second ∷ falling ∷ []) enc code st.steps);
              code = code_next e v first (second ∷ falling ∷ []) enc code st one.rip;
              program_there = kept e v st has;
            }

        -- `__chkstk` is called
        record Entered (v w : State) : Type 0 where
          keeps : KeepsShadow t fs v w
          checking : Checking setting owed top from back others list next k
              (register w.cpu Rsp + 8) l.third_found w 0 check_stack
          room : k ≤ register w.cpu Rsp + 8
          under : register w.cpu Rsp + 8 < 2 ^ 63

        enters : (v w : State) → Put v → Steps v w → Entered v w
        enters v w h st =
            let large = l.large in
            let room = l.room in
            let up = owed_depth v.memory (context_of v.cpu) owed h.below.size back others
            h.below.owed in
            let size' = h.below.at in
            let sp = register v.cpu Rsp - 8 in
            let below : register v.cpu Rsp ≡ sp + 8 = omega arith in
            let to : v.cpu.rip + 5 ≡ next = omega (arith, h.rip) in
            let n = return_size in
            let here' = subst (λ x. FindsOwed t v.memory x owed) (sym h.rip)
            (l.second_found v.memory) in
            let c = called t fs owed top from back others list v w st h.below sp q.check_stack
            below next to l.near (falling ∷ []) h.code in
            let above' = above_called t fs owed top from back others list v w st h.below sp
            q.check_stack below next to l.near (falling ∷ []) h.code in
            let owed' = owed_called t fs owed top from back others list v w st h.below sp
            q.check_stack below next to l.near (falling ∷ []) h.code in
            let z : q.check_stack + 0 ≡ q.check_stack = omega arith in
            let has' = kept v w st h.program_there in
            let stack = c.stack in
            let same : context_below next (sp + 8) (others_of v.cpu.registers)
            ≡ context_below next (register w.cpu Rsp + 8) (others_of w.cpu.registers) =
            λ j. context_below next (sym c.stack j + 8) (sym c.others j) in
            let check_found = image.callers_outside.check_stack w.memory 0 (omega arith) in
            record {
              keeps = call_keeps_shadow t fs owed top from back others list v w st h.below sp
                  q.check_stack below next to l.near (falling ∷ []) h.code here'
                  (subst (λ x. FindsReturn t w.memory x) z check_found)
                  (l.third_found w.memory);
              checking = record {
                probing = record {
                  above = above';
                  count = c.count ∙ h.below.count;
                  size = h.below.size;
                  at = omega (arith, c.stack);
                  owed = subst (λ (x : Context). IsOwed w.memory x owed h.below.size back others)
                      same owed';
                  pushed = ap (word w.memory) c.stack ∙ c.pushed;
                  rax = c.rax ∙ h.rax;
                };
                rip = c.rip ∙ sym z;
                code = subst (λ x. HasCode w.memory x check_stack) (sym c.rip) has'.check_stack;
                program_there = has';
                inside = omega arith;
              };
              room = omega arith;
              under = omega arith;
            }

        pub large_taken : StepsTo (large_turns k) e u → Taken (large_turns k) e u
        large_taken r =
            let large = l.large in
            let middle = 5 + 4 * (k / 4096) in
            let z : large_turns k ≡ suc (suc (middle + 1)) = omega arith in
            let r1 = subst (λ n. StepsTo n e u) z r in
            let r2 = r1.2 in
            let v = r1.0 in
            let w = r2.0 in
            let one = puts v r1.1 in
            let two = enters v w one r2.1 in
            let parts = steps_split middle 1 w u r2.2 in
            let x = parts.0 in
            let three = checked setting owed top from back others list next k
            (register w.cpu Rsp + 8) l.third_found w x parts.1 two.checking refl (omega arith)
            two.room two.under in
            let last = parts.2 in
            let rest = last_made x last.0 three.beneath three.rip three.rax last.1 three.has in
            let four : Taken 1 x u = subst (Taken 1 x) last.2 rest in
            record {
              keeps = subst (λ n. AllKeep t fs n e) (sym z)
                  (keep_first t fs (suc (middle + 1)) e v r1.1.steps one.keeps
                  (keep_first t fs (middle + 1) v w r2.1.steps two.keeps
                  (keeps_split t fs middle 1 w x parts.1 three.keeps four.keeps)));
              beneath = four.beneath;
              has = four.has;
              rip = four.rip;
            }
