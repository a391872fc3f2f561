-- `__chkstk` touches each page of a large frame, from the top down, and comes back.
use Rattle.std.proofs.Common.{◌≡◌, ℕ, zero, suc, ◌+◌, ◌-◌, ◌*◌, ◌/◌, ◌%◌, ◌^◌, ◌<◌, ◌≤◌, Bool, true, false, cond, [], ◌∷◌, ◌++◌, Ok, ℤ, refl, sym, ap, subst, ◌∙◌, arith, inl, inr}
use Rattle.std.specs.Prelude.{not, int_lt}
use Rattle.std.proofs.lemmas.Bool.{cases_lt, lt-ltb, le-ltb}
use Rattle.x64_templates.specs.Words.{W8, W64, low, signed, Memory, may_read, number_at, Rax, Rsp, R10, R11, Reg, Instr, Flags, subtracted, holds, ◌>>=◌, Answer, computed, load, with_flags, effect, Signed, MachineView, machine, Executes, size, sizes, above, sp_of, HasBack, moved, check_stack, touching, touched_range, Reaches, HasCode, first_touch, page_down, loop_back, modrm}
use Rattle.x64_instr.specs.declared.operand.RegisterOrMemory.TheVariants as places
use Rattle.x64_instr.specs.declared.operand.Operand.TheVariants as operands
use Rattle.x64_instr.specs.declared.instruction.Condition.TheVariants as conditions
use Rattle.x64_instr.specs.declared.instruction.Operation.TheVariants as arithmetic
use Rattle.x64_instr.specs.declared.instruction.Instr.TheVariants as instrs
use Rattle.x64_templates.proofs.Lemmas.{signed_low, signed_high}
use Rattle.x64_templates.proofs.PlacedCode.{all_may, reaches_then}
use Rattle.x64_templates.proofs.Straight.{executes_one, executes_then}
use Rattle.x64_templates.proofs.Encoded.{Fine}
use Rattle.x64_templates.proofs.Compares.{flags_after, not_less_holds}
use Rattle.x64_templates.proofs.Computes.{code_split, runs_view}
use Rattle.x64_templates.proofs.Jumps.{one_reaches, branch_effect}
use Rattle.x64_templates.proofs.Returns.{return_effect}
use Rattle.x64_templates.proofs.Information.{load_any}

-- R10 and R11
abbrev pub with_probes : MachineView → ℕ → ℕ → MachineView
with_probes v x y = record v { rest = record v.rest { r10 = x; r11 = y } }

abbrev with_eleventh : MachineView → ℕ → MachineView
with_eleventh v x = record v { rest = record v.rest { r11 = x } }

-- ---- the jump, by a comparison of addresses

abbrev pub goes : ℕ → ℕ → Bool
goes x y = holds (flags_after W64 x y) conditions.GreaterOrEqual

goes_by : (x y : ℕ) (i j : ℤ) (l : Bool) → signed W64 x ≡ i → signed W64 y ≡ j → int_lt i j ≡ l
    → goes x y ≡ not l
goes_by x y i j l ei ej e = not_less_holds Signed W64 x y
    ∙ ap (λ (k : ℤ). not (int_lt k (signed W64 y))) ei ∙ ap (λ (k : ℤ). not (int_lt i k)) ej
    ∙ ap not e

-- back, where the first is no less
pub goes_back : (x y : ℕ) → y ≤ x → x < 2 ^ 63 → goes x y ≡ true
goes_back x y le lt = goes_by x y _ _ false (signed_low W64 x lt) (signed_low W64 y (omega arith))
    (le-ltb x y le)

-- on, where it is less
pub goes_on : (x y : ℕ) → x < y → y < 2 ^ 63 → goes x y ≡ false
goes_on x y lt high = goes_by x y _ _ true (signed_low W64 x (omega arith))
    (signed_low W64 y high) (lt-ltb x y lt)

-- and where it has fallen below 0
pub goes_on_below : (x y : ℕ) → 2 ^ 63 ≤ x → x < 2 ^ 64 → y < 2 ^ 63 → goes x y ≡ false
goes_on_below x y le lt high = goes_by x y _ _ true (signed_high W64 x le lt)
    (signed_low W64 y high) refl

-- ---- the instructions

-- a byte is read, and only the flags change
touches : (v : MachineView) (addr at : ℕ) (i : Instr)
    → ((rip : ℕ) (f : Flags) → effect (machine v rip f) i
    ≡ (load v.memory addr W8 >>= λ x. Ok (with_flags (machine v rip f)
    (computed arithmetic.And W8 x (low W8 v.rax)).1))) → addr ≡ at → at < 2 ^ 63
    → may_read v.memory at ≡ true → Executes (i ∷ []) v v
touches v addr at i h e lt may = executes_one i v v (λ rip f. (
  (computed arithmetic.And W8 (number_at v.memory.byte 1 at) (low W8 v.rax)).1,
  h rip f
      ∙ ap (λ (a : ℕ). load v.memory a W8 >>= λ x. Ok
      (with_flags (machine v rip f) (computed arithmetic.And W8 x (low W8 v.rax)).1)) e
      ∙ ap (λ (o : Answer ℕ). o >>= λ x. Ok (with_flags (machine v rip f)
      (computed arithmetic.And W8 x (low W8 v.rax)).1))
      (load_any v.memory at W8 (all_may (may_read v.memory) 1 at (omega arith)
      (λ a p q. let z : at ≡ a = omega arith in ap (may_read v.memory) (sym z) ∙ may))),
))

abbrev touch : Reg → Instr
touch r = instrs.Test W8 (places.Memory (above r 0)) (operands.Register Rax)

abbrev to_next : Instr
to_next = instrs.LoadAddress W64 R10 (above R10 page_down)

abbrev compare_end : Instr
compare_end = instrs.Arithmetic arithmetic.Compare W64 (places.Register R10)
    (operands.Register R11)

abbrev again : Instr
again = instrs.JumpIf conditions.GreaterOrEqual loop_back

abbrev to_eleventh : Instr
to_eleventh = instrs.LoadAddress W64 R11 (above Rsp 8)

abbrev lower_eleventh : Instr
lower_eleventh = instrs.Arithmetic arithmetic.Sub W64 (places.Register R11) (operands.Register Rax)

abbrev to_tenth : Instr
to_tenth = instrs.LoadAddress W64 R10 (above Rsp first_touch)

lowered : (v : MachineView) (top n : ℕ) → v.rest.r11 ≡ top → v.rax ≡ n → n ≤ top
    → top < 2 ^ 64 → Executes (lower_eleventh ∷ []) v (with_eleventh v (top - n))
unfolding subtracted
lowered v top n is rax le lt = executes_one lower_eleventh v (with_eleventh v (top - n)) (λ rip f. (
  (subtracted W64 (low W64 (v.rest.r11)) (low W64 v.rax)).1,
  ap (λ (x : ℕ). Ok (machine (with_eleventh v x) rip
      (subtracted W64 (low W64 (v.rest.r11)) (low W64 v.rax)).1))
      (let q : low W64 (low W64 (low W64 (v.rest.r11) + (2 ^ 64 - low W64 v.rax)))
      ≡ top - n = omega arith in q),
))

-- ---- the loop, at an address, with the frame's end in R11

loop_size : sizes touching ≡ 20
unfolding size modrm
loop_size = refl

module _ (v : MachineView) (low_end at : ℕ) (code : HasCode v.memory at touching) where
  abbrev probing : ℕ → MachineView
  probing x = with_probes v x low_end

  touch_does : (x y : ℕ) → x < 2 ^ 63 → may_read v.memory x ≡ true
      → (x + page_down) % 2 ^ 64 ≡ y
      → Executes (touch R10 ∷ to_next ∷ []) (probing x) (probing y)
  touch_does x y lt may e =
      let here : (x + 0 + 0) % 2 ^ 64 ≡ x = omega arith in
      let next : low W64 ((x + 0 + page_down) % 2 ^ 64) ≡ y = omega arith in
      executes_then (touch R10 ∷ []) (to_next ∷ []) (probing x) (probing x) (probing y)
      (touches (probing x) ((x + 0 + 0) % 2 ^ 64) x (touch R10) (λ rip f. refl) here lt may)
      (executes_one to_next (probing x) (probing y)
      (λ rip f. (f, ap (λ (a : ℕ). Ok (machine (probing a) rip f)) next)))

  -- one page is touched
  record Turned (x y : ℕ) (z : Bool) (f : Flags) : Type 0 where
    flags : Flags
    comes : Reaches 4 (machine (probing x) at f)
        (machine (probing y) (cond z at (at + sizes touching)) flags)

  turn : (x y : ℕ) (z : Bool) (f : Flags) → x < 2 ^ 63 → may_read v.memory x ≡ true
      → (x + page_down) % 2 ^ 64 ≡ y → goes y low_end ≡ z → Turned x y z f
  turn x y z f lt may e jumps =
      let m = v.memory in
      let long = loop_size in
      let low = code.placed.low in
      let high = code.placed.high in
      let w = probing y in
      let two = touch R10 ∷ to_next ∷ [] in
      let p = code_split m at two (compare_end ∷ again ∷ []) code in
      let q = code_split m (at + sizes two) (compare_end ∷ []) (again ∷ []) p.1 in
      let r = runs_view two (probing x) w at f (refl, refl, refl, (refl, refl, refl, tt)) p.0
      (touch_does x y lt may e) in
      let g = flags_after W64 y low_end in
      let there = at + sizes two + sizes (compare_end ∷ []) in
      let b = one_reaches compare_end w w (at + sizes two) there r.left g refl refl q.0
      (ap (λ (a : ℕ). Ok (machine w a g))
      (let s : at + sizes two + size compare_end ≡ there = omega arith in s)) in
      let back : (there + size again + loop_back) % 2 ^ 64 ≡ at = omega arith in
      let on : there + size again ≡ at + sizes touching = omega arith in
      let c = one_reaches again w w there (cond z at (at + sizes touching)) g g refl refl q.1
      (branch_effect w (there + size again) loop_back g conditions.GreaterOrEqual z jumps
      ∙ ap (λ (a : ℕ). Ok (machine w (cond z a (there + size again)) g)) back
      ∙ ap (λ (a : ℕ). Ok (machine w (cond z at a) g)) on) in
      record {
        flags = g;
        comes = reaches_then 2 2 (machine (probing x) at f)
            (machine w (at + sizes two) r.left) (machine w (cond z at (at + sizes touching)) g)
            r.comes
            (reaches_then 1 1 (machine w (at + sizes two) r.left) (machine w there g)
            (machine w (cond z at (at + sizes touching)) g) b c);
      }

  -- all are, k after the one at R10
  record Touched (k x : ℕ) (f : Flags) : Type 0 where
    tenth : ℕ
    flags : Flags
    comes : Reaches (4 * suc k) (machine (probing x) at f)
        (machine (probing tenth) (at + sizes touching) flags)

  all_touched : (k x : ℕ) (f : Flags) → low_end + 4096 * k ≤ x → x < low_end + 4096 * k + 4096
      → x < 2 ^ 47 → ((a : ℕ) → low_end ≤ a → a ≤ x → may_read v.memory a ≡ true)
      → Touched k x f
  all_touched zero x f le lt high may =
      let y = (x + page_down) % 2 ^ 64 in
      let t = turn x y false f (omega arith) (may x (omega arith) (omega arith)) refl
      (last_goes_on x le lt high) in
      record { tenth = y; flags = t.flags; comes = t.comes }
    where
      last_goes_on : (x : ℕ) → low_end + 4096 * zero ≤ x → x < low_end + 4096 * zero + 4096
          → x < 2 ^ 47 → goes ((x + page_down) % 2 ^ 64) low_end ≡ false
      last_goes_on x le lt high = elim (cases_lt x 4096) [
        | inl few ↦ goes_on_below ((x + page_down) % 2 ^ 64) low_end (omega arith) (omega arith)
            (omega arith)
        | inr ge ↦ goes_on ((x + page_down) % 2 ^ 64) low_end (omega arith) (omega arith)
      ]
  all_touched (suc k) x f le lt high may =
      let y = x - 4096 in
      let t = turn x y true f (omega arith) (may x (omega arith) (omega arith)) (omega arith)
      (goes_back y low_end (omega arith) (omega arith)) in
      let rest = all_touched k y t.flags (omega arith) (omega arith) (omega arith)
      (λ a lo hi. may a lo (omega arith)) in
      let n : 4 + 4 * suc k ≡ 4 * suc (suc k) = omega arith in
      record {
        tenth = rest.tenth;
        flags = rest.flags;
        comes = subst (λ n. Reaches n (machine (probing x) at f)
            (machine (probing rest.tenth) (at + sizes touching) rest.flags)) n
            (reaches_then 4 (4 * suc k) (machine (probing x) at f) (machine (probing y) at t.flags)
            (machine (probing rest.tenth) (at + sizes touching) rest.flags) t.comes rest.comes);
      }

-- ---- the leaf, from RSP where its return address is

-- the frame may be read
pub record Touchable (m : Memory) (sp n : ℕ) : Type 0 where
  pub enough : n ≤ sp
  pub more : 4096 ≤ n
  pub high : sp < 2 ^ 47
  pub readable : (a : ℕ) → sp ≤ a + n → a < sp → may_read m a ≡ true

range_does : (v : MachineView) (sp n : ℕ) → v.rax ≡ n → sp_of v ≡ sp - 8
    → Touchable v.memory sp n → Executes touched_range v (with_probes v (sp - 4096) (sp - n))
range_does v sp n rax at t =
    let e = t.enough in let hi = t.high in let mo = t.more in
    let above_all : low W64 ((sp_of v + 0 + 8) % 2 ^ 64) ≡ sp = omega arith in
    let first : low W64 ((sp_of v + 0 + first_touch) % 2 ^ 64) ≡ sp - 4096 = omega arith in
    let v1 = with_eleventh v sp in
    let v2 = with_eleventh v (sp - n) in
    let v3 = with_probes v (sp - 4096) (sp - n) in
    executes_then (to_eleventh ∷ []) (lower_eleventh ∷ to_tenth ∷ []) v v1 v3
    (executes_one to_eleventh v v1
    (λ rip f. (f, ap (λ (x : ℕ). Ok (machine (with_eleventh v x) rip f)) above_all)))
    (executes_then (lower_eleventh ∷ []) (to_tenth ∷ []) v1 v2 v3
    (lowered v1 sp n refl rax e (omega arith))
    (executes_one to_tenth v2 v3
    (λ rip f. (f, ap (λ (x : ℕ). Ok (machine (with_probes v x (sp - n)) rip f)) first))))

range_fine : Fine touched_range
range_fine = (refl, refl, refl, (refl, refl, refl, (refl, refl, refl, tt)))

-- it comes back, with RSP risen over its return address
pub record Checked (v : MachineView) (sp n back rip : ℕ) (f : Flags) : Type 0 where
  pub tenth : ℕ
  pub flags : Flags
  pub comes : Reaches (5 + 4 * (n / 4096)) (machine v rip f)
      (machine (moved (with_probes v tenth (sp - n)) sp) back flags)

pub check_run : (v : MachineView) (sp n back rip : ℕ) (f : Flags) → v.rax ≡ n
    → sp_of v ≡ sp - 8 → Touchable v.memory sp n → HasBack v.memory (sp - 8) back
    → HasCode v.memory rip check_stack → Checked v sp n back rip f
check_run v sp n back rip f rax at t b code =
    let e = t.enough in let hi = t.high in let mo = t.more in
    let m = v.memory in
    let last = touch R11 ∷ instrs.Return ∷ [] in
    let k = n / 4096 - 1 in
    let many : 3 + (4 * suc k + (1 + 1)) ≡ 5 + 4 * (n / 4096) = omega arith in
    let p = code_split m rip touched_range (touching ++ last) code in
    let loop = rip + sizes touched_range in
    let q = code_split m loop touching last p.1 in
    let after = loop + sizes touching in
    let z = code_split m after (touch R11 ∷ []) (instrs.Return ∷ []) q.1 in
    let r = runs_view touched_range v (with_probes v (sp - 4096) (sp - n)) rip f range_fine p.0
    (range_does v sp n rax at t) in
    let l = all_touched v (sp - n) loop q.0 k (sp - 4096) r.left (omega arith) (omega arith)
    (omega arith) (λ a lo up. t.readable a (omega arith) (omega arith)) in
    let w = with_probes v l.tenth (sp - n) in
    let here : (sp - n + 0 + 0) % 2 ^ 64 ≡ sp - n = omega arith in
    let s = runs_view (touch R11 ∷ []) w w after l.flags (refl, refl, refl, tt) z.0
    (touches w ((sp - n + 0 + 0) % 2 ^ 64) (sp - n) (touch R11) (λ i g. refl) here (omega arith)
    (t.readable (sp - n) (omega arith) (omega arith))) in
    let end = after + sizes (touch R11 ∷ []) in
    let up : sp - 8 + 8 ≡ sp = omega arith in
    let u = one_reaches instrs.Return w (moved w (sp - 8 + 8)) end back s.left s.left refl refl z.1
    (return_effect w (sp - 8) back (end + size instrs.Return) s.left at (omega arith) b) in
    let to = machine (moved w (sp - 8 + 8)) back s.left in
    let whole = reaches_then 3 (4 * suc k + (1 + 1)) (machine v rip f)
    (machine (with_probes v (sp - 4096) (sp - n)) loop r.left) to r.comes
    (reaches_then (4 * suc k) (1 + 1) (machine (with_probes v (sp - 4096) (sp - n)) loop r.left)
    (machine w after l.flags) to l.comes
    (reaches_then 1 1 (machine w after l.flags) (machine w end s.left) to s.comes u)) in
    record {
      tenth = l.tenth;
      flags = s.left;
      comes = subst (λ (x : ℕ). Reaches x (machine v rip f) (machine (moved w sp) back s.left)) many
          (subst (λ x. Reaches (3 + (4 * suc k + (1 + 1))) (machine v rip f)
          (machine (moved w x) back s.left)) up whole);
    }
