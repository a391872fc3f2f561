-- Where a funclet begins its frame is made, and the base is kept in it: RDX, or what the parent's
-- frame in RDX keeps.
use Rattle.std.proofs.Common.{◌≡◌, ℕ, ◌+◌, ◌%◌, ◌^◌, ◌<◌, ◌≤◌, true, false, Option, Some, None, Ok, List, [], ◌∷◌, ◌++◌, length, refl, sym, ap, subst, ◌∙◌, arith}
use Rattle.match_turns.specs.Words.{Memory, may_read, may_write, first_refused, number_at, access, readable, Rax, Rdx, Instr, Flags, Answer, load, W64, low, sizes, check_stack, keep_register, keep_parents_base, MachineView, machine, Executes, sp_of, HasCode, Enters, keep_base, fetched}
use Rattle.virtual_unwind.specs.Undone.{word}
use Rattle.seh_num.specs.Answers.{◌>>=◌}
use Rattle.frame_rules.specs.Bytes.{prologue_code}
use Rattle.frame_rules.specs.Codes.{depth}
use Rattle.frame_rules.specs.Plan.{FramePlan, IsPlan, operations_of, turned}
use Rattle.frame_rules.specs.States.{IsEntry, registers}
use Rattle.x64_templates.specs.Prologues.{AreProbed, none_stores, prologue_turns}
use Rattle.match_turns.proofs.Lemmas.{sizes_append, all_may, load_at, enters_then, executes_one, executes_then, put, code_split, runs_view, near, Fine, kept_at, keeps_register, HasCell, keeps_of_cell, base_kept, Within, within_cell}
use Rattle.match_turns.proofs.Functions.FunctionPrologue.{made_view}
use Rattle.x64_templates.proofs.Calls.{word_is}

-- a word that is read may be read
pub word_readable : (m : Memory) (at v : ℕ) → word m at ≡ Ok v
    → (first_refused (may_read m) 8 at ≡ None) × (number_at m.byte 8 at ≡ v)
word_readable m at v e = by (first_refused (may_read m) 8 at) refl e
  where
    by : (o : Option ℕ) → first_refused (may_read m) 8 at ≡ o
        → readable at (access false o (number_at m.byte 8 at)) ≡ Ok v
        → (first_refused (may_read m) 8 at ≡ None) × (number_at m.byte 8 at ≡ v)
    by None is e = (is, let n : number_at m.byte 8 at ≡ v = cc in n)
    by (Some a) is e = cc

abbrev with_rax : MachineView → ℕ → MachineView
with_rax v x = put true v x

-- ---- what RDX leads to: the base itself, or the parent's frame, which keeps it so far above

pub record KeptAbove (m : Memory) (frame away base : ℕ) : Type 0 where
  pub near : away < 2 ^ 31
  pub room : frame + away + 8 < 2 ^ 64
  pub kept : word m (frame + away) ≡ Ok base

abbrev pub LeadsBy : Memory → Option ℕ → (frame base : ℕ) → Type 0
LeadsBy m None frame base = frame ≡ base
LeadsBy m (Some away) frame base = KeptAbove m frame away base

-- the base goes from the parent's frame to the funclet's own
parents_base : (v : MachineView) (sp b base frame parent : ℕ) → sp_of v ≡ sp → v.rdx ≡ frame
    → KeptAbove v.memory frame parent base → base < 2 ^ 64 → HasCell v.memory (sp + b)
    → Executes (keep_parents_base parent b) v (kept_at (put true v base) (sp + b) base)
parents_base v sp b base frame parent at is keeps lt c =
    let h = c.high in
    let room = keeps.room in
    let w = put true v base in
    let from = frame + parent in
    let e : (v.rdx + 0 + parent) % 2 ^ 64 ≡ from = omega arith in
    let r = word_readable v.memory from base keeps.kept in
    executes_then (fetched Rax Rdx parent ∷ []) (keep_register Rax b ∷ []) v w
    (kept_at w (sp + b) base)
    (executes_one (fetched Rax Rdx parent) v w (λ rip f. (
      f,
      ap (λ (a : ℕ). load v.memory a W64 >>= λ x. Ok (machine (put true v (low W64 x)) rip f)) e
          ∙ ap (λ (o : Answer ℕ). o >>= λ x. Ok (machine (put true v (low W64 x)) rip f))
          (load_at v.memory from r.0)
          ∙ ap (λ (x : ℕ). Ok (machine (put true v x) rip f))
          (word_is (number_at v.memory.byte 8 from) base r.1 lt),
    )))
    (keeps_register Rax w b (sp + b) base refl
    (let q : (sp_of v + 0 + b) % 2 ^ 64 ≡ sp + b = omega arith in q)
    (all_may (may_write v.memory) 8 (sp + b) (omega arith) (λ a p q. c.writable a p q)) lt)

-- the base goes to the frame
keeps_base : (o : Option ℕ) (v : MachineView) (sp b base : ℕ) → sp_of v ≡ sp
    → LeadsBy v.memory o v.rdx base → base < 2 ^ 64 → HasCell v.memory (sp + b)
    → (x : ℕ) × Executes (keep_base o b) v (kept_at (with_rax v x) (sp + b) base)
keeps_base None v sp b base at leads lt cell = (v.rax, base_kept v sp b base at leads lt cell)
keeps_base (Some parent) v sp b base at leads lt cell =
    (base, parents_base v sp b base v.rdx parent at refl leads lt cell)

base_fine : (o : Option ℕ) (m : Memory) (frame base b : ℕ) → LeadsBy m o frame base → b < 2 ^ 31
    → Fine (keep_base o b)
base_fine None m frame base b leads lt = (near b lt, refl, refl, tt)
base_fine (Some parent) m frame base b leads lt =
    (near parent leads.near, refl, refl, (near b lt, refl, refl, tt))

-- ---- a frame is made, and keeps the base

abbrev pub first_code : FramePlan → Option ℕ → ℕ → List Instr
first_code p o b = prologue_code p ++ keep_base o b

pub record Made (p : FramePlan) (o : Option ℕ) (v : MachineView) (sp frame b base rip : ℕ)
    (f : Flags) : Type 0 where
  pub after : MachineView
  pub flags : Flags
  pub comes : Enters rip (rip + sizes (prologue_code p)) (prologue_turns p + length (keep_base o b))
      (machine v rip f) (machine after (rip + sizes (first_code p o b)) flags)
  pub lowered : sp_of after ≡ sp
  pub rcx : after.rcx ≡ v.rcx
  pub number : number_at after.memory.byte 8 (sp + b) ≡ base
  pub within : Within sp (sp + frame) v.memory after.memory

-- there is room for the frame, in which the base has its place
pub record HasRoom (v : MachineView) (sp frame b : ℕ) : Type 0 where
  pub at : sp_of v ≡ sp + frame
  pub high : sp + frame < 2 ^ 62
  pub small : frame ≤ 4096
  pub inside : b + 8 ≤ frame
  pub writable : (a : ℕ) → sp ≤ a → a < sp + frame → may_write v.memory a ≡ true

-- by the prologue of a plan that stores nothing
pub made : (p : FramePlan) (check : ℕ) (o : Option ℕ) (v : MachineView) (sp frame b base rip : ℕ)
    (f : Flags) → IsPlan p → depth (operations_of p) ≡ frame
    → none_stores (operations_of p) ≡ true → IsEntry frame (machine v rip f)
    → AreProbed p check rip (turned [] (operations_of p)) → HasCode v.memory check check_stack
    → HasRoom v sp frame b → base < 2 ^ 64 → LeadsBy v.memory o v.rdx base
    → HasCode v.memory rip (first_code p o b) → Made p o v sp frame b base rip f
made p check o v sp frame b base rip f is_plan deep unstored entry probed checks r lt leads code =
    let high = r.high in
    let small = r.small in
    let inside = r.inside in
    let at' : registers (machine v rip f) 4 ≡ sp + frame = r.at in
    let parts = code_split v.memory rip (prologue_code p) (keep_base o b) code in
    let m = made_view p check v rip f is_plan
    (subst (λ k. IsEntry k (machine v rip f)) (sym deep) entry) parts.0 probed checks in
    let there = rip + sizes (prologue_code p) in
    let same = m.same unstored in
    let w = m.after in
    let lowered : sp_of w ≡ sp = omega (arith, m.stack, at', deep) in
    let cell : HasCell w.memory (sp + b) = record {
      high = omega arith;
      writable = λ a x z. subst (λ (g : Memory). may_write g a ≡ true) (sym same)
          (r.writable a (omega arith) (omega arith));
    } in
    let leads' : LeadsBy w.memory o w.rdx base = subst (λ (g : Memory). LeadsBy g o w.rdx base)
    (sym same) (subst (λ d. LeadsBy v.memory o d base) (sym m.rdx) leads) in
    let k = keeps_base o w sp b base lowered leads' lt cell in
    let u = kept_at (with_rax w k.0) (sp + b) base in
    let z = runs_view (keep_base o b) w u there m.flags
    (base_fine o w.memory w.rdx base b leads' (omega arith))
    (subst (λ (g : Memory). HasCode g there (keep_base o b)) (sym same) parts.1) k.1 in
    let place : there + sizes (keep_base o b) ≡ rip + sizes (first_code p o b) = omega
    (arith, sizes_append (prologue_code p) (keep_base o b)) in
    record {
      after = u;
      flags = z.left;
      comes = subst (λ a. Enters rip there (prologue_turns p + length (keep_base o b))
          (machine v rip f) (machine u a z.left)) place
          (enters_then rip there (prologue_turns p) (length (keep_base o b)) (machine v rip f)
          (machine w there m.flags) (machine u (there + sizes (keep_base o b)) z.left) m.comes
          z.comes);
      lowered = lowered;
      rcx = m.rcx;
      number = (keeps_of_cell (with_rax w k.0) sp b base
          (record { high = cell.high; writable = cell.writable }) lt).0;
      within = subst (λ (g : Memory). Within sp (sp + frame) g u.memory) same
          (within_cell w.memory sp (sp + frame) (sp + b) base (omega arith) (omega arith)
          (omega arith));
    }
