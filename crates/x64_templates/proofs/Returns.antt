-- A body is left, and its caller's slots outlast a call.
use Rattle.std.proofs.Common.{◌≡◌, ℕ, ◌+◌, ◌%◌, ◌^◌, ◌<◌, ◌≤◌, Bool, true, [], length, Ok, refl, sym, ap, subst, ◌∙◌, arith, length-append}
use Rattle.std.proofs.lemmas.Bool.{false≢true}
use Rattle.frame_rules.specs.Plan.{epilogue}
use Rattle.template_code.specs.Frames.{plan_of_layout}
use Rattle.frame_rules.specs.Frame.{HoldsFrame}
use Rattle.frame_rules.specs.Plan.{IsPlan, operations_of}
use Rattle.frame_rules.specs.States.{registers}
use Rattle.frame_rules.proofs.Steps.{set_other}
use Rattle.frame_rules.proofs.Undoing.{framed_saved, saved_register}
use Rattle.virtual_unwind.specs.Contexts.{is_nonvolatile}
use Rattle.x64_templates.specs.Straight.{registers_of}
use Rattle.x64_templates.proofs.EpilogueRuns.{epilogue_leaves}
use Rattle.x64_templates.specs.Words.{W64, low, Memory, may_read, Rax, Flags, ◌>>=◌, State, Answer, with_rip, load, effect, Slot, BodyState, with_slot, MachineView, machine, sizes, fetch, keep, sp_of, HasBack, moved, Reaches, HasCode, FramePlace, Roomy, FrameHolds, AreArrived, IsKept, IsThere, ReachesBody, return_code, Returned}
use Rattle.x64_instr.specs.declared.instruction.Instr.TheVariants as instrs
use Rattle.x64_templates.proofs.PlacedCode.{all_may, load_at, reaches_then}
use Rattle.x64_templates.proofs.Straight.{executes_nothing}
use Rattle.x64_templates.proofs.Cells.{put, fetch_does}
use Rattle.x64_templates.proofs.Encoded.{fetch_fine}
use Rattle.x64_templates.proofs.Computes.{code_split, runs_view, leads_kept}

-- ---- what lies above RSP, but for the source's memory, outlasts whatever runs below

pub record Outlasts (reserved : ℕ → Bool) (sp : ℕ) (m m' : Memory) : Type 0 where
  pub byte : (a : ℕ) → reserved a ≡ true → sp ≤ a → m'.byte a ≡ m.byte a
  pub protection : (a : ℕ) → reserved a ≡ true → m'.protection a ≡ m.protection a

-- ---- after a call: RAX goes to its slot

pub call_ends : (p : FramePlace) (to : Slot) (v : MachineView) (at : ℕ) (f : Flags) (b : BodyState)
    → Roomy p → IsThere p to → IsKept p.layout to → v.rax < 2 ^ 64 → sp_of v ≡ p.sp
    → FrameHolds p v.locals v.memory b
    → HasCode v.memory at (keep p.layout to) → ReachesBody p (length (keep p.layout to))
    (machine v at f) (at + sizes (keep p.layout to)) v.rest v.locals
    (record { slots = with_slot b.slots to v.rax; memory = b.memory })
call_ends p to v at f b room is kept small sp h code =
    leads_kept p [] to v at f b v.rax b.memory tt room is kept sp h code
    (record {
      after = v.memory;
      yields = record {
        rcx = v.rcx;
        rdx = v.rdx;
        does = executes_nothing v;
      };
      small = small;
      agrees = h.source;
      protection = refl;
      own = λ a o. refl;
      bytes = λ x. x;
    })

-- ---- RSP is moved

-- a return: to the address at RSP, which rises by 8
pub return_effect : (v : MachineView) (sp back next : ℕ) (f : Flags) → sp_of v ≡ sp
    → sp + 16 < 2 ^ 64 → HasBack v.memory sp back
    → effect (machine v next f) instrs.Return ≡ Ok (machine (moved v (sp + 8)) back f)
return_effect v sp back next f e high b =
    let up : low W64 ((sp_of v + 8) % 2 ^ 64) ≡ sp + 8 = omega arith in
    let may = all_may (may_read v.memory) 8 sp (omega arith) (λ a p q. b.readable a p q) in
    let after = machine (moved v (low W64 ((sp_of v + 8) % 2 ^ 64))) next f in
    let pair = λ (x : ℕ). let y : ℕ × State = (x, after) in y in
    let go = λ (o : Answer ℕ). (o >>= λ x. Ok (pair x)) >>= λ y. Ok (with_rip y.1 y.0) in
    ap (λ (a : ℕ). go (load v.memory a W64)) e
    ∙ ap go (load_at v.memory sp may)
    ∙ ap (λ (a : ℕ). Ok (with_rip after a)) b.number
    ∙ ap (λ (a : ℕ). Ok (machine (moved v a) back f)) up

-- RAX is fetched, and the epilogue is run
pub return_run : (p : FramePlace) (from : Slot) (v : MachineView) (old : ℕ → ℕ) (back rip : ℕ)
    (f : Flags) (b : BodyState) → let plan = plan_of_layout p.layout 0 in
    Roomy p → IsThere p from → AreArrived p v → sp_of v ≡ p.sp → FrameHolds p v.locals v.memory b
    → IsPlan plan → old 4 < 2 ^ 47 → ((r : ℕ) → old r < 2 ^ 64)
    → HoldsFrame plan.frame plan.distance v.memory old back (registers (machine v rip f))
    (operations_of plan) (operations_of plan)
    → HasCode v.memory rip (return_code p.layout from)
    → Returned (length (return_code p.layout from)) (machine v rip f) old back (b.slots from)
return_run p from v old back rip f b room is here at h is_plan high fits holds code =
    let y = p.layout in
    let plan = plan_of_layout y 0 in
    let first = fetch y Rax from in
    let w = put true v (b.slots from) in
    let last = epilogue plan in
    let parts = code_split v.memory rip first last code in
    let r = runs_view first v w rip f (fetch_fine y p.counts p.sp p.base true from room is) parts.0
    (fetch_does y p.counts p.reserved p.sp p.base p.arrived room true from v b is here at h) in
    let s = machine v rip f in
    let t = machine w (rip + sizes first) r.left in
    let same : (q : ℕ) → is_nonvolatile q ≡ true → registers t q ≡ registers s q = λ q nv.
    set_other (registers_of v) 0 q (b.slots from)
    (λ z. false≢true (ap is_nonvolatile (sym z) ∙ nv)) in
    let e = epilogue_leaves plan old back t is_plan high fits refl (record {
      stack = holds.stack;
      framed = framed_saved plan.frame plan.distance (registers s) (registers t) (registers s 4)
          (operations_of plan) is_plan.allowed
          (λ saved. sym (same plan.frame (saved_register plan.frame plan.frame
          (operations_of plan) is_plan.allowed saved).0)) holds.framed;
      others = λ q nv ne free. same q nv ∙ holds.others q nv ne free;
    }) parts.1 in
    record {
      after = e.after;
      comes = subst (λ k. Reaches k s e.after) (sym (length-append first last))
          (reaches_then (length first) (length last) s t e.after r.comes e.comes);
      rip = e.rip;
      stack = e.stack;
      kept = e.kept;
      rax = e.rax;
      memory = e.memory;
      count = e.count;
    }
