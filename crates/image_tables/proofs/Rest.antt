-- The instructions after a prologue lead from the body to the body.
use Rattle.std.proofs.Common.{◌≡◌, ℕ, ◌+◌, ◌^◌, ◌<◌, Bool, true, List, [], ◌∷◌, ◌++◌, Some, refl, sym, ap, subst, ◌∙◌, arith}
use Rattle.std.specs.List.{AllByRecursion}
use Rattle.std.proofs.lemmas.Bool.{and_parts, and_from}
use Rattle.image_tables.specs.Words.{Rax, Instr, is_encodable, FetchedInstr, Body, following, written, FramePlan, IsPlan, spelled_by, operations_of, spell, Slot, Instruction, Layout, fetch, Links, template, template_size, code_from, IsInstructionNear, is_other, all_encodable, is_inner, are_inner, return_code}
use Rattle.eh_tables.specs.declared.code.UnwindOperation.{UnwindOperation}
use Rattle.frame_rules.specs.Body.{may_write_all}
use Rattle.frame_rules.specs.Plan.{epilogue}
use Rattle.frame_rules.proofs.Bodies.{following-append}
use Rattle.image_tables.proofs.Lemmas.{spells_all, plans_are_encodable, inner_following, epilogue_following, instruction_in_room}
use Rattle.linear_code.specs.declared.instruction.Instruction.TheVariants as instructions
use Rattle.template_code.specs.Frames.{frame_register_if, plan_of_layout}
use Rattle.template_code.proofs.Frames.{epilogue_unprobed}
use Rattle.x64_emit.specs.Rooms.{code_room}
use Rattle.image_tables.proofs.BodyInstructions.{Inner, AllInner, AreSaved, inner_role, inner_writes, fetch_inner}
use Rattle.image_tables.proofs.Templates.{AreLinksNear, template_inner}

-- ---- inner instructions

-- the plan of a layout with a frame register or without
abbrev FrameIf : Bool → FramePlan → Type 0
FrameIf framed p = p.frame ≡ frame_register_if framed

inner_of : (p : FramePlan) (framed : Bool) (i : Instr) → FrameIf framed p
    → Inner (operations_of p) i → is_inner p (spell i) ≡ true
inner_of p framed i e inner =
    and_from _ _ (ap is_other (inner_role (operations_of p) p.frame i inner (spell i).plain))
    (subst (λ n. may_write_all n (operations_of p) (written i) ≡ true) (sym e)
    (inner_writes (operations_of p) framed (written i) inner.2))

pub all_inner : (p : FramePlan) (framed : Bool) (is : List Instr) → FrameIf framed p
    → AllInner (operations_of p) is → are_inner p (spelled_by spell is) ≡ true
all_inner p framed [] e h = refl
all_inner p framed (i ∷ is) e h =
    and_from (is_inner p (spell i)) (are_inner p (spelled_by spell is))
    (inner_of p framed i e h.0) (all_inner p framed is e h.1)

pub inner_encodable : (ops : List UnwindOperation) (is : List Instr) → AllInner ops is
    → all_encodable is ≡ true
inner_encodable ops [] h = refl
inner_encodable ops (i ∷ is) h = and_from (is_encodable i) (all_encodable is) h.0.0
    (inner_encodable ops is h.1)

pub encodable_both : (a b : List Instr) → all_encodable a ≡ true → all_encodable b ≡ true
    → all_encodable (a ++ b) ≡ true
encodable_both [] b p q = q
encodable_both (i ∷ a) b p q = let r = and_parts (is_encodable i) (all_encodable a) p in
    and_from (is_encodable i) (all_encodable (a ++ b)) r.0 (encodable_both a b r.1 q)

pub spelled_both : (a b : List Instr) → spelled_by spell (a ++ b)
    ≡ spelled_by spell a ++ spelled_by spell b
spelled_both [] b = refl
spelled_both (i ∷ a) b = ap (λ (xs : List FetchedInstr). spell i ∷ xs) (spelled_both a b)

-- ---- bodies

-- with a frame by a plan
module _ (p : FramePlan) (is_plan : IsPlan p) where
  -- from the body to the body
  abbrev pub Leads : List Instr → Type 0
  Leads is = (rs : List ℕ) → (to : List ℕ) × (following p.frame p.distance (operations_of p)
      (spelled_by spell is) (Body rs) ≡ Some (Body to))

  pub leads_both : (a b : List Instr) → Leads a → Leads b → Leads (a ++ b)
  leads_both a b h k rs =
      let x = h rs in
      let y = k x.0 in (
        y.0,
        ap (λ (xs : List FetchedInstr). following p.frame p.distance (operations_of p) xs
            (Body rs)) (spelled_both a b)
            ∙ following-append p.frame p.distance (operations_of p) (spelled_by spell a)
            (spelled_by spell b) (Body rs) (Body x.0) x.1 ∙ y.1,
      )

  -- it is that of a layout
  abbrev pub IsPlanOf : Layout → Type 0
  IsPlanOf y = plan_of_layout y p.probe ≡ p

  pub inner_leads : (y : Layout) (is : List Instr) → IsPlanOf y → AllInner (operations_of p) is
      → Leads is
  inner_leads y is e h rs = inner_following spell spells_all p (spelled_by spell is) rs
      (all_inner p y.framed is (ap (λ (q : FramePlan). q.frame) (sym e)) h)

  -- the returns of the layout end in the plan's epilogue
  ends_by_plan : (y : Layout) → IsPlanOf y → epilogue (plan_of_layout y 0) ≡ epilogue p
  ends_by_plan y e = sym (epilogue_unprobed (plan_of_layout y 0) p.probe) ∙ ap epilogue e

  epilogue_leads : (y : Layout) → IsPlanOf y → Leads (epilogue (plan_of_layout y 0))
  epilogue_leads y e rs = (
    [],
    ap (λ (is : List Instr). following p.frame p.distance (operations_of p)
        (spelled_by spell is) (Body rs)) (ends_by_plan y e)
        ∙ epilogue_following spell spells_all p is_plan rs,
  )

  -- a template, a body
  pub record IsFine (is : List Instr) : Type 0 where
    pub leads : Leads is
    pub encodable : all_encodable is ≡ true

  pub fine_inner : (y : Layout) (is : List Instr) → IsPlanOf y → AllInner (operations_of p) is
      → IsFine is
  fine_inner y is e h = record {
    leads = inner_leads y is e h;
    encodable = inner_encodable (operations_of p) is h;
  }

  pub fine_both : (a b : List Instr) → IsFine a → IsFine b → IsFine (a ++ b)
  fine_both a b h k = record {
    leads = leads_both a b h.leads k.leads;
    encodable = encodable_both a b h.encodable k.encodable;
  }

  return_fine : (y : Layout) (from : Slot) → IsPlanOf y
      → IsInstructionNear y (instructions.Return from) → IsFine (return_code y from)
  return_fine y from e near =
      fine_both (fetch y Rax from) (epilogue (plan_of_layout y 0))
      (fine_inner y (fetch y Rax from) e (fetch_inner (operations_of p) y from near.0))
      (record {
        leads = epilogue_leads y e;
        encodable = ap all_encodable (ends_by_plan y e) ∙ (plans_are_encodable p is_plan).1;
      })

  template_fine : (k : Links) (y : Layout) (at : ℕ) (i : Instruction) → IsPlanOf y
      → AreLinksNear k → AreSaved (operations_of p) y → IsInstructionNear y i
      → at + 256 < 2 ^ 31 → IsFine (template k y at i)
  template_fine k y at (instructions.Return from) e links saved near lt = return_fine y from e near
  template_fine k y at (instructions.Compute to o first second) e links saved near lt =
      fine_inner y _ e
      (template_inner (operations_of p) k y at (instructions.Compute to o first second) links saved
      near lt (λ h. h))
  template_fine k y at (instructions.Information to field) e links saved near lt = fine_inner y _ e
      (template_inner (operations_of p) k y at (instructions.Information to field) links saved near
      lt (λ h. h))
  template_fine k y at (instructions.Landing to) e links saved near lt = fine_inner y _ e
      (template_inner (operations_of p) k y at (instructions.Landing to) links saved near lt
      (λ h. h))
  template_fine k y at (instructions.Jump label) e links saved near lt = fine_inner y _ e
      (template_inner (operations_of p) k y at (instructions.Jump label) links saved near lt
      (λ h. h))
  template_fine k y at (instructions.JumpIfZero slot label) e links saved near lt = fine_inner y _ e
      (template_inner (operations_of p) k y at (instructions.JumpIfZero slot label) links saved near
      lt (λ h. h))
  template_fine k y at (instructions.Call function first count) e links saved near lt =
      fine_inner y _ e
      (template_inner (operations_of p) k y at (instructions.Call function first count) links saved
      near lt (λ h. h))
  template_fine k y at (instructions.CallBuiltIn function first) e links saved near lt =
      fine_inner y _ e
      (template_inner (operations_of p) k y at (instructions.CallBuiltIn function first) links saved
      near lt
      (λ h. h))
  template_fine k y at (instructions.CallFinally funclet) e links saved near lt = fine_inner y _ e
      (template_inner (operations_of p) k y at (instructions.CallFinally funclet) links saved near
      lt (λ h. h))
  template_fine k y at (instructions.LocalUnwind label) e links saved near lt = fine_inner y _ e
      (template_inner (operations_of p) k y at (instructions.LocalUnwind label) links saved near lt
      (λ h. h))
  template_fine k y at instructions.Separator e links saved near lt = fine_inner y _ e
      (template_inner (operations_of p) k y at instructions.Separator links saved near lt (λ h. h))

  pub body_fine : (k : Links) (y : Layout) (at : ℕ) (is : List Instruction) → IsPlanOf y
      → AreLinksNear k → AreSaved (operations_of p) y → AllByRecursion (IsInstructionNear y) is
      → at + code_room is + 256 < 2 ^ 31
      → IsFine (code_from k y at is)
  body_fine k y at [] e links saved near lt = record { leads = λ rs. (rs, refl); encodable = refl }
  body_fine k y at (i ∷ is) e links saved near lt =
      let small = instruction_in_room y i near.0 in
      fine_both (template k y at i) (code_from k y (at + template_size y i) is)
      (template_fine k y at i e links saved near.0 (omega arith))
      (body_fine k y (at + template_size y i) is e links saved near.1 (omega arith))
