-- Where the calls of code lead: to functions, funclets, thunks and stubs, and nowhere else.
--
-- The main definitions: `CodeCalls`, `LinksLead`.
use Rattle.std.proofs.Common.{◌≡◌, ℕ, zero, suc, ◌+◌, ◌-◌, ◌%◌, ◌^◌, ◌<◌, ◌≤◌, Bool, true, false, ◌&&◌, List, [], ◌∷◌, ◌++◌, length, Option, Some, None, refl, sym, ap, subst, ◌∙◌, arith}
use Rattle.std.specs.List.{AllByRecursion, flat_map}
use Rattle.std.proofs.lemmas.Bool.{false≢true, and_parts}
use Rattle.seh_num.specs.declared.width.Width.TheVariants.{W64}
use Rattle.x64_instr.specs.declared.register.Reg.TheVariants.{Rcx, Rsp}
use Rattle.x64_encode.specs.Chosen.{modrm, opcode_register}
use Rattle.x64_instr.specs.declared.operand.Base.{Base}
use Rattle.x64_instr.specs.declared.operand.Base.TheVariants as bases
use Rattle.x64_instr.specs.declared.instruction.Target.TheVariants.{Relative}
use Rattle.x64_instr.specs.declared.instruction.Instr.{Instr}
use Rattle.x64_instr.specs.declared.instruction.Instr.TheVariants as instrs
use Rattle.c_operations.specs.declared.built_in.BuiltIn.{BuiltIn}
use Rattle.linear_code.specs.declared.slot.Slot.TheVariants.{Temporary}
use Rattle.linear_code.specs.declared.instruction.Instruction.{Instruction}
use Rattle.linear_code.specs.declared.instruction.Instruction.TheVariants as instructions
use Rattle.virtual_unwind.specs.Tail.{FetchedInstr}
use Rattle.frame_rules.specs.Prologue.{bytes}
use Rattle.frame_rules.specs.Plan.{spelled_by}
use Rattle.frame_rules.specs.Bytes.{spell}
use Rattle.template_code.specs.declared.layout.Layout.{Layout}
use Rattle.template_code.specs.Bytes.{size, sizes}
use Rattle.template_code.specs.Operations.{move}
use Rattle.template_code.specs.Jumps.{distance, call}
use Rattle.template_code.specs.Slots.{keep}
use Rattle.template_code.specs.Calls.{arguments_code, begin_call, call_code, clear_result, passing_code, finally_arguments, address_to}
use Rattle.template_code.specs.Template.{Links, template, template_size, code_from}
use Rattle.template_code.proofs.Sizes.{arrives, call_size, address_size, template_sizes, sizes_append}
use Rattle.x64_emit.specs.Near.{IsNear, IsInstructionNear}
use Rattle.x64_emit.specs.Rooms.{code_room}
use Rattle.x64_emit.proofs.Nearby.{instruction_in_room, arguments_small, passing_small}
use Rattle.image_tables.proofs.FramePlans.{bytes_sizes}
use Rattle.image_tables.proofs.Rest.{spelled_both}
use Rattle.image_tables.proofs.Templates.{AreLinksNear}
use Rattle.uncovered_code.specs.References.{called, from_next, taken}
use Rattle.uncovered_code.proofs.Pieces.{CallsLead, TakenLead}
use Rattle.text_routines.proofs.Plain.{is_apart, is_plain, all_plain, compute_plain, information_plain, keep_plain, fetch_plain, arguments_plain, passing_plain, return_plain, test_plain}

-- ---- plain code

plain_calls_none : (P : ℕ → Type 0) (next : ℕ) (i : Instr) → is_plain i ≡ true
    → AllByRecursion P (called next i)
plain_calls_none P next (instrs.Call to) e = absurd (false≢true e)
plain_calls_none P next i e = tt

apart_is_none : (P : ℕ → Type 0) (next d : ℕ) (b : Base) → is_apart b ≡ true
    → AllByRecursion P (from_next next d b)
apart_is_none P next d bases.Rip e = absurd (false≢true e)
apart_is_none P next d b e = tt

plain_takes_none : (P : ℕ → Type 0) (next : ℕ) (i : Instr) → is_plain i ≡ true
    → AllByRecursion P (taken next i)
plain_takes_none P next (instrs.LoadAddress w to a) e =
    apart_is_none P next a.displacement a.base e
plain_takes_none P next i e = tt

-- ---- sizes

clear_size : size clear_result ≡ 5
unfolding size opcode_register
clear_size = refl

finally_size : sizes finally_arguments ≤ 16
unfolding size modrm opcode_register
finally_size = omega arith

move_size : size (move W64 Rcx Rsp) ≡ 3
unfolding size modrm
move_size = refl

module _ (P : ℕ → Type 0) where
  -- the calls of code at an address lead where P holds
  abbrev pub CodeCalls : ℕ → List Instr → Type 0
  CodeCalls at is = CallsLead P at (spelled_by spell is)

  pub plain_calls : (at : ℕ) (is : List Instr) → all_plain is ≡ true → CodeCalls at is
  plain_calls at [] e = tt
  plain_calls at (i ∷ is) e =
      let p = and_parts (is_plain i) (all_plain is) e in
      (plain_calls_none P (at + (spell i).size) i p.0, plain_calls (at + (spell i).size) is p.1)

  pub plain_takes : (at : ℕ) (is : List Instr) → all_plain is ≡ true
      → TakenLead P at (spelled_by spell is)
  plain_takes at [] e = tt
  plain_takes at (i ∷ is) e =
      let p = and_parts (is_plain i) (all_plain is) e in
      (plain_takes_none P (at + (spell i).size) i p.0, plain_takes (at + (spell i).size) is p.1)

  -- ---- code after code

  calls_both : (at : ℕ) (xs ys : List FetchedInstr) → CallsLead P at xs
      → CallsLead P (at + bytes xs) ys → CallsLead P at (xs ++ ys)
  calls_both at [] ys h k =
      let e : at + 0 ≡ at = omega arith in subst (λ n. CallsLead P n ys) e k
  calls_both at (x ∷ xs) ys h k =
      let e : at + (x.size + bytes xs) ≡ at + x.size + bytes xs = omega arith in
      (h.0, calls_both (at + x.size) xs ys h.1 (subst (λ n. CallsLead P n ys) e k))

  pub code_both : (at : ℕ) (a b : List Instr) → CodeCalls at a → CodeCalls (at + sizes a) b
      → CodeCalls at (a ++ b)
  code_both at a b h k =
      subst (CallsLead P at) (sym (spelled_both a b))
      (calls_both at (spelled_by spell a) (spelled_by spell b) h
      (subst (λ n. CodeCalls (at + n) b) (sym (bytes_sizes a)) k))

  -- ---- a call

  pub one_call : (at next to : ℕ) → at + 5 ≡ next → next < 2 ^ 31 → IsNear to → P to
      → CodeCalls at (call next to ∷ [])
  unfolding size
  one_call at next to here near near' leads =
      let n : (spell (call next to)).size ≡ 5 = call_size next to in
      let e : (at + (spell (call next to)).size + distance next to) % 2 ^ 64 ≡ to =
      ap (λ k. (at + k + distance next to) % 2 ^ 64) n
      ∙ ap (λ k. (k + distance next to) % 2 ^ 64) here
      ∙ arrives next to (omega arith, omega arith, omega arith, omega arith) in
      ((subst P (sym e) leads, tt), tt)

  -- ---- templates

  pub record LinksLead (k : Links) : Type 0 where
    pub function : (f : ℕ) → P (k.function f)
    pub known : (f : BuiltIn) → P (k.known f)
    pub funclet : (f : ℕ) → P (k.funclet f)
    pub local_unwind : P k.local_unwind

  call_leads : (y : Layout) (first at to : ℕ) → at + 65 < 2 ^ 31 → IsNear to → P to
      → CodeCalls at (call_code y (Temporary first) first at to)
  call_leads y first at to lt near leads =
      let few = arguments_small y first in
      let args = arguments_code y first in
      let next = at + sizes args + 5 in
      code_both at (begin_call y first at to) (keep y (Temporary first))
      (code_both at args (call next to ∷ []) (plain_calls at args (arguments_plain y first))
      (one_call (at + sizes args) next to refl (omega arith) near leads))
      (plain_calls (at + sizes (begin_call y first at to)) (keep y (Temporary first))
      (keep_plain y (Temporary first)))

  template_calls : (k : Links) (y : Layout) (at : ℕ) (i : Instruction) → LinksLead k
      → AreLinksNear k → IsInstructionNear y i → at + 256 < 2 ^ 31
      → CodeCalls at (template k y at i)
  template_calls k y at (instructions.Compute to o first second) leads links near here =
      plain_calls at (template k y at (instructions.Compute to o first second))
      (compute_plain y to o first second)
  template_calls k y at (instructions.Information to field) leads links near here =
      plain_calls at (template k y at (instructions.Information to field))
      (information_plain y to field)
  template_calls k y at (instructions.Landing to) leads links near here =
      plain_calls at (keep y to) (keep_plain y to)
  template_calls k y at (instructions.Jump label) leads links near here =
      plain_calls at (template k y at (instructions.Jump label)) refl
  template_calls k y at (instructions.JumpIfZero slot label) leads links near here =
      plain_calls at (template k y at (instructions.JumpIfZero slot label))
      (test_plain y slot at (k.label label))
  template_calls k y at (instructions.Call function first count) leads links near here =
      let few = near.few in
      let passing = passing_code y first 4 (count - 4) in
      let small = passing_small y first count few in
      code_both at passing (call_code y (Temporary first) first (at + sizes passing)
      (k.function function))
      (plain_calls at passing (passing_plain y first 4 (count - 4)))
      (call_leads y first (at + sizes passing) (k.function function) (omega arith)
      (links.function function) (leads.function function))
  template_calls k y at (instructions.CallBuiltIn function first) leads links near here =
      let size = clear_size in
      code_both at (clear_result ∷ []) (call_code y (Temporary first) first (at + 5)
      (k.known function)) (plain_calls at (clear_result ∷ []) refl)
      (subst (λ n. CodeCalls n (call_code y (Temporary first) first (at + 5) (k.known function)))
      (let e : at + 5 ≡ at + sizes (clear_result ∷ []) = omega arith in e)
      (call_leads y first (at + 5) (k.known function) (omega arith) (links.known function)
      (leads.known function)))
  template_calls k y at (instructions.CallFinally funclet) leads links near here =
      let few = finally_size in
      code_both at finally_arguments (call (at + sizes finally_arguments + 5) (k.funclet funclet)
      ∷ []) (plain_calls at finally_arguments refl)
      (one_call (at + sizes finally_arguments) (at + sizes finally_arguments + 5)
      (k.funclet funclet) refl (omega arith) (links.funclet funclet) (leads.funclet funclet))
  template_calls k y at (instructions.LocalUnwind label) leads links near here =
      let first = move_size in
      let second = address_size (at + 10) (k.label label) in
      let ahead = (move W64 Rcx Rsp ∷ address_to (at + 10) (k.label label) ∷ []) in
      code_both at ahead (call (at + 15) k.local_unwind ∷ [])
      ((tt, (tt, tt)))
      (one_call (at + sizes ahead) (at + 15) k.local_unwind (omega arith) (omega arith)
      links.local_unwind leads.local_unwind)
  template_calls k y at instructions.Separator leads links near here =
      plain_calls at (template k y at instructions.Separator) refl
  template_calls k y at (instructions.Return from) leads links near here =
      plain_calls at (template k y at (instructions.Return from)) (return_plain y from)

  pub body_calls : (k : Links) (y : Layout) (at : ℕ) (is : List Instruction) → LinksLead k
      → AreLinksNear k → AllByRecursion (IsInstructionNear y) is
      → at + code_room is + 256 < 2 ^ 31 → CodeCalls at (code_from k y at is)
  body_calls k y at [] leads links near lt = tt
  body_calls k y at (i ∷ is) leads links near lt =
      let small = instruction_in_room y i near.0 in
      let long = template_sizes k y at i in
      code_both at (template k y at i) (code_from k y (at + template_size y i) is)
      (template_calls k y at i leads links near.0 (omega arith))
      (subst (λ n. CodeCalls (at + n) (code_from k y (at + template_size y i) is)) (sym long)
      (body_calls k y (at + template_size y i) is leads links near.1 (omega arith)))
