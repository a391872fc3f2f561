-- Where an image's code is, a walk finds the return address of its routine.
use Rattle.std.proofs.Common.{◌≡◌, ℕ, ◌+◌, ◌<◌, ◌≤◌, Bool, true, false, Some, List, [], ◌∷◌, ◌++◌, length, refl, sym, ap, subst, ◌∙◌, arith, inl, inr}
use Rattle.std.specs.Prelude.{slice_get, slice_set}
use Rattle.std.proofs.lemmas.Option.{slice_get_cases}
use Rattle.std.proofs.lemmas.List.{append-nil}
use Rattle.match_bodies.specs.Words.{Memory, Rax, Instr, Context, rsp, Instruction, LinearBody, BodyName, body_of, sizes, fetch, template, IsReturn, after_frame, after_leaf, links_of, begin_of, making_size, frame_code, arguments_code, frame_at_label, caller_left, HasCaller, FindsOwed, IsOwed, owed_of, owed_by, frame_info, Setting, IsResumed}
use Rattle.linear_code.specs.declared.instruction.Instruction.TheVariants as instructions
use Rattle.match_bodies.proofs.Lemmas.{sizes_append, template_sizes, frame_is_visited, leaf_is_visited}
use Rattle.match_bodies.specs.CodeSites.{body_plan}
use Rattle.match_bodies.proofs.Steps.BodyFrames.{owed_framed, owed_frame}
use Rattle.match_bodies.proofs.Walks.OwedCallers.{first_set, at_return}
use Rattle.match_bodies.proofs.Templates.TemplateSizes.{fetch_some, template_some}
use Rattle.match_bodies.specs.Setting.{HasProgram}

record First (code : List Instr) : Type 0 where
  item : Instr
  left : List Instr
  parts : code ≡ item ∷ left

first_of : (code : List Instr) → 1 ≤ sizes code → First code
first_of [] le = absurd (omega arith)
first_of (i ∷ is) le = record { item = i; left = is; parts = refl }

module _ (setting : Setting) where
  open setting use {functions as t, funclets as fs, program, plan as p, sites as q, image}

  module _ (name : BodyName) (b : LinearBody) (is : body_of program name ≡ Some b) (m : Memory)
      (has : HasProgram setting m) where
    -- where a body waits, or is within an instruction that isn't a return
    pub resumed_found : (label rip : ℕ) → IsResumed setting name b label rip
        → FindsOwed t m rip (owed_of p name)
    resumed_found label rip r c size back others at o = by (p.leaf name) refl
      where
        here_at : IsResumed setting name b label c.rip
        here_at = record {
          instruction = r.instruction;
          there = r.there;
          continues = r.continues;
          done = r.done;
          item = r.item;
          left = r.left;
          parts = r.parts;
          here = at ∙ r.here;
        }

        by : (leaf : Bool) → p.leaf name ≡ leaf → HasCaller t m c (caller_left c size back others)
        by false e =
            let framed = owed_framed setting name b is m c size back others e o in
            let deep = owed_frame setting name b is m c size back others o in
            let f = image.frames m name b label c back others is e has here_at framed in
            let k : HasCaller t m c (after_frame c (frame_at_label p name label back others)) =
            record {
              frame = _;
              visits = frame_is_visited t m c 0 (frame_at_label p name label back others) f;
              context = refl;
            } in
            subst (λ n. HasCaller t m c (caller_left c n back others)) (sym deep) k
        by true e =
            let i = frame_info p name in
            let n = at_return m c size back others (subst (λ (leaf : Bool).
            IsOwed m c (owed_by i leaf) size back others) e o) in
            let room = o.room in
            let flat = n.none in
            let up : rsp c + 8 ≡ rsp c + size + 8 = omega arith in
            let l = image.leaves m name b label c back is e here_at o.kept (omega arith)
            n.returns in
            let k : HasCaller t m c (after_leaf c back) =
            record { frame = _; visits = leaf_is_visited t m c 0 back l; context = refl } in
            subst (λ (ks : List ℕ). let x : Context = record { rip = back; kept = ks } in
            HasCaller t m c x)
            (ap (slice_set c.kept 0) up ∙ sym (first_set c.kept (rsp c + size + 8) o.kept)
            ∙ ap (λ (os : List ℕ). (rsp c + size + 8) ∷ os) n.others_are) k

    pub within_found : (label : ℕ) (i : Instruction) → slice_get b.code label ≡ Some i
        → (IsReturn i → ⊥) → (done left : List Instr) (item : Instr)
        → template (links_of p q name) (p.layout name) (p.address name label) i
        ≡ done ++ (item ∷ left)
        → FindsOwed t m (p.address name label + sizes done) (owed_of p name)
    within_found label i at continues done left item parts =
        resumed_found label (p.address name label + sizes done)
        (record {
          instruction = i;
          there = at;
          continues = continues;
          done = done;
          item = item;
          left = left;
          parts = parts;
          here = refl;
        })

    -- where an instruction begins
    pub label_found : (label : ℕ) (i : Instruction) → slice_get b.code label ≡ Some i
        → FindsOwed t m (p.address name label) (owed_of p name)
    label_found label (instructions.Return from) at =
        let z : p.address name label + 0 ≡ p.address name label = omega arith in
        let y = p.layout name in
        let f = first_of (fetch y Rax from) (fetch_some y Rax from) in
        subst (λ a. FindsOwed t m a (owed_of p name)) z
        ((image.callers name b is).returns m label from [] f.left f.item has at f.parts)
    label_found label i at =
        let y = p.layout name in
        let k = links_of p q name in
        let a = p.address name label in
        let some = template_some y i in
        let size = template_sizes k y a i in
        let f = first_of (template k y a i) (omega arith) in
        let z : a + 0 ≡ a = omega arith in
        subst (λ x. FindsOwed t m x (owed_of p name)) z
        (within_found label i at (λ h. h) [] f.left f.item f.parts)

    -- where arguments are stored, up to the first instruction
    pub argument_found : 0 < length b.code → (done left : List Instr)
        → arguments_code program p name ≡ done ++ left
        → FindsOwed t m (begin_of p q name + making_size p q name + sizes done) (owed_of p name)
    argument_found some done (item ∷ left) parts = (image.callers name b is).arguments m done left
        item has parts
    argument_found some done [] parts =
        let a = image.addresses name b is in
        let first = a.first in
        let making = frame_code (body_plan p q name) (p.leaf name) in
        let whole = ap sizes (parts ∙ append-nil done) in
        let z : p.address name 0 ≡ begin_of p q name + making_size p q name
        + sizes done = omega (arith, sizes_append making (arguments_code program p name)) in
        elim (slice_get_cases b.code 0).1 [
          | inl x ↦ subst (λ a. FindsOwed t m a (owed_of p name)) z (label_found 0 x.0 x.2)
          | inr x ↦ let le = x.0 in absurd (omega arith)
        ]
