-- The functions of plans are right.
use Rattle.std.proofs.Common.{◌≡◌, ◌≢◌, ℕ, ◌+◌, ◌-◌, ◌%◌, ◌^◌, Bool, true, false, not, ◌&&◌, ◌||◌, cond, eqb, List, [], ◌∷◌, ◌++◌, Option, Some, None, refl, sym, ap, subst, ◌∙◌, arith, inl, inr}
use Rattle.std.specs.Prelude.{◌⊎◌}
use Rattle.std.proofs.lemmas.Bool.{false≢true, and_parts, and_from, or_left, or_right, eq-eqb, ne_eqb, eqb-true, eqb-false, not_from_false}
use Rattle.x64_instr.specs.declared.operand.Base.TheVariants as bases
use Rattle.frame_rules.specs.Words.{Instr, number, UnwindOperation, is_nonvolatile, Role, Opens, Restores, Ends, Other, FetchedInstr, role_of, opening, ending, is_of, sets_frame, allocation, pushes, pushed, is_saved, may_save, are_allowed, is_ordered, is_pop, gives_back, written, may_write_all, saved_at, is_place, if_place, restored_by, with_restored, are_restored, Mode, Body, Leaving, only_if, is_ends, leaving, from_body, and_then, following, is_body, is_other, Saved, FramePlan, IsPlan, IsSpelling, frame_then, allocation_then, operations_of, stack_place, spelled_by, load_of, loads_then, opening_by, opening_then, pops_then, epilogue, is_inner, are_inner, with_epilogues, all_inner, PlansAreRight}
use Rattle.x64_instr.specs.declared.instruction.Instr.TheVariants as instrs
use Rattle.x64_instr.specs.Registers.{register}
use Rattle.frame_rules.specs.Body.{may_write, next}
use Rattle.frame_rules.proofs.Bodies.{following-append}
use Rattle.frame_rules.proofs.Planning.{nonvolatile_number, ordered_plan, framed_plan, codes_plan, are_steps}
use Rattle.frame_rules.proofs.Planned.{Loadable, AllLoadable, all_loadable, allocation_plan, pushes_plan, loaded, restored_plan, frame_saved, allowed_later, saved_later}
use Rattle.frame_rules.proofs.Undoing.{saved_register}
use Rattle.frame_rules.proofs.Order.{ordered, pushes_allowed}

-- ---- one instruction

-- a load
load_next : (f offset : ℕ) (ops : List UnwindOperation) (s : Saved) (x : FetchedInstr) (rs : List ℕ)
    → x.instr ≡ load_of s → Loadable f ops s → next f offset ops x (Body rs)
    ≡ Some (Body (s.register ∷ rs))
load_next f offset ops s x rs e h =
    let r = s.register in
    let n = s.offset in
    let k : ℕ = number (register r) in
    let same : k ≡ r = nonvolatile_number r h.kept in
    let G : Instr → Option Mode = λ i. from_body f offset ops rs (record x { instr = i })
    (role_of f x.plain i) in
    let place : is_place f offset n (stack_place n)
    ≡ true = or_left (true && eqb n n) _ (eq-eqb n n refl) in
    let restored : if_place f offset (stack_place n) k (saved_at k ops) ≡ Some r =
    ap (λ q. if_place f offset (stack_place n) q (saved_at q ops)) same
    ∙ ap (if_place f offset (stack_place n) r) h.at ∙ ap (λ b. cond b (Some r) None) place in
    let writes : may_write_all f ops (k ∷ []) ≡ true =
    ap (λ q. may_write_all f ops (q ∷ [])) same
    ∙ and_from (may_write f ops r) true (and_from (not (eqb r 4))
    ((eqb f 0 || not (eqb r f)) && (not (is_nonvolatile r) || is_saved r ops))
    (not_from_false (eqb r 4) (ne_eqb r 4 h.other))
    (and_from (eqb f 0 || not (eqb r f)) (not (is_nonvolatile r) || is_saved r ops) h.frame
    (or_right (not (is_nonvolatile r)) (is_saved r ops) h.saved))) refl in
    ap G e
    ∙ ap (λ o. only_if (Some (Body (with_restored rs o))) (may_write_all f ops (k ∷ []))) restored
    ∙ ap (only_if (Some (Body (r ∷ rs)))) writes

-- an instruction of the body
inner_next : (f offset : ℕ) (ops : List UnwindOperation) (x : FetchedInstr) (rs : List ℕ)
    → role_of f x.plain x.instr ≡ Other → may_write_all f ops (written x.instr) ≡ true
    → next f offset ops x (Body rs) ≡ Some (Body
    (with_restored rs (restored_by f offset ops x.instr)))
inner_next f offset ops x rs o w = ap (from_body f offset ops rs x) o
    ∙ ap (only_if (Some (Body (with_restored rs (restored_by f offset ops x.instr))))) w

-- a pop, the return
pop_next : (f r : ℕ) (rs : List ℕ) (x : FetchedInstr) → x.instr ≡ instrs.Pop (register r)
    → is_nonvolatile r ≡ true → leaving f (r ∷ rs) x ≡ Some (Leaving rs)
pop_next f r rs x e h = ap (only_if (Some (Leaving rs)))
    (ap (is_pop r) e ∙ eq-eqb (number (register r)) r (nonvolatile_number r h))

return_next : (f : ℕ) (x : FetchedInstr) → x.instr ≡ instrs.Return → x.plain ≡ true
    → leaving f [] x ≡ Some (Body [])
return_next f x e p = ap (only_if (Some (Body [])))
    (ap (λ i. is_ends (role_of f x.plain i)) e ∙ ap (λ b. is_ends (ending b)) p)

-- ---- the epilogue

abbrev AllKept : List ℕ → Type 0
AllKept [] = Unit {0}
AllKept (r ∷ rs) = (is_nonvolatile r ≡ true) × AllKept rs

pushes_kept : (f : ℕ) (rs : List ℕ) → are_allowed f (pushed rs) ≡ true → AllKept rs
pushes_kept f [] h = tt
pushes_kept f (r ∷ rs) h =
    let p = and_parts (may_save r (pushed rs)) (are_allowed f (pushed rs)) h in (
      (and_parts (is_nonvolatile r) (not (eqb r 4) && not (is_saved r (pushed rs))) p.0).0,
      pushes_kept f rs p.1,
    )

-- ---- an opening

frame_kept : (p : FramePlan) → IsPlan p → p.frame ≢ 0 → is_nonvolatile p.frame ≡ true
frame_kept p h ne =
    let xs = frame_then (not (eqb p.frame 0))
    (allocation_then (not (eqb p.size 0)) p.size (pushed p.pushes)) in
    let s = frame_saved p (not (eqb p.size 0)) p.size p.pushes
    (allowed_later p.frame p.saves xs h.allowed) ne in
    (saved_register p.frame p.frame (operations_of p) h.allowed
    (saved_later p.frame p.saves xs s)).0

is_frame : (p : FramePlan) → IsPlan p → eqb p.frame 0 ≡ false
    → is_of p.frame (bases.Register (register p.frame)) None ≡ true
is_frame p h e = ap (λ b. cond b false (eqb (number (register p.frame)) p.frame)) e
    ∙ eq-eqb (number (register p.frame)) p.frame
    (nonvolatile_number p.frame (frame_kept p h (eqb-false p.frame 0 e)))

opens_role : (p : FramePlan) → IsPlan p → (b : Bool) → eqb p.frame 0 ≡ b → (plain : Bool)
    → role_of p.frame plain (opening_by p b) ≡ Opens
opens_role p h true e plain = refl
opens_role p h false e plain = ap opening (is_frame p h e)

-- it gives the allocation back
pub gives_all : (p : FramePlan) → IsPlan p → (b : Bool) → eqb p.frame 0 ≡ b
    → gives_back p.frame p.distance (allocation (operations_of p)) (opening_by p b) ≡ true
gives_all p h true e = eq-eqb p.size (allocation (operations_of p)) (sym (allocation_plan p))
gives_all p h false e =
    let small = h.size in
    let near = h.distance in
    let alloc = allocation_plan p in
    let d = (p.size + (2 ^ 64 - p.distance)) % 2 ^ 64 in
    let sum : (p.distance + d) % 2 ^ 64 ≡ allocation (operations_of p) = omega arith in
    and_from (is_of p.frame (bases.Register (register p.frame)) None)
    (eqb ((p.distance + d) % 2 ^ 64) (allocation (operations_of p))) (is_frame p h e)
    (eq-eqb ((p.distance + d) % 2 ^ 64) (allocation (operations_of p)) sum)

module _ (spell : Instr → FetchedInstr) (sp : IsSpelling spell) where
  loads_following : (f offset : ℕ) (ops : List UnwindOperation) (ss : List Saved) (is : List Instr)
      (rs : List ℕ) → AllLoadable f ops ss → following f offset ops
      (spelled_by spell (loads_then ss is)) (Body rs)
      ≡ following f offset ops (spelled_by spell is) (Body (loaded ss rs))
  loads_following f offset ops [] is rs h = refl
  loads_following f offset ops (s ∷ ss) is rs h =
      ap (and_then (following f offset ops (spelled_by spell (loads_then ss is))))
      (load_next f offset ops s (spell (load_of s)) rs (sp.instr (load_of s)) h.0)
      ∙ loads_following f offset ops ss is (s.register ∷ rs) h.1

  pops_following : (f offset : ℕ) (ops : List UnwindOperation) (rs : List ℕ) → AllKept rs
      → following f offset ops (spelled_by spell (pops_then rs (instrs.Return ∷ []))) (Leaving rs)
      ≡ Some (Body [])
  pops_following f offset ops [] h = ap (and_then (λ m. Some m))
      (return_next f (spell instrs.Return) (sp.instr instrs.Return) sp.plain)
  pops_following f offset ops (r ∷ rs) h =
      ap (and_then (following f offset ops (spelled_by spell (pops_then rs (instrs.Return ∷ [])))))
      (pop_next f r rs (spell (instrs.Pop (register r))) (sp.instr (instrs.Pop (register r))) h.0)
      ∙ pops_following f offset ops rs h.1

  -- straight from the body
  from_loaded : (f offset : ℕ) (ops : List UnwindOperation) (x : FetchedInstr) (rs ps : List ℕ)
      (r : Role) → role_of f x.plain x.instr ≡ r → (r ≡ Restores) ⊎ (r ≡ Ends)
      → are_restored rs ops ≡ true → allocation ops ≡ 0 → pushes ops ≡ ps
      → next f offset ops x (Body rs) ≡ leaving f ps x
  from_loaded f offset ops x rs ps r e k done z same =
      let both = and_from (are_restored rs ops) (eqb (allocation ops) 0) done
      (eq-eqb (allocation ops) 0 z) in
      ap (from_body f offset ops rs x) e ∙ elim k [
        | inl a ↦ ap (from_body f offset ops rs x) a ∙ ap (only_if (leaving f (pushes ops) x)) both
            ∙ ap (λ q. leaving f q x) same
        | inr a ↦ ap (from_body f offset ops rs x) a ∙ ap (only_if (leaving f (pushes ops) x)) both
            ∙ ap (λ q. leaving f q x) same
      ]

  body_pops : (f offset : ℕ) (ops : List UnwindOperation) (rs ps : List ℕ) → AllKept ps
      → are_restored rs ops ≡ true → allocation ops ≡ 0 → pushes ops ≡ ps
      → following f offset ops (spelled_by spell (pops_then ps (instrs.Return ∷ []))) (Body rs)
      ≡ Some (Body [])
  body_pops f offset ops rs [] h done z same =
      let x = spell instrs.Return in
      ap (and_then (λ m. Some m)) (from_loaded f offset ops x rs [] Ends
      (ap (role_of f x.plain) (sp.instr instrs.Return) ∙ ap ending sp.plain) (inr refl) done z
      same) ∙ pops_following f offset ops [] h
  body_pops f offset ops rs (r ∷ ps) h done z same =
      let x = spell (instrs.Pop (register r)) in
      ap (and_then (following f offset ops (spelled_by spell (pops_then ps (instrs.Return ∷ [])))))
      (from_loaded f offset ops x rs (r ∷ ps) Restores
      (ap (role_of f x.plain) (sp.instr (instrs.Pop (register r)))) (inl refl) done z same)
      ∙ pops_following f offset ops (r ∷ ps) h

  -- an opening
  opens_next : (p : FramePlan) → IsPlan p → (rs : List ℕ) → (b : Bool) → eqb p.frame 0 ≡ b
      → are_restored rs (operations_of p) ≡ true
      → next p.frame p.distance (operations_of p) (spell (opening_by p b)) (Body rs)
      ≡ Some (Leaving p.pushes)
  opens_next p h rs b e done =
      let f = p.frame in
      let ops = operations_of p in
      let x = spell (opening_by p b) in
      let G : Instr → Option Mode = λ i. from_body f p.distance ops rs (record x { instr = i })
      (role_of f x.plain i) in
      let role = opens_role p h b e x.plain in
      let gives = gives_all p h b e in
      ap G (sp.instr (opening_by p b))
      ∙ ap (from_body f p.distance ops rs (record x { instr = opening_by p b })) role
      ∙ ap (only_if (Some (Leaving (pushes ops))))
      (and_from (are_restored rs ops) (gives_back f p.distance (allocation ops) (opening_by p b))
      done gives)
      ∙ ap (λ q. Some (Leaving q)) (pushes_plan p)

  kept_pushes : (p : FramePlan) → IsPlan p → AllKept p.pushes
  kept_pushes p h = pushes_kept p.frame p.pushes
      (ap (λ rs. are_allowed p.frame (pushed rs)) (sym (pushes_plan p))
      ∙ pushes_allowed p.frame (operations_of p) (ordered (operations_of p) (ordered_plan p))
      h.allowed)

  pub epilogue_following : (p : FramePlan) → IsPlan p → (rs : List ℕ)
      → following p.frame p.distance (operations_of p) (spelled_by spell (epilogue p)) (Body rs)
      ≡ Some (Body [])
  epilogue_following p h rs = loads_following p.frame p.distance (operations_of p) p.saves
      (opening_then p (eqb p.size 0) (pops_then p.pushes (instrs.Return ∷ []))) rs
      (all_loadable p h) ∙ go (eqb p.size 0) refl
    where
      go : (b : Bool) → eqb p.size 0 ≡ b → following p.frame p.distance (operations_of p)
          (spelled_by spell (opening_then p b (pops_then p.pushes (instrs.Return ∷ []))))
          (Body (loaded p.saves rs)) ≡ Some (Body [])
      go true e = body_pops p.frame p.distance (operations_of p) (loaded p.saves rs) p.pushes
          (kept_pushes p h) (restored_plan p rs) (allocation_plan p ∙ eqb-true p.size 0 e)
          (pushes_plan p)
      go false e = ap (and_then (following p.frame p.distance (operations_of p)
          (spelled_by spell (pops_then p.pushes (instrs.Return ∷ [])))))
          (opens_next p h (loaded p.saves rs) (eqb p.frame 0) refl (restored_plan p rs))
          ∙ pops_following p.frame p.distance (operations_of p) p.pushes (kept_pushes p h)

  -- ---- a function

  is_the_other : (r : Role) → is_other r ≡ true → r ≡ Other
  is_the_other Other e = refl
  is_the_other Opens e = absurd (false≢true e)
  is_the_other Restores e = absurd (false≢true e)
  is_the_other Ends e = absurd (false≢true e)

  pub inner_following : (p : FramePlan) (xs : List FetchedInstr) (rs : List ℕ)
      → are_inner p xs ≡ true → (to : List ℕ)
      × (following p.frame p.distance (operations_of p) xs (Body rs) ≡ Some (Body to))
  inner_following p [] rs h = (rs, refl)
  inner_following p (x ∷ xs) rs h =
      let q = and_parts (is_inner p x) (are_inner p xs) h in
      let w = and_parts (is_other (role_of p.frame x.plain x.instr))
      (may_write_all p.frame (operations_of p) (written x.instr)) q.0 in
      let n = inner_next p.frame p.distance (operations_of p) x rs
      (is_the_other (role_of p.frame x.plain x.instr) w.0) w.1 in
      let more = inner_following p xs (with_restored rs
      (restored_by p.frame p.distance (operations_of p) x.instr)) q.1 in
      (more.0, ap (and_then (following p.frame p.distance (operations_of p) xs)) n ∙ more.1)

  parts_following : (p : FramePlan) → IsPlan p
      → (parts : List (List FetchedInstr)) (last : List FetchedInstr) (rs : List ℕ)
      → all_inner p parts ≡ true → are_inner p last ≡ true
      → (to : List ℕ) × (following p.frame p.distance (operations_of p)
      (with_epilogues spell p parts last) (Body rs) ≡ Some (Body to))
  parts_following p h [] last rs a b = inner_following p last rs b
  parts_following p h (xs ∷ parts) last rs a b =
      let q = and_parts (are_inner p xs) (all_inner p parts) a in
      let first = inner_following p xs rs q.0 in
      let more = parts_following p h parts last [] q.1 b in
      let es = spelled_by spell (epilogue p) in
      let rest = with_epilogues spell p parts last in (
        more.0,
        following-append p.frame p.distance (operations_of p) xs (es ++ rest) (Body rs)
            (Body first.0) first.1 ∙ following-append p.frame p.distance (operations_of p) es rest
            (Body first.0) (Body []) (epilogue_following p h first.0) ∙ more.1,
      )

pub plans_are_right : PlansAreRight
plans_are_right spell p parts last sp h a b =
    let same = codes_plan spell p in
    let body = parts_following spell sp p h parts last [] a b in
    record {
      offset = h.distance;
      codes = refl;
      prologue_size = refl;
      steps = are_steps spell sp p h;
      ordered = subst (λ (xs : List UnwindOperation). is_ordered xs ≡ true) (sym same)
          (ordered_plan p);
      allowed = subst (λ (xs : List UnwindOperation). are_allowed p.frame xs ≡ true) (sym same)
          h.allowed;
      frame = λ ne. subst (λ (xs : List UnwindOperation). sets_frame xs ≡ true) (sym same)
          (framed_plan p ne);
      body = subst (λ (xs : List UnwindOperation). is_body
          (following p.frame p.distance xs (with_epilogues spell p parts last) (Body [])) ≡ true)
          (sym same) (ap is_body body.1);
    }
