-- The parts of a planned frame's epilogue: past the loads of saved registers it gives the
-- allocation back, and past that it pops the registers that are left.
use Rattle.std.proofs.Common.{◌≡◌, ◌≢◌, ℕ, Bool, true, false, List, [], ◌∷◌, ◌++◌, Option, Some, None, refl, sym, ap, subst, ◌∙◌, inl, inr}
use Rattle.std.specs.Prelude.{◌⊎◌, ◌&&◌, ◌==◌}
use Rattle.std.proofs.lemmas.Bool.{false≢true}
use Rattle.image_states.specs.Words.{Instr, spell}
use Rattle.eh_tables.specs.declared.code.UnwindOperation.{UnwindOperation}
use Rattle.x64_instr.specs.declared.operand.Base.TheVariants as bases
use Rattle.x64_instr.specs.declared.instruction.Instr.TheVariants as instrs
use Rattle.x64_instr.specs.Registers.{register}
use Rattle.virtual_unwind.specs.Tail.{FetchedInstr, role_of, opening, is_of}
use Rattle.virtual_unwind.specs.declared.tail.Role.{Role}
use Rattle.virtual_unwind.specs.declared.tail.Role.TheVariants.{Restores, Other}
use Rattle.virtual_unwind.specs.declared.tail.Role.TheVariants as roles
use Rattle.frame_rules.specs.Body.{Mode, Body, Leaving, following, is_body, and_then, from_body, leaving, only_if, with_restored, restored_by, are_restored, may_write_all, written}
use Rattle.frame_rules.specs.Codes.{allocation, pushes}
use Rattle.frame_rules.specs.Epilogue.{gives_back, is_pop}
use Rattle.frame_rules.specs.Plan.{FramePlan, Saved, epilogue, load_of, loads_then, opening_by, opening_then, pops_then, spelled_by}
use Rattle.frame_rules.proofs.Bodies.{Next, only, next_mode}
use Rattle.frame_rules.proofs.Tails.{some_same}
use Rattle.match_bodies.specs.CodeSites.{epilogue_through}

-- ---- its instructions

loads_both : (done left : List Saved) (is : List Instr)
    → loads_then (done ++ left) is ≡ loads_then done (loads_then left is)
loads_both [] left is = refl
loads_both (s ∷ done) left is = ap (λ (js : List Instr). load_of s ∷ js) (loads_both done left is)

loads_first : (ss : List Saved) (is js : List Instr)
    → loads_then ss (is ++ js) ≡ loads_then ss is ++ js
loads_first [] is js = refl
loads_first (s ∷ ss) is js = ap (λ (ks : List Instr). load_of s ∷ ks) (loads_first ss is js)

opening_first : (p : FramePlan) (none : Bool) (is js : List Instr)
    → opening_then p none (is ++ js) ≡ opening_then p none is ++ js
opening_first p true is js = refl
opening_first p false is js = refl

pops_both : (popped left : List ℕ) (is : List Instr)
    → pops_then (popped ++ left) is ≡ pops_then popped [] ++ pops_then left is
pops_both [] left is = refl
pops_both (r ∷ popped) left is =
    ap (λ (js : List Instr). instrs.Pop (register r) ∷ js) (pops_both popped left is)

-- what follows the loads
abbrev pub opened : FramePlan → List Instr
opened p = opening_then p (p.size == 0) (pops_then p.pushes (instrs.Return ∷ []))

-- before a load
pub epilogue_loads : (p : FramePlan) (loaded left : List Saved) → p.saves ≡ loaded ++ left
    → epilogue p ≡ loads_then loaded [] ++ loads_then left (opened p)
epilogue_loads p loaded left e =
    ap (λ (ss : List Saved). loads_then ss (opened p)) e
    ∙ loads_both loaded left (opened p)
    ∙ loads_first loaded [] (loads_then left (opened p))

-- past the loads
pub epilogue_opens : (p : FramePlan) → epilogue p ≡ loads_then p.saves [] ++ opened p
epilogue_opens p = loads_first p.saves [] (opened p)

-- where these registers have been popped
pub epilogue_pops : (p : FramePlan) (popped left : List ℕ) → p.pushes ≡ popped ++ left
    → epilogue p ≡ epilogue_through p popped ++ pops_then left (instrs.Return ∷ [])
epilogue_pops p popped left e =
    let rest = pops_then left (instrs.Return ∷ []) in
    ap (λ (rs : List ℕ). loads_then p.saves
    (opening_then p (p.size == 0) (pops_then rs (instrs.Return ∷ [])))) e
    ∙ ap (λ (is : List Instr). loads_then p.saves (opening_then p (p.size == 0) is))
    (pops_both popped left (instrs.Return ∷ []))
    ∙ ap (loads_then p.saves) (opening_first p (p.size == 0) (pops_then popped []) rest)
    ∙ loads_first p.saves (opening_then p (p.size == 0) (pops_then popped [])) rest

-- ---- the modes at them

module _ (f offset : ℕ) (ops : List UnwindOperation) where
  -- from this mode instructions lead to the body
  abbrev pub Leads : List FetchedInstr → Mode → Type 0
  Leads xs mode = is_body (following f offset ops xs mode) ≡ true

  load_leads : (s : Saved) (ys : List FetchedInstr) (rs : List ℕ)
      → Leads (spell (load_of s) ∷ ys) (Body rs) → (to : List ℕ) × Leads ys (Body to)
  load_leads s ys rs h =
      let x = spell (load_of s) in
      let k = next_mode f offset ops x ys (Body rs) h in
      let to = with_restored rs (restored_by f offset ops x.instr) in
      let o = only (Some (Body to)) (may_write_all f ops (written x.instr)) k.to k.is in
      (to, subst (λ (mode : Mode). Leads ys mode) (sym (some_same o.1)) k.rest)

  -- past the loads
  pub loads_lead : (ss : List Saved) (is : List Instr) (rs : List ℕ)
      → Leads (spelled_by spell (loads_then ss is)) (Body rs)
      → (to : List ℕ) × Leads (spelled_by spell is) (Body to)
  loads_lead [] is rs h = (rs, h)
  loads_lead (s ∷ ss) is rs h =
      let k = load_leads s (spelled_by spell (loads_then ss is)) rs h in
      loads_lead ss is k.0 k.1

  -- at an instruction that is in no body
  pub record Opening (x : FetchedInstr) (ys : List FetchedInstr) : Type 0 where
    pub role : role_of f x.plain x.instr ≢ Other
    pub leads : Leads ys (Leaving (pushes ops))

  opening_by_role : (x : FetchedInstr) (ys : List FetchedInstr) (rs : List ℕ) (opens : Bool)
      → role_of f x.plain x.instr ≡ opening opens → may_write_all f ops (written x.instr) ≡ false
      → Leads (x ∷ ys) (Body rs) → Opening x ys
  opening_by_role x ys rs true e stack h =
      let k = next_mode f offset ops x ys (Body rs) h in
      let o = only (Some (Leaving (pushes ops)))
      (are_restored rs ops && gives_back f offset (allocation ops) x.instr) k.to
      (sym (ap (from_body f offset ops rs x) e) ∙ k.is) in
      record {
        role = λ z. opens_no_other (sym e ∙ z);
        leads = subst (λ (mode : Mode). Leads ys mode) (sym (some_same o.1)) k.rest;
      }
    where
      opens_no_other : roles.Opens ≡ Other → ⊥
      opens_no_other z = cc
  opening_by_role x ys rs false e stack h =
      let k = next_mode f offset ops x ys (Body rs) h in
      let o = only (Some (Body (with_restored rs (restored_by f offset ops x.instr))))
      (may_write_all f ops (written x.instr)) k.to
      (sym (ap (from_body f offset ops rs x) e) ∙ k.is) in
      absurd (false≢true (sym stack ∙ o.0))

  opening_leads : (p : FramePlan) (by_size : Bool) (ys : List FetchedInstr) (rs : List ℕ)
      → Leads (spell (opening_by p by_size) ∷ ys) (Body rs)
      → Opening (spell (opening_by p by_size)) ys
  opening_leads p true ys rs h =
      opening_by_role (spell (opening_by p true)) ys rs true refl refl h
  opening_leads p false ys rs h =
      opening_by_role (spell (opening_by p false)) ys rs
      (is_of f (bases.Register (register p.frame)) None) refl refl h

  -- a pop or a return straight past the body
  straight : (x : FetchedInstr) (ys : List FetchedInstr) (rs : List ℕ) (r : Role)
      → role_of f x.plain x.instr ≡ r → (r ≡ Restores) ⊎ (r ≡ roles.Ends) → Leads (x ∷ ys) (Body rs)
      → Leads (x ∷ ys) (Leaving (pushes ops))
  straight x ys rs r e kind h = elim kind [
    | inl restores ↦ by (sym (ap (from_body f offset ops rs x) (e ∙ restores)) ∙ k.is)
    | inr ends ↦ by (sym (ap (from_body f offset ops rs x) (e ∙ ends)) ∙ k.is)
  ]
    where
      k : Next f offset ops x ys (Body rs)
      k = next_mode f offset ops x ys (Body rs) h

      by : only_if (leaving f (pushes ops) x) (are_restored rs ops && (allocation ops == 0))
          ≡ Some k.to → Leads (x ∷ ys) (Leaving (pushes ops))
      by e =
          let o = only (leaving f (pushes ops) x) (are_restored rs ops && (allocation ops == 0))
          k.to e in
          ap (λ (a : Option Mode). is_body (and_then (following f offset ops ys) a)) o.1 ∙ k.rest

  -- the first of these instructions is in no body, and past the allocation the pops follow
  pub record Opens (is : List Instr) (ps : List ℕ) : Type 0 where
    pub first : Instr
    pub rest : List Instr
    pub parts : is ≡ first ∷ rest
    pub role : role_of f (spell first).plain first ≢ Other
    pub pops : Leads (spelled_by spell (pops_then ps (instrs.Return ∷ []))) (Leaving (pushes ops))

  pops_open : (ps rs : List ℕ)
      → Leads (spelled_by spell (pops_then ps (instrs.Return ∷ []))) (Body rs)
      → Opens (pops_then ps (instrs.Return ∷ [])) ps
  pops_open [] rs h = record {
    first = instrs.Return;
    rest = [];
    parts = refl;
    role = λ z. (let e : roles.Ends ≡ Other = z in cc);
    pops = straight (spell instrs.Return) [] rs roles.Ends refl (inr refl) h;
  }
  pops_open (r ∷ ps) rs h = record {
    first = instrs.Pop (register r);
    rest = pops_then ps (instrs.Return ∷ []);
    parts = refl;
    role = λ z. (let e : Restores ≡ Other = z in cc);
    pops = straight (spell (instrs.Pop (register r)))
        (spelled_by spell (pops_then ps (instrs.Return ∷ []))) rs Restores refl (inl refl) h;
  }

  -- what follows the loads
  pub opened_leads : (p : FramePlan) (rs : List ℕ)
      → Leads (spelled_by spell (opened p)) (Body rs) → Opens (opened p) p.pushes
  opened_leads p rs h = by (p.size == 0) h
    where
      by : (none : Bool)
          → Leads (spelled_by spell (opening_then p none
          (pops_then p.pushes (instrs.Return ∷ [])))) (Body rs)
          → Opens (opening_then p none (pops_then p.pushes (instrs.Return ∷ []))) p.pushes
      by true h' = pops_open p.pushes rs h'
      by false h' =
          let pops = pops_then p.pushes (instrs.Return ∷ []) in
          let o = opening_leads p (p.frame == 0) (spelled_by spell pops) rs h' in
          record {
            first = opening_by p (p.frame == 0);
            rest = pops;
            parts = refl;
            role = o.role;
            pops = o.leads;
          }

  -- past some pops
  pub pops_lead : (popped left : List ℕ) (is : List Instr)
      → Leads (spelled_by spell (pops_then (popped ++ left) is)) (Leaving (popped ++ left))
      → Leads (spelled_by spell (pops_then left is)) (Leaving left)
  pops_lead [] left is h = h
  pops_lead (r ∷ popped) left is h =
      let x = spell (instrs.Pop (register r)) in
      let ys = spelled_by spell (pops_then (popped ++ left) is) in
      let k = next_mode f offset ops x ys (Leaving (r ∷ popped ++ left)) h in
      let o = only (Some (Leaving (popped ++ left))) (is_pop r x.instr) k.to k.is in
      pops_lead popped left is
      (subst (λ (mode : Mode). Leads ys mode) (sym (some_same o.1)) k.rest)
