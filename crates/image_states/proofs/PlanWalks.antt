-- In a routine whose frame is made by a plan a walk finds the caller at each instruction by the
-- codes that are still to be undone there: in its prologue, in its body, and in its epilogues.
use Rattle.std.proofs.Common.{◌≡◌, ℕ, ◌+◌, ◌-◌, ◌^◌, ◌<◌, ◌≤◌, Bool, true, false, not, List, [], ◌∷◌, ◌++◌, length, Some, refl, sym, ap, subst, ◌∙◌, arith}
use Rattle.std.specs.Prelude.{◌==◌, nat_lt}
use Rattle.std.proofs.lemmas.Bool.{and_from, lt-ltb, le-ltb}
use Rattle.std.proofs.lemmas.List.{append-nil}
use Rattle.image_states.specs.Words.{Memory, Instr, chosen, is_encodable, Entry, Functions, distance, entry_of, operations, IsExecutableAt, spell, spelled, sizes, FindsReturn, FindsOwed, Owed, owed_after, owed_by}
use Rattle.x64_instr.specs.Registers.{register}
use Rattle.x64_instr.specs.declared.instruction.Instr.TheVariants as instrs
use Rattle.x64_encode.proofs.Lengths.{longest}
use Rattle.eh_tables.specs.Infos.{Info}
use Rattle.eh_tables.specs.declared.code.UnwindCode.{UnwindCode}
use Rattle.eh_tables.specs.declared.code.UnwindOperation.{UnwindOperation}
use Rattle.virtual_unwind.specs.CallerOf.{run_by, sets_frame}
use Rattle.virtual_unwind.specs.Tail.{FetchedInstr, role_of}
use Rattle.virtual_unwind.specs.declared.tail.Role.TheVariants.{Other}
use Rattle.frame_rules.specs.Body.{Body, Leaving, following, is_body}
use Rattle.frame_rules.specs.Codes.{is_ordered, pushed, pushes}
use Rattle.frame_rules.specs.Plan.{FramePlan, IsPlan, Saved, allocation_then, epilogue, frame_then, load_of, loads_then, operations_of, pops_then, prologue, saves_then, spelled_by, unwind_of}
use Rattle.frame_rules.specs.States.{HasItems}
use Rattle.frame_rules.proofs.Bytes.{spells_all, plans_are_encodable}
use Rattle.frame_rules.proofs.Emitting.{epilogue_following}
use Rattle.frame_rules.proofs.Planned.{pushes_plan}
use Rattle.frame_rules.proofs.Planning.{are_steps, codes_plan, framed_plan, ordered_plan}
use Rattle.frame_rules.proofs.Prologues.{skips}
use Rattle.image_tables.proofs.Callers.{following_items, before_end}
use Rattle.image_tables.proofs.FramePlans.{bytes_sizes}
use Rattle.image_tables.proofs.Rest.{spelled_both}
use Rattle.match_bodies.specs.Callers.{owed_opening, owed_pops}
use Rattle.match_bodies.specs.CodeSites.{epilogue_through}
use Rattle.image_states.proofs.Lemmas.{items_are_at, sizes_spelled}
use Rattle.image_states.proofs.EntryWalks.{IsOwnAddress, IsEntryAt, unloaded, prologue_found, inner_found, opening_found, leaving_found}
use Rattle.image_states.proofs.EpilogueModes.{Leads, opened, epilogue_loads, epilogue_opens, epilogue_pops, loads_lead, opened_leads, pops_lead}

-- ---- codes without saves

unloaded_saves : (ss : List Saved) (xs : List UnwindOperation)
    → unloaded (saves_then ss xs) ≡ unloaded xs
unloaded_saves [] xs = refl
unloaded_saves (s ∷ ss) xs = unloaded_saves ss xs

unloaded_pushed : (rs : List ℕ) → unloaded (pushed rs) ≡ pushed rs
unloaded_pushed [] = refl
unloaded_pushed (r ∷ rs) = refl

unloaded_allocated : (some : Bool) (n : ℕ) (rs : List ℕ)
    → unloaded (allocation_then some n (pushed rs)) ≡ allocation_then some n (pushed rs)
unloaded_allocated true n rs = refl
unloaded_allocated false n rs = unloaded_pushed rs

unloaded_framed : (framed some : Bool) (n : ℕ) (rs : List ℕ)
    → unloaded (frame_then framed (allocation_then some n (pushed rs)))
    ≡ frame_then framed (allocation_then some n (pushed rs))
unloaded_framed true some n rs = refl
unloaded_framed false some n rs = unloaded_allocated some n rs

unloaded_plan : (p : FramePlan)
    → unloaded (operations_of p) ≡ operations_of (record p { saves = [] })
unloaded_plan p =
    unloaded_saves p.saves
    (frame_then (not (p.frame == 0)) (allocation_then (not (p.size == 0)) p.size
    (pushed p.pushes)))
    ∙ unloaded_framed (not (p.frame == 0)) (not (p.size == 0)) p.size p.pushes

-- ---- a routine

-- from one address up to another, the entry of a routine with a frame by a plan: its info tells of
-- the plan's prologue, which isn't empty
pub record IsPlannedAt (t : Functions) (begin end : ℕ) (p : FramePlan) (i : Info) : Type 0 where
  pub is_plan : IsPlan p
  pub codes : i.codes ≡ (unwind_of spell p).codes
  pub frame_register : i.frame_register ≡ p.frame
  pub frame_offset : i.frame_offset ≡ p.distance
  pub some : 0 < i.prologue_size
  pub inside : begin + i.prologue_size ≤ end
  pub high : end < 2 ^ 62
  pub entry : Entry
  pub info : entry.info ≡ i
  pub parents : entry.parents ≡ []
  pub found : (d : ℕ) → begin + d < end → entry_of t (begin + d) ≡ Some entry
  pub away : (d : ℕ) → begin + d < end → distance t.base (begin + d) - entry.range.begin ≡ d
  pub own : (d : ℕ) → begin + d < end → IsOwnAddress (begin + d)

module _ (t : Functions) (m : Memory) (begin end : ℕ) (p : FramePlan) (i : Info)
    (h : IsPlannedAt t begin end p i) where
  codes_are : operations i.codes ≡ operations_of p
  codes_are = ap operations h.codes ∙ codes_plan spell p

  entry_at : (d : ℕ) → begin + d < end → IsEntryAt t (begin + d) d i
  entry_at d lt = record {
    entry = h.entry;
    found = h.found d lt;
    info = h.info;
    parents = h.parents;
    away = h.away d lt;
    own = h.own d lt;
    in_order = ap is_ordered codes_are ∙ ordered_plan p;
    sets = λ ne. ap sets_frame codes_are ∙ framed_plan p (λ z. ne (h.frame_register ∙ z));
  }

  -- ---- the prologue

  -- while the frame is made: the codes of the instructions that have been run
  pub making_found : (d : ℕ) → d < i.prologue_size → FindsOwed t m (begin + d) (owed_after i d)
  making_found d lt =
      let inside = h.inside in
      prologue_found t m (begin + d) d i (entry_at d (omega arith))
      (lt-ltb d i.prologue_size lt)

  none_run : operations (run_by 0 i.codes) ≡ []
  none_run =
      ap (λ (cs : List UnwindCode). operations (run_by 0 cs)) h.codes
      ∙ ap operations (skips p.frame p.distance 0 0 [] (prologue spell p) (omega arith)
      (are_steps spell spells_all p h.is_plan))

  -- at its first byte: none
  pub entered_found : FindsReturn t m begin
  entered_found c size back others at o =
      let near = h.is_plan.distance in
      let offset = h.frame_offset in
      let first : Owed = record {
        register = i.frame_register;
        offset = i.frame_offset;
        codes = [];
      } in
      let same : owed_after i 0 ≡ first = λ j. record {
        register = i.frame_register;
        offset = i.frame_offset;
        codes = none_run j;
      } in
      let z : begin + 0 ≡ begin = omega arith in
      subst (λ a. FindsOwed t m a first) z
      (subst (FindsOwed t m (begin + 0)) same (making_found 0 h.some)) c size back others at
      (record {
        kept = o.kept;
        eight = o.eight;
        room = o.room;
        small = omega arith;
        allowed = refl;
        stack = o.stack;
        framed = tt;
        unsaved = o.unsaved;
      })

  -- ---- the body

  -- at an instruction that is in no epilogue: all codes
  pub instruction_found : (d : ℕ) (x : Instr) → i.prologue_size ≤ d → begin + d < end
      → is_encodable x ≡ true → ((plain : Bool) → role_of i.frame_register plain x ≡ Other)
      → IsExecutableAt m (begin + d) (chosen x) → FindsOwed t m (begin + d) (owed_by i false)
  instruction_found d x past lt encodable other is_there =
      let high = h.high in
      let one = append-nil (chosen x) in
      let few = longest x in
      let l = ap length one in
      inner_found t m (begin + d) d i (entry_at d lt) (begin + d + length (spelled (x ∷ [])))
      (omega arith) (le-ltb d i.prologue_size past) (spell x) []
      (items_are_at m (begin + d) (x ∷ []) (and_from _ true encodable refl) (omega arith)
      (subst (IsExecutableAt m (begin + d)) (sym one) is_there))
      (other (spell x).plain)

  -- ---- an epilogue

  module _ (d : ℕ) (past : i.prologue_size ≤ d) (within : begin + d + sizes (epilogue p) ≤ end)
      (is_there : IsExecutableAt m (begin + d) (spelled (epilogue p))) where
    abbrev at : ℕ
    at = begin + d

    abbrev to : ℕ
    to = at + length (spelled (epilogue p))

    to_end : to ≤ end
    to_end = omega (arith, sizes_spelled (epilogue p))

    low : to < 2 ^ 63
    low = let high = h.high in let e = to_end in omega arith

    items_from : (done left : List Instr) → epilogue p ≡ done ++ left
        → HasItems m (at + sizes done) (spelled_by spell left) to
    items_from done left e =
        subst (λ n. HasItems m (at + n) (spelled_by spell left) to) (bytes_sizes done)
        (following_items m at (spelled_by spell done) (spelled_by spell left) to
        (subst (λ (xs : List FetchedInstr). HasItems m at xs to)
        (ap (spelled_by spell) e ∙ spelled_both done left)
        (items_are_at m at (epilogue p) (plans_are_encodable p h.is_plan).1 low is_there)))

    -- the entry at an instruction of it
    record IsInside (n : ℕ) : Type 0 where
      here : IsEntryAt t (at + n) (d + n) i
      later : nat_lt (d + n) i.prologue_size ≡ false

    inside_at : (n : ℕ) (x : FetchedInstr) (ys : List FetchedInstr)
        → HasItems m (at + n) (x ∷ ys) to → IsInside n
    inside_at n x ys has =
        let e = to_end in
        let lt = before_end m (at + n) (x ∷ ys) to has (λ z. absurd (none z)) in
        let same : begin + (d + n) ≡ at + n = omega arith in
        record {
          here = subst (λ a. IsEntryAt t a (d + n) i) same (entry_at (d + n) (omega arith));
          later = le-ltb (d + n) i.prologue_size (omega arith);
        }
      where
        none : x ∷ ys ≡ [] → ⊥
        none z = cc

    whole : Leads i.frame_register i.frame_offset (operations i.codes)
        (spelled_by spell (epilogue p)) (Body [])
    whole =
        (λ j. is_body (following (h.frame_register j) (h.frame_offset j) (codes_are j)
        (spelled_by spell (epilogue p)) (Body [])))
        ∙ ap is_body (epilogue_following spell spells_all p h.is_plan [])

    -- before each of its loads: all codes
    pub load_found : (loaded left : List Saved) (next : Saved) → p.saves ≡ loaded ++ (next ∷ left)
        → FindsOwed t m (at + sizes (loads_then loaded [])) (owed_by i false)
    load_found loaded left next e =
        let n = sizes (loads_then loaded []) in
        let x = spell (load_of next) in
        let ys = spelled_by spell (loads_then left (opened p)) in
        let has = items_from (loads_then loaded []) (load_of next ∷ loads_then left (opened p))
        (epilogue_loads p loaded (next ∷ left) e) in
        let k = inside_at n x ys has in
        inner_found t m (at + n) (d + n) i k.here to low k.later x ys has refl

    -- where they have been made: all but the saves
    pub opening_leaves : FindsOwed t m (at + sizes (loads_then p.saves [])) (owed_opening p)
    opening_leaves =
        let f = i.frame_register in
        let offset = i.frame_offset in
        let ops = operations i.codes in
        let n = sizes (loads_then p.saves []) in
        let l = loads_lead f offset ops p.saves (opened p) [] whole in
        let o = opened_leads f offset ops p l.0 l.1 in
        let parts = ap (spelled_by spell) o.parts in
        let x = spell o.first in
        let ys = spelled_by spell o.rest in
        let has = subst (λ (xs : List FetchedInstr). HasItems m (at + n) xs to) parts
        (items_from (loads_then p.saves []) (opened p) (epilogue_opens p)) in
        let k = inside_at n x ys has in
        let same : (let owed : Owed = record {
          register = f;
          offset = offset;
          codes = unloaded ops;
        } in owed ≡ owed_opening p) = λ j. record {
          register = h.frame_register j;
          offset = h.frame_offset j;
          codes = (ap unloaded codes_are ∙ unloaded_plan p) j;
        } in
        subst (FindsOwed t m (at + n)) same
        (opening_found t m (at + n) (d + n) i k.here to low k.later x ys l.0 has
        (subst (λ (xs : List FetchedInstr). Leads f offset ops xs (Body l.0)) parts l.1) o.role)

    -- where the allocation is given back, and these registers are popped: the pushes that are left
    pub pops_leave : (popped left : List ℕ) → p.pushes ≡ popped ++ left
        → FindsOwed t m (at + sizes (epilogue_through p popped)) (owed_pops p left)
    pops_leave popped left e =
        let f = i.frame_register in
        let offset = i.frame_offset in
        let ops = operations i.codes in
        let n = sizes (epilogue_through p popped) in
        let last = instrs.Return ∷ [] in
        let l = loads_lead f offset ops p.saves (opened p) [] whole in
        let o = opened_leads f offset ops p l.0 l.1 in
        let pushes_are : pushes ops ≡ popped ++ left = ap pushes codes_are ∙ pushes_plan p ∙ e in
        let leads = pops_lead f offset ops popped left last
        (subst (λ (rs : List ℕ). Leads f offset ops (spelled_by spell (pops_then rs last))
        (Leaving (popped ++ left))) e
        (subst (λ (rs : List ℕ). Leads f offset ops (spelled_by spell (pops_then p.pushes last))
        (Leaving rs)) pushes_are o.pops)) in
        let has = items_from (epilogue_through p popped) (pops_then left last)
        (epilogue_pops p popped left e) in
        let k = some_left n left has in
        let same : (let owed : Owed = record {
          register = f;
          offset = offset;
          codes = pushed left;
        } in owed ≡ owed_pops p left) = λ j. record {
          register = h.frame_register j;
          offset = h.frame_offset j;
          codes = pushed left;
        } in
        subst (FindsOwed t m (at + n)) same
        (leaving_found t m (at + n) (d + n) i k.here to low k.later
        (spelled_by spell (pops_then left last)) left has leads)
      where
        some_left : (n : ℕ) (rs : List ℕ)
            → HasItems m (at + n) (spelled_by spell (pops_then rs (instrs.Return ∷ []))) to
            → IsInside n
        some_left n [] has = inside_at n (spell instrs.Return) [] has
        some_left n (r ∷ rs) has = inside_at n (spell (instrs.Pop (register r)))
            (spelled_by spell (pops_then rs (instrs.Return ∷ []))) has
