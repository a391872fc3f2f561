-- Where no rule fails in the parts of a function, the callers of all of them are found.
use Rattle.std.proofs.Common.{◌≡◌, ℕ, ◌+◌, ◌-◌, ◌^◌, ◌<◌, true, ltb, List, [], ◌∷◌, ◌++◌, Option, Some, None, refl, sym, ap, subst, ◌∙◌, arith, inl, inr}
use Rattle.std.specs.Prelude.{Contains}
use Rattle.std.proofs.lemmas.Bool.{lt-ltb}
use Rattle.std.proofs.lemmas.List.Elements.{All-contains}
use Rattle.x64_machine.specs.declared.context.Context.{Context}
use Rattle.x64_machine.specs.Contexts.{context_of}
use Rattle.x64_machine.specs.Effect.{State}
use Rattle.eh_tables.specs.declared.range.RuntimeFunction.{RuntimeFunction}
use Rattle.eh_tables.specs.Infos.{Info}
use Rattle.eh_tables.specs.Tables.{Entry, Tables, entries_of, holding}
use Rattle.seh_num.specs.Answers.{◌>>=◌}
use Rattle.virtual_unwind.specs.Contexts.{rsp}
use Rattle.virtual_unwind.specs.Undone.{Answer, operations}
use Rattle.virtual_unwind.specs.Tail.{FetchedInstr}
use Rattle.virtual_unwind.specs.CallerOf.{CallerFrame, distance, in_entry, of_entry, risen, rising, caller_in, caller_of}
use Rattle.frame_rules.specs.Codes.{depth}
use Rattle.frame_rules.specs.Prologue.{bytes, items}
use Rattle.frame_rules.specs.Frame.{left_to}
use Rattle.frame_rules.specs.States.{registers, IsEntry, return_address, HasItems}
use Rattle.frame_rules.specs.Rules.{FramedFunction, InPrologue, FindsContext, IsFound}
use Rattle.frame_rules.proofs.Callers.{entries_are_found}
use Rattle.unwind_check.specs.Fragments.{AllKeepRules}
use Rattle.unwind_check.specs.Fragments as fragments
use Rattle.unwind_check.specs.Laws.{HasRightFunction, rest_of, parts_of, IsFunctionOf, IsPast, Stands, IsPlaced, function_range, IsPartOf, PartsFindTheirCallers, RulesFindCallers}
use Rattle.unwind_check.specs.Verdicts.{ImageCode, IsKept}
use Rattle.unwind_check.proofs.Owners.{known, alone, right, fragment, own_keeps, fragment_keeps, both}
use Rattle.unwind_check.proofs.ReadTables.{held}
use Rattle.unwind_check.proofs.RightPrologues.{items_split}
use Rattle.unwind_check.proofs.SameStates.{same_prologue, same_part, same_items}

-- ---- from an entry's info to the table

rises : (c : Context) (a : Answer CallerFrame) (to : Context) → FindsContext a to (rsp c)
    → IsFound (a >>= rising c) to
rises c a to h =
    let up : ltb (rsp c) (rsp h.found.context) ≡ true =
    ap (λ (x : Context). ltb (rsp c) (rsp x)) h.context
    ∙ lt-ltb (rsp c) (rsp to) h.rises in
    record {
      found = h.found;
      is = ap (λ (x : Answer CallerFrame). x >>= rising c) h.is ∙ ap (risen c h.found) up;
      context = h.context;
    }

found_by : (t : Tables) (s : State) (entry : Entry) (i : Info) (ps : List Info) (d : ℕ)
    (to : Context) → holding (distance t.image.base s.cpu.rip) (entries_of t) ≡ Some entry
    → entry.info ≡ i → entry.parents ≡ ps
    → distance t.image.base s.cpu.rip ≡ entry.range.begin + d
    → FindsContext (in_entry s.memory i ps (context_of s.cpu) d) to (registers s 4)
    → IsFound (caller_of t s.memory (context_of s.cpu)) to
unfolding caller_of caller_in
found_by t s entry i ps d to covers own above at h =
    let c = context_of s.cpu in
    let rva = distance t.image.base s.cpu.rip in
    let away : rva - entry.range.begin ≡ d = omega arith in
    let h1 = subst (λ (x : Info). FindsContext (in_entry s.memory x ps c d) to (registers s 4))
    (sym own) h in
    let h2 = subst (λ (xs : List Info). FindsContext (in_entry s.memory entry.info xs c d) to
    (registers s 4)) (sym above) h1 in
    let h3 = subst (λ k. FindsContext (in_entry s.memory entry.info entry.parents c k) to
    (registers s 4)) (sym away) h2 in
    subst (λ (x : Option Entry). IsFound (of_entry s.memory c rva x >>= rising c) to) (sym covers)
    (rises c (of_entry s.memory c rva (Some entry)) to h3)

-- an info without codes and prologue, and with the frame register of another one
abbrev bare : Info → Info
bare p = record p { codes = []; prologue_size = 0 }

bare_is : (p : Info) → fragments.IsFragmentOf (bare p) p
bare_is p = record { codes = refl; prologue = refl; register = refl; offset = refl }

module _ (t : Tables) (c : ImageCode) (entry : Entry) (e s : State) (d : ℕ)
    (covers : holding (distance t.image.base s.cpu.rip) (entries_of t) ≡ Some entry)
    (away : distance t.image.base s.cpu.rip ≡ entry.range.begin + d)
    (range : RuntimeFunction)
    (all : (x : Entry) → Contains (entries_of t) x → IsPartOf range x → IsKept c x)
    (placed : IsPlaced c.memory (entries_of t) entry t.image.base s.memory)
    (rip : s.cpu.rip ≡ t.image.base + entry.range.begin + d) where
  abbrev rva : ℕ
  rva = distance t.image.base s.cpu.rip

  abbrev base : ℕ
  base = t.image.base

  abbrev es : List Entry
  es = entries_of t

  abbrev Found : Type 0
  Found = IsFound (caller_of t s.memory (context_of s.cpu))
      (left_to (registers e) (return_address e))

  here : Contains es entry
  here = held rva es entry covers

  low_end : base + entry.range.end < 2 ^ 63
  low_end = All-contains (λ (x : Entry). base + x.range.end < 2 ^ 63) es entry placed.low here

  items_placed : (at : ℕ) (xs : List FetchedInstr)
      → HasItems c.memory at xs entry.range.end
      → HasItems s.memory (base + at) xs (base + entry.range.end)
  items_placed at xs h = same_items c.memory s.memory base entry.range.end placed.code at xs
      entry.range.end (omega arith) h

  -- ---- an entry that isn't chained

  module _ (single : entry.info.parent ≡ None) (its : entry.range ≡ range) (f : FramedFunction)
      (is : IsFunctionOf c.memory entry.range.begin entry.range.end entry.info f)
      (entered : IsEntry (depth (operations entry.info.codes)) e) where
    abbrev has : HasRightFunction c.memory entry.range.begin entry.range.end entry.info
    has = right t c rva entry covers range all placed.low entry here its single

    above : entry.parents ≡ []
    above = alone t c rva entry covers range all placed.low entry
        (known t c rva entry covers range all placed.low entry here (inl its)) single

    in_prologue : InPrologue f e s d → Found
    in_prologue h =
        let g = has.function in
        entries_are_found t entry g e s (base + entry.range.begin) d (base + entry.range.end) covers
        (sym has.is.info) above away has.right
        (subst (λ (i : Info). IsEntry (depth (operations i.codes)) e) (sym has.is.info) entered)
        (items_placed entry.range.begin (items g.steps ++ g.rest) has.is_there) low_end rip
        (inl (same_prologue f g (is.info ∙ sym has.is.info) (is.prologue ∙ sym has.is.prologue) e s
        d h))

    in_part : IsPast c.memory es entry entry f e s d → Found
    in_part h =
        let g = has.function in
        let size = has.right.prologue_size in
        let info = ap (λ (i : Info). i.prologue_size) has.is.info in
        let split = (items_split c.memory entry.range.begin (items g.steps) g.rest entry.range.end
        has.is_there).1 in
        let at : entry.range.begin + bytes (items g.steps)
        ≡ entry.range.begin + entry.info.prologue_size = omega (arith, size, info) in
        let there = subst (λ (xs : List FetchedInstr).
        HasItems c.memory (entry.range.begin + entry.info.prologue_size) xs entry.range.end)
        has.is.rest (subst (λ k. HasItems c.memory k g.rest entry.range.end) at split) in
        let distance = h.distance in
        let found = (both t c rva entry covers range all placed.low entry here its single e s h.past
        (rest_of c.memory entry) (base + (entry.range.begin + entry.info.prologue_size))
        (base + entry.range.end) (omega (arith, rip, distance)) low_end
        (items_placed (entry.range.begin + entry.info.prologue_size) (rest_of c.memory entry) there)
        (own_keeps t c rva entry covers range all placed.low entry here its single) entered
        (same_part f g (is.info ∙ sym has.is.info) (is.prologue ∙ sym has.is.prologue) e s h.past
        (parts_of c.memory es entry) (rest_of c.memory entry) h.state) (bare entry.info)
        (bare_is entry.info)).1 in
        found_by t s entry entry.info [] (entry.info.prologue_size + h.past)
        (left_to (registers e) (return_address e)) covers refl above
        (omega (arith, away, distance)) found

  -- ---- a fragment

  in_fragment : (owner : Entry) (f : FramedFunction) → Contains es owner → owner.range ≡ range
      → entry.info.parent ≡ Some owner.range
      → IsFunctionOf c.memory owner.range.begin owner.range.end owner.info f
      → IsEntry (depth (operations owner.info.codes)) e
      → IsPast c.memory es entry owner f e s d → Found
  in_fragment owner f there its named is entered h =
      let ko = known t c rva entry covers range all placed.low owner there (inl its) in
      let ke = known t c rva entry covers range all placed.low entry here
      (inr (named ∙ ap (λ (x : RuntimeFunction). Some x) its)) in
      let w = fragment t c rva entry covers range all placed.low owner entry ko ke named in
      let single = w.right.function in
      let q = right t c rva entry covers range all placed.low owner there its single in
      let g = q.function in
      let none = w.right.fragment.prologue in
      let distance = h.distance in
      let kept =
      fragment_keeps t c rva entry covers range all placed.low owner there its single entry in
      let found = (both t c rva entry covers range all placed.low owner there its single e s h.past
      (rest_of c.memory entry) (base + entry.range.begin) (base + entry.range.end)
      (omega (arith, rip, distance, none)) low_end
      (items_placed entry.range.begin (rest_of c.memory entry) w.right.is_there)
      (kept ke named) entered
      (same_part f g (is.info ∙ sym q.is.info) (is.prologue ∙ sym q.is.prologue) e s h.past
      (parts_of c.memory es owner) (rest_of c.memory entry) h.state) entry.info
      w.right.fragment).0 in
      found_by t s entry entry.info (owner.info ∷ []) h.past
      (left_to (registers e) (return_address e)) covers refl w.above
      (omega (arith, away, distance, none)) found

  -- ---- each

  stands : (owner : Entry) (f : FramedFunction) (o : Option RuntimeFunction)
      → entry.info.parent ≡ o → function_range entry.range o ≡ range
      → IsFunctionOf c.memory owner.range.begin owner.range.end owner.info f
      → IsEntry (depth (operations owner.info.codes)) e
      → Stands c.memory es entry owner f e s d o → Found
  stands owner f None single its is entered (same, state) =
      let is_own = subst (λ (x : Entry).
      IsFunctionOf c.memory x.range.begin x.range.end x.info f) same is in
      let first = subst (λ (x : Entry). IsEntry (depth (operations x.info.codes)) e) same entered in
      elim state [
        | inl h ↦ in_prologue single its f is_own first h
        | inr h ↦ in_part single its f is_own first
            (subst (λ (x : Entry). IsPast c.memory es entry x f e s d) same h)
      ]
  stands owner f (Some q) named its is entered (same, there, h) = in_fragment owner f there
      (same ∙ its) (named ∙ ap (λ (x : RuntimeFunction). Some x) (sym same)) is entered h

pub parts_find_their_callers : PartsFindTheirCallers
parts_find_their_callers t c entry e s d kept covers away placed rip st =
    stands t c entry e s d covers away (function_range entry.range entry.info.parent) kept placed
    rip st.owner st.function entry.info.parent refl refl st.is st.entered st.stands

pub rules_find_callers : RulesFindCallers
rules_find_callers t c n entry e s d v covers away placed rip st =
    parts_find_their_callers t c entry e s d
    (λ x here part. All-contains (IsKept c) (entries_of t) x v.0 here) covers away placed rip st
