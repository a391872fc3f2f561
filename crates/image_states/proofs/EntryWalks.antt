-- Where the function table has an entry at RIP, a walk finds the caller by the codes that are still
-- to be undone there: in the prologue those of the instructions that have been run, in the body
-- all, in an epilogue those whose registers no load has restored, and then the pushes that are
-- left.
use Rattle.std.proofs.Common.{◌≡◌, ◌≢◌, ℕ, ◌+◌, ◌-◌, ◌^◌, ◌<◌, Bool, true, false, ◌&&◌, ◌||◌, eqb, List, [], ◌∷◌, length, Option, Some, None, Ok, refl, sym, ap, subst, ◌∙◌, arith, inl, inr}
use Rattle.std.specs.Prelude.{nat_le, nat_lt}
use Rattle.std.proofs.lemmas.Bool.{cases_eq, false≢true, ne_eqb, eqb-false, not-true, lt-ltb}
use Rattle.image_states.specs.Words.{Memory, Instr, Context, Entry, rsp, Functions, distance, entry_of, of_entry, tail_at, left, framed, filter_return, finally_return, vectored_return, operations, by_distance, past_prologue, run_or, CallerFrame, found, rising, risen, caller_in, Answer, visited, if_over, if_filter, if_finally, if_vectored, HasCaller, FindsReturn, popped}
use Rattle.seh_num.specs.Answers.{◌>>=◌}
use Rattle.eh_tables.specs.declared.code.UnwindCode.{UnwindCode}
use Rattle.eh_tables.specs.declared.code.UnwindOperation.{UnwindOperation}
use Rattle.eh_tables.specs.declared.code.UnwindOperation.TheVariants.{Push, Allocate, SetFrame, Save, SaveVector, MachineFrame}
use Rattle.eh_tables.specs.Infos.{Info}
use Rattle.virtual_unwind.specs.Contexts.{get}
use Rattle.virtual_unwind.specs.CallerOf.{has_frame, run_by, sets_frame, unwound}
use Rattle.virtual_unwind.specs.Tail.{FetchedInstr, role_of}
use Rattle.virtual_unwind.specs.declared.tail.Role.TheVariants.{Other}
use Rattle.frame_rules.specs.Body.{Body, Leaving, following, is_body}
use Rattle.frame_rules.specs.Codes.{allocation, pushed, pushes, is_saved, is_ordered, is_allocated}
use Rattle.frame_rules.specs.Epilogue.{gives_back, is_epilogue, pops}
use Rattle.frame_rules.specs.Frame.{left_to}
use Rattle.frame_rules.specs.States.{HasItems}
use Rattle.frame_rules.proofs.Undoing.{undoing, popped_is, return_word}
use Rattle.frame_rules.proofs.Epilogues.{pops_restore, epilogue_restores}
use Rattle.frame_rules.proofs.Order.{Ordered, push, allocate, frame, save, ordered, ordered_rest, pushes_whole}
use Rattle.frame_rules.proofs.Tails.{no_tail, trails, opens_here}
use Rattle.match_stack.specs.PlainWalks.{state}
use Rattle.match_stack.proofs.FrameWords.{eight_numbers}
use Rattle.match_bodies.proofs.Walks.OwedCallers.{base_is}
use Rattle.match_bodies.specs.Callers.{Owed, IsOwed, FindsOwed, caller_owed, caller_left}

-- ---- a walk's answer

-- at an address that is none of the host's return addresses
pub record IsOwnAddress (rip : ℕ) : Type 0 where
  pub live : 0 < rip
  pub not_filter : rip ≢ filter_return
  pub not_finally : rip ≢ finally_return
  pub not_vectored : rip ≢ vectored_return

pub visits : (t : Functions) (m : Memory) (c k : Context) (asked : Option Info)
    → IsOwnAddress c.rip
    → caller_in t m c ≡ Ok (record { frame = rsp c; context = k; asked = asked })
    → HasCaller t m c k
unfolding visited
visits t m c k asked own called =
    let live = own.live in
    let f : CallerFrame = record { frame = rsp c; context = k; asked = asked } in
    let w = state c 0 in
    record {
      frame = f;
      visits = ap (if_over t m w) (ne_eqb c.rip 0
          (λ z. (let q : c.rip ≡ 0 = z in absurd (omega arith))))
          ∙ ap (if_filter t m w) (ne_eqb c.rip filter_return own.not_filter)
          ∙ ap (if_finally t m w) (ne_eqb c.rip finally_return own.not_finally)
          ∙ ap (if_vectored t m w) (ne_eqb c.rip vectored_return own.not_vectored)
          ∙ ap framed called;
      context = refl;
    }

module _ (c : Context) (size back : ℕ) (others : List ℕ) (eight : length others ≡ 8)
    (room : rsp c + size + 8 < 2 ^ 64) where
  abbrev old : ℕ → ℕ
  old = get (caller_owed c size back others)

  abbrev caller : Context
  caller = caller_left c size back others

  left_is : left_to old back ≡ caller
  left_is = ap (λ (os : List ℕ).
      let x : Context = record { rip = back; kept = (rsp c + size + 8) ∷ os } in x)
      (eight_numbers others eight)

  rises : nat_lt (rsp c) (rsp caller) ≡ true
  rises = lt-ltb _ _ (let e : rsp c < rsp c + size + 8 = omega arith in e)

  answers : (asked : Option Info) (a : Answer Context) → a ≡ Ok (left_to old back)
      → (found (rsp c) asked a >>= rising c)
      ≡ Ok (record { frame = rsp c; context = caller; asked = asked })
  answers asked a e =
      ap (λ (x : Answer Context). found (rsp c) asked x >>= rising c) (e ∙ ap Ok left_is)
      ∙ ap (risen c (record { frame = rsp c; context = caller; asked = asked })) rises

-- ---- where no entry is

-- the return address is popped
pub none_found : (t : Functions) (m : Memory) (rip : ℕ) → IsOwnAddress rip → entry_of t rip ≡ None
    → FindsReturn t m rip
unfolding caller_in
none_found t m rip own none c size back others at o =
    let old = get (caller_owed c size back others) in
    visits t m c (caller_left c size back others) None (subst IsOwnAddress (sym at) own)
    (ap (λ r. of_entry m c (distance t.base r) (entry_of t r) >>= rising c) at
    ∙ ap (λ (e : Option Entry). of_entry m c (distance t.base rip) e >>= rising c) none
    ∙ answers c size back others o.eight o.room None (popped m c)
    (popped_is m old back c o.kept
    (λ r nv. elim (cases_eq r 4) [
      | inl four ↦ subst (λ q. get c q ≡ old q) (sym four) o.stack.0
      | inr ne ↦ o.unsaved r nv ne refl
    ]) o.room (return_word m old back (rsp c) (rsp c) [] o.stack)))

-- ---- codes

-- those that are left once the loads of an epilogue have been made
abbrev pub unloaded : List UnwindOperation → List UnwindOperation
unloaded (Save r n ∷ xs) = unloaded xs
unloaded xs = xs

ordered_by : (these others : List UnwindCode) (b : Bool) → Ordered (operations these)
    → Ordered (operations others) → Ordered (operations (run_or these others b))
ordered_by these others true o p = o
ordered_by these others false o p = p

run_ordered : (d : ℕ) (codes : List UnwindCode) → Ordered (operations codes)
    → Ordered (operations (run_by d codes))
run_ordered d [] o = o
run_ordered d (x ∷ xs) o =
    ordered_by (x ∷ xs) (run_by d xs) (nat_le x.offset d) o
    (run_ordered d xs (ordered_rest x.operation (operations xs) o))

unloaded_ordered : (xs : List UnwindOperation) → is_ordered xs ≡ true
    → is_ordered (unloaded xs) ≡ true
unloaded_ordered (Save r n ∷ xs) h = unloaded_ordered xs h
unloaded_ordered [] h = h
unloaded_ordered (Push r ∷ xs) h = h
unloaded_ordered (Allocate n ∷ xs) h = h
unloaded_ordered (SetFrame ∷ xs) h = h
unloaded_ordered (SaveVector r n ∷ xs) h = h
unloaded_ordered (MachineFrame e ∷ xs) h = h

unloaded_frame : (xs : List UnwindOperation) → sets_frame (unloaded xs) ≡ sets_frame xs
unloaded_frame (Save r n ∷ xs) = unloaded_frame xs
unloaded_frame [] = refl
unloaded_frame (Push r ∷ xs) = refl
unloaded_frame (Allocate n ∷ xs) = refl
unloaded_frame (SetFrame ∷ xs) = refl
unloaded_frame (SaveVector r n ∷ xs) = refl
unloaded_frame (MachineFrame e ∷ xs) = refl

unloaded_allocation : (xs : List UnwindOperation) → allocation (unloaded xs) ≡ allocation xs
unloaded_allocation (Save r n ∷ xs) = let e = unloaded_allocation xs in omega arith
unloaded_allocation [] = refl
unloaded_allocation (Push r ∷ xs) = refl
unloaded_allocation (Allocate n ∷ xs) = refl
unloaded_allocation (SetFrame ∷ xs) = refl
unloaded_allocation (SaveVector r n ∷ xs) = refl
unloaded_allocation (MachineFrame e ∷ xs) = refl

unloaded_pushes : (xs : List UnwindOperation) → pushes (unloaded xs) ≡ pushes xs
unloaded_pushes (Save r n ∷ xs) = unloaded_pushes xs
unloaded_pushes [] = refl
unloaded_pushes (Push r ∷ xs) = refl
unloaded_pushes (Allocate n ∷ xs) = refl
unloaded_pushes (SetFrame ∷ xs) = refl
unloaded_pushes (SaveVector r n ∷ xs) = refl
unloaded_pushes (MachineFrame e ∷ xs) = refl

abbrev is_epilogue_by : ℕ → ℕ → ℕ → List ℕ → Instr → List Instr → Bool
is_epilogue_by f offset n ps x is =
    (gives_back f offset n x && pops ps is) || (eqb n 0 && pops ps (x ∷ is))

unloaded_epilogue : (f offset : ℕ) (xs : List UnwindOperation) (is : List Instr)
    → is_epilogue f offset xs is ≡ true → is_epilogue f offset (unloaded xs) is ≡ true
unloaded_epilogue f offset xs [] h = absurd (false≢true h)
unloaded_epilogue f offset xs (x ∷ is) h =
    let a = sym (unloaded_allocation xs) in
    let p = sym (unloaded_pushes xs) in
    subst (λ (ps : List ℕ). is_epilogue_by f offset (allocation (unloaded xs)) ps x is ≡ true) p
    (subst (λ n. is_epilogue_by f offset n (pushes xs) x is ≡ true) a h)

-- past the saves the pushes alone save registers
allocated_saves : (r : ℕ) (xs : List UnwindOperation) → is_allocated xs ≡ true
    → is_saved r xs ≡ is_saved r (pushed (pushes xs))
allocated_saves r [] h = refl
allocated_saves r (Push q ∷ xs) h =
    ap (λ (ys : List UnwindOperation). is_saved r (Push q ∷ ys)) (sym (pushes_whole xs h))
allocated_saves r (Allocate n ∷ xs) h = ap (is_saved r) (sym (pushes_whole xs h))
allocated_saves r (SetFrame ∷ xs) h = absurd (false≢true h)
allocated_saves r (Save q n ∷ xs) h = absurd (false≢true h)
allocated_saves r (SaveVector q n ∷ xs) h = absurd (false≢true h)
allocated_saves r (MachineFrame e ∷ xs) h = absurd (false≢true h)

unloaded_saves : (r : ℕ) (xs : List UnwindOperation) → Ordered xs
    → is_saved r (unloaded xs) ≡ is_saved r (pushed (pushes (unloaded xs)))
unloaded_saves r (Save q n ∷ xs) (save o) = unloaded_saves r xs o
unloaded_saves r [] o = refl
unloaded_saves r (Push q ∷ xs) (push p o) = allocated_saves r (Push q ∷ xs) p
unloaded_saves r (Allocate n ∷ xs) (allocate p o) = allocated_saves r (Allocate n ∷ xs) p
unloaded_saves r (SetFrame ∷ xs) (frame t p o) = allocated_saves r xs t
unloaded_saves r (SaveVector q n ∷ xs) o = elim o [ ]
unloaded_saves r (MachineFrame e ∷ xs) o = elim o [ ]

both_true : (a b : Bool) → (a && b) ≡ true → b ≡ true
both_true true b e = e
both_true false b e = absurd (false≢true e)

-- ---- at an entry

-- the entry of the function table at an address, so far from its begin, with these codes in order
pub record IsEntryAt (t : Functions) (rip d : ℕ) (i : Info) : Type 0 where
  pub entry : Entry
  pub found : entry_of t rip ≡ Some entry
  pub info : entry.info ≡ i
  pub parents : entry.parents ≡ []
  pub away : distance t.base rip - entry.range.begin ≡ d
  pub own : IsOwnAddress rip
  pub in_order : is_ordered (operations i.codes) ≡ true
  pub sets : i.frame_register ≢ 0 → sets_frame (operations i.codes) ≡ true

module _ (t : Functions) (m : Memory) (rip d : ℕ) (i : Info) (here : IsEntryAt t rip d i) where
  abbrev f : ℕ
  f = i.frame_register

  abbrev offset : ℕ
  offset = i.frame_offset

  abbrev ops : List UnwindOperation
  ops = operations i.codes

  abbrev of_codes : List UnwindOperation → Owed
  of_codes xs = record { register = f; offset = offset; codes = xs }

  by_first : Ordered ops
  by_first = ordered ops here.in_order

  -- the walk's answer is that of the entry
  by_entry : (c : Context) → c.rip ≡ rip → (b : Bool) → nat_lt d i.prologue_size ≡ b
      → caller_in t m c ≡ (by_distance m i [] c d b >>= rising c)
  unfolding caller_in
  by_entry c at b e =
      let entry = here.entry in
      ap (λ r. of_entry m c (distance t.base r) (entry_of t r) >>= rising c) at
      ∙ ap (λ (o : Option Entry). of_entry m c (distance t.base rip) o >>= rising c) here.found
      ∙ ap (λ k. by_distance m entry.info entry.parents c k (nat_lt k entry.info.prologue_size)
      >>= rising c) here.away
      ∙ ap (λ (x : Info). by_distance m x entry.parents c d (nat_lt d x.prologue_size)
      >>= rising c) here.info
      ∙ ap (λ (ps : List Info). by_distance m i ps c d (nat_lt d i.prologue_size) >>= rising c)
      here.parents
      ∙ ap (λ x. by_distance m i [] c d x >>= rising c) e

  own : (c : Context) → c.rip ≡ rip → IsOwnAddress c.rip
  own c at = subst IsOwnAddress (sym at) here.own

  pub prologue_found : nat_lt d i.prologue_size ≡ true
      → FindsOwed t m rip (of_codes (operations (run_by d i.codes)))
  prologue_found before c size back others at o =
      let xs = operations (run_by d i.codes) in
      let room = o.room in
      let base = base_is i c xs (has_frame i && sets_frame xs) (run_ordered d i.codes by_first)
      (both_true (has_frame i) (sets_frame xs)) (omega arith) o.small o.framed in
      visits t m c (caller_left c size back others) None (own c at)
      (by_entry c at true before
      ∙ ap (λ b. found b None (unwound m b i [] xs c) >>= rising c) base
      ∙ answers c size back others o.eight room None (unwound m (rsp c) i [] xs c)
      (undoing i m c (rsp c) (get (caller_owed c size back others)) back xs o.kept room o.small
      o.allowed o.stack o.framed o.unsaved))

  -- past the prologue, at an instruction that begins no epilogue
  pub body_found : nat_lt d i.prologue_size ≡ false → tail_at f m rip ≡ None
      → FindsOwed t m rip (of_codes ops)
  body_found past none c size back others at o =
      let room = o.room in
      let base = base_is i c ops (has_frame i) by_first
      (λ b. here.sets (eqb-false f 0 (not-true (eqb f 0) b))) (omega arith) o.small o.framed in
      visits t m c (caller_left c size back others) (Some i) (own c at)
      (by_entry c at false past
      ∙ ap (λ (x : Option (List Instr)). past_prologue m i [] c x >>= rising c)
      (ap (tail_at f m) at ∙ none)
      ∙ ap (λ b. found b (Some i) (unwound m b i [] ops c) >>= rising c) base
      ∙ answers c size back others o.eight room (Some i) (unwound m (rsp c) i [] ops c)
      (undoing i m c (rsp c) (get (caller_owed c size back others)) back ops o.kept room o.small
      o.allowed o.stack o.framed o.unsaved))

  -- where these instructions are left of an epilogue
  left_found : (xs : List UnwindOperation) (is : List Instr) → nat_lt d i.prologue_size ≡ false
      → tail_at f m rip ≡ Some is
      → ((c : Context) (size back : ℕ) (others : List ℕ) → IsOwed m c (of_codes xs) size back others
      → left m is c ≡ Ok (left_to (get (caller_owed c size back others)) back))
      → FindsOwed t m rip (of_codes xs)
  left_found xs is past tail' restores c size back others at o =
      visits t m c (caller_left c size back others) None (own c at)
      (by_entry c at false past
      ∙ ap (λ (x : Option (List Instr)). past_prologue m i [] c x >>= rising c)
      (ap (tail_at f m) at ∙ tail')
      ∙ answers c size back others o.eight o.room None (left m is c)
      (restores c size back others o))

  pub epilogue_found : (is : List Instr) → nat_lt d i.prologue_size ≡ false
      → tail_at f m rip ≡ Some is → is_epilogue f offset ops is ≡ true
      → FindsOwed t m rip (of_codes (unloaded ops))
  epilogue_found is past tail' all = left_found (unloaded ops) is past tail'
      (λ c size back others o.
      (let old = get (caller_owed c size back others) in
      let xs = unloaded ops in
      epilogue_restores i m c (rsp c) old back xs is o.kept o.room
      (unloaded_ordered ops here.in_order) o.allowed
      (λ ne. unloaded_frame ops ∙ here.sets ne) o.stack o.framed
      (λ r nv four z. o.unsaved r nv four (unloaded_saves r ops by_first ∙ z))
      (unloaded_epilogue f offset ops is all)))

  pub pops_found : (rs : List ℕ) (is : List Instr) → nat_lt d i.prologue_size ≡ false
      → tail_at f m rip ≡ Some is → pops rs is ≡ true → FindsOwed t m rip (of_codes (pushed rs))
  pops_found rs is past tail' all = left_found (pushed rs) is past tail'
      (λ c size back others o.
      pops_restore f m c (rsp c) (get (caller_owed c size back others)) back rs is o.kept o.room
      o.allowed o.stack o.unsaved all)

  -- ---- by the instructions that are there

  module _ (to : ℕ) (high : to < 2 ^ 63) (past : nat_lt d i.prologue_size ≡ false) where
    pub inner_found : (x : FetchedInstr) (ys : List FetchedInstr) → HasItems m rip (x ∷ ys) to
        → role_of f x.plain x.instr ≡ Other → FindsOwed t m rip (of_codes ops)
    unfolding tail_at
    inner_found x ys has other =
        body_found past (no_tail 0xFFFF_FFFF_FFFF_FFFF f m rip x (omega arith) has.0 other)

    -- the first instruction of an epilogue past its loads
    pub opening_found : (x : FetchedInstr) (ys : List FetchedInstr) (rs : List ℕ)
        → HasItems m rip (x ∷ ys) to
        → is_body (following f offset ops (x ∷ ys) (Body rs)) ≡ true
        → role_of f x.plain x.instr ≢ Other → FindsOwed t m rip (of_codes (unloaded ops))
    unfolding tail_at
    opening_found x ys rs has leads other =
        let o = opens_here f offset ops m 0xFFFF_FFFF_FFFF_FFFF rip to x ys rs high (omega arith)
        has leads other in
        epilogue_found o.is_there.instrs past o.is_there.is o.is_there.epilogue

    -- a further one
    pub leaving_found : (ys : List FetchedInstr) (rs : List ℕ) → HasItems m rip ys to
        → is_body (following f offset ops ys (Leaving rs)) ≡ true
        → FindsOwed t m rip (of_codes (pushed rs))
    unfolding tail_at
    leaving_found ys rs has leads =
        let t' = trails f offset ops m rs 0xFFFF_FFFF_FFFF_FFFF rip to true ys high (omega arith)
        has leads in
        pops_found rs t'.instrs past t'.is t'.pops
