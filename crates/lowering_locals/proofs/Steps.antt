-- An instruction that reads locals alone that have been set goes alike whatever the other locals
-- are.
use Rattle.std.proofs.Common.{◌≡◌, ◌≤◌, ℕ, ◌+◌, ◌-◌, List, [], ◌∷◌, ◌++◌, length, refl, sym, ap, subst, ◌∙◌, arith}
use Rattle.std.proofs.lemmas.List.{length-drop, length-replicate}
use Rattle.std.specs.Prelude.{Bool, true, false, not, nat_eq, nat_lt, take, drop, get_or, replicate, slice_get, if◌then◌else◌, Option, Some, None}
use Rattle.std.specs.Prelude.{is_some}
use Rattle.linear_code.specs.Program.{depth_weight}
use Rattle.lowering_locals.specs.Words.{Event, W32, W64, low, signed, BuiltIn, Put, Protect, RaiseException, Walk, AddVectored, RemoveVectored, Operation, OperationResult, Gives, Raises, Undefined, performed, is_reserved, of_test, field_of, raised, Slot, Local, Temporary, Instruction, LinearProgram, LinearFunction, FunctionBody, Item, Waits, AfterCall, SameOperation, Store, Configuration, Seen, Finished, Stuck, Next, pick, with_some, deeper, read, with_temporary, with_temporaries, last_temporaries, set_local, at_label, forth, with_last, is_constant, operand, written, computed, tested, waiting, begin_function, count_of, built_in, end_body, not_landed, act, Marks, flag_set, with_mark, left_store, begun_marks, outcome_of, local_in, local_given, marks_left, next_marks, AreActivationsAlike, IsSet, AreOperandsSet, ReadsSet}
use Rattle.seh_num.specs.declared.event.Event.TheVariants as events
use Rattle.flat_memory.specs.Memory.{protected, rights_asked}
use Rattle.source_meaning.specs.declared.ended.Ended.TheVariants as ends
use Rattle.linear_code.specs.declared.instruction.Instruction.TheVariants as instructions
use Rattle.lowering_locals.proofs.Lemmas.{same_it}
use Rattle.lowering_invariants.proofs.Ready.{last_are}
use Rattle.lowering_locals.proofs.Lists.{set_in, set_long, Alive, same_read, as_long, whole_alive, set_alive}
use Rattle.lowering_locals.proofs.Begins.{begun_in, begun_after}
use Rattle.lowering_locals.proofs.Events.{Adds, adds_none, adds_one, adds_all, walk_is_no_block, no_block_events}
use Rattle.linear_machine.specs.Frames.{functions_in}
use Rattle.source_meaning.specs.State.{walk_events}
use Rattle.lowering_locals.proofs.TurnPairs.{over_store, over, Both, Halt, Move, pick_both, some_both, deeper_both}
use Rattle.lowering_locals.proofs.Unwinding.{AfterWrite, After, Lives, All, living, no_block_after, goes, block_both, unwind_both, raise_both, end_both}
use Rattle.vectored_list.specs.Lists.{is_listed, can_be_added, added, removed}
use Rattle.linear_machine.specs.Instructions.{with_handlers}

-- ---- arguments

last_is : (b : Bool) (x y : List ℕ) → (if b then Some x else None) ≡ Some y → x ≡ y
last_is true x y e = same_it x y e
last_is false x y e = absurd (cc)

pub last_count : (ts : List ℕ) (first count : ℕ) (vs : List ℕ)
    → last_temporaries ts first count ≡ Some vs → length vs ≡ count
last_count ts first count vs e =
    let n = last_are ts first count vs e in
    let d = length-drop first ts in
    ap length (sym (last_is (nat_eq (length ts) (first + count)) (drop first ts) vs e))
    ∙ omega arith

-- ---- results

module _ (program : LinearProgram) (marks : Marks) (before : List Event) (left : ℕ) where
  abbrev Living : List (List ℕ) → List (List ℕ) → Type 0
  Living xs ys = Lives program marks before left xs ys

  abbrev AllLiving : List (List ℕ) → List (List ℕ) → Type 0
  AllLiving xs ys = All program marks before left xs ys

  stored_both : (k : ℕ) (b : Configuration) (ys : List (List ℕ)) (o : Option (List ℕ))
      → Adds before b.events → Living b.store.activations ys
      → Both (AfterWrite program marks before left None k)
      (λ next. with_some b.events (with_temporaries b o) (λ d. next (forth d)))
      (λ next. with_some b.events (with_temporaries (over b ys) o) (λ d. next (forth d)))
  unfolding with_some
  stored_both k b ys None a h = Halt (Stuck b.events) (λ next. refl) (λ next. refl)
  stored_both k b ys (Some ts) a h = goes program marks before left (forth (with_last ts b)) ys a h

  written_both : (b : Configuration) (ys : List (List ℕ)) (to : Slot) (v : ℕ) → Adds before b.events
      → Living b.store.activations ys
      → Both (AfterWrite program marks before left (local_in to) b.frame.activation)
      (λ next. written b to v next) (λ next. written (over b ys) to v next)
  unfolding with_some
  written_both b ys (Local x) v a h =
      let k = b.frame.activation in
      let d : Configuration = forth (record b { store = set_local b.store k x v }) in
      let few : length d.store.activations ≤ left = subst (λ n. n ≤ left)
      (sym (set_long b.store.activations k x v)) h.1 in
      Move d (set_in ys k x v)
      (no_block_after program marks before left (Some x) k d (set_in ys k x v) a few
      (set_alive marks b.store.activations ys k x v h.0)) (λ next. refl) (λ next. refl)
  written_both b ys (Temporary i) v a h = stored_both b.frame.activation b ys
      (with_temporary b.frame.temporaries i v) a h

  computed_both : (c : Configuration) (ys : List (List ℕ)) (to : Slot) (r : OperationResult)
      → Adds before c.events → AllLiving c.store.activations ys
      → Both (AfterWrite program marks before left (local_given (Some r) to) c.frame.activation)
      (λ next. computed program next to c r) (λ next. computed program next to (over c ys) r)
  computed_both c ys to (Gives v memory) a h = written_both
      (record c { store = record c.store { memory = memory } }) ys to v a
      (living program marks before left c.store.activations ys h)
  computed_both c ys to (Raises code access) a h = raise_both program marks before left
      (record { code = code.0; flag = false; access = access }) SameOperation c ys a h
  computed_both c ys to (Undefined n) a h = Halt (Finished (ends.Undefined n) c.events)
      (λ next. refl) (λ next. refl)

  built_in_both : (c : Configuration) (ys : List (List ℕ)) (k : BuiltIn) (vs : List ℕ)
      → Adds before c.events → AllLiving c.store.activations ys
      → Both (After program marks before left) (λ next. built_in program next k vs c)
      (λ next. built_in program next k vs (over c ys))
  built_in_both c ys Put vs a h =
      let e = events.Put (signed W64 (get_or vs 0 0)) in
      goes program marks before left (forth (with_last (c.frame.temporaries ++ 0 ∷ [])
      (record c { events = c.events ++ e ∷ [] }))) ys (adds_one before c.events e a refl)
      (living program marks before left c.store.activations ys h)
  built_in_both c ys Protect vs a h =
      let n = get_or vs 0 0 in
      let number = signed W32 (get_or vs 1 0) in
      goes program marks before left (forth (with_last
      (c.frame.temporaries ++ of_test (is_some (rights_asked n number)) ∷ [])
      (record c { store = record c.store { memory = protected c.store.memory n number } }))) ys a
      (living program marks before left c.store.activations ys h)
  built_in_both c ys RaiseException vs a h = raise_both program marks before left
      (raised (get_or vs 0 0) (get_or vs 1 0)) AfterCall c ys a h
  built_in_both c ys Walk vs a h =
      let functions = functions_in (Waits c.frame ∷ c.below) in
      goes program marks before left (forth (with_last (c.frame.temporaries ++ 0 ∷ [])
      (record c { events = c.events ++ walk_events functions }))) ys
      (adds_all before c.events (walk_events functions) a (walk_is_no_block functions))
      (living program marks before left c.store.activations ys h)
  built_in_both c ys (AddVectored f) vs a h =
      let fs = c.store.vectored in
      goes program marks before left (forth (with_last
      (c.frame.temporaries ++ of_test (can_be_added f fs) ∷ [])
      (with_handlers (added (not (nat_eq (low W32 (get_or vs 0 0)) 0)) f fs) c))) ys a
      (living program marks before left c.store.activations ys h)
  built_in_both c ys (RemoveVectored f) vs a h =
      let fs = c.store.vectored in
      goes program marks before left (forth (with_last
      (c.frame.temporaries ++ of_test (is_listed f fs) ∷ []) (with_handlers (removed f fs) c))) ys
      a (living program marks before left c.store.activations ys h)

  both_ways : (c : Configuration) (ys : List (List ℕ)) (label v : ℕ) → Adds before c.events
      → Living c.store.activations ys
      → Both (After program marks before left) (λ next. pick (nat_eq v 0) (next (at_label label c))
      (next (forth c))) (λ next. pick (nat_eq v 0) (next (at_label label (over c ys)))
      (next (forth (over c ys))))
  both_ways c ys label v a h =
      pick_both (After program marks before left) (nat_eq v 0) (λ next. next (at_label label c))
      (λ next. next (forth c)) (λ next. next (at_label label (over c ys)))
      (λ next. next (forth (over c ys)))
      (goes program marks before left (at_label label c) ys a h)
      (goes program marks before left (forth c) ys a h)

  tested_both : (c : Configuration) (ys : List (List ℕ)) (slot : Slot) (label v : ℕ)
      → Adds before c.events → Living c.store.activations ys
      → Both (After program marks before left) (λ next. pick (nat_eq v 0)
      (next (at_label label (tested slot c))) (next (forth (tested slot c))))
      (λ next. pick (nat_eq v 0) (next (at_label label (tested slot (over c ys))))
      (next (forth (tested slot (over c ys)))))
  tested_both c ys (Local x) label v a h = both_ways c ys label v a h
  tested_both c ys (Temporary i) label v a h = both_ways (with_last (take i c.frame.temporaries) c)
      ys label v a h

-- ---- calls

module _ (program : LinearProgram) (marks : Marks) (c : Configuration) (ys : List (List ℕ))
    (h : AreActivationsAlike marks c.store.activations ys) where
  -- where an instruction leads to
  abbrev pub Led : Instruction → Configuration → List (List ℕ) → Type 0
  Led i d zs = AreActivationsAlike (next_marks program i c d marks) d.store.activations zs

  abbrev zeros : LinearFunction → List ℕ
  zeros function = replicate (function.body.locals - function.parameters) 0

  pub called_alike : (f first count : ℕ) (function : LinearFunction) (arguments values : List ℕ)
      (below : List Item)
      → last_temporaries c.frame.temporaries first count ≡ Some arguments
      → slice_get program.functions f ≡ Some function
      → length values ≡ function.body.locals - function.parameters
      → Led (instructions.Call f first count)
      (begin_function f function arguments c.frame.held below c.store c.events)
      (ys ++ (arguments ++ values) ∷ [])
  called_alike f first count function arguments values below e g n =
      let xs = c.store.activations in
      let zs = zeros function in
      let xs' = xs ++ (arguments ++ zs) ∷ [] in
      let ys' = ys ++ (arguments ++ values) ∷ [] in
      let d : Configuration = begin_function f function arguments c.frame.held below c.store
      c.events in
      let i = instructions.Call f first count in
      let long = length-replicate (function.body.locals - function.parameters) 0 in
      subst (λ b. AreActivationsAlike (with_mark (flag_set program b (FunctionBody f)) (length xs)
      (marks_left program i c d marks)) xs' ys')
      (sym (no_block_events c.events c.events (adds_none c.events)))
      (subst (λ (o : Option LinearFunction). AreActivationsAlike
      (begun_marks (nat_lt (length xs) (length xs')) o count (length xs) (length xs') marks) xs'
      ys') (sym g)
      (begun_after function (length xs) marks xs ys arguments zs values count
      (last_count c.frame.temporaries first count arguments e) long n
      (whole_alive marks xs ys h) refl))

  call_both : (f first count : ℕ) (function : LinearFunction) (arguments : List ℕ)
      → last_temporaries c.frame.temporaries first count ≡ Some arguments
      → slice_get program.functions f ≡ Some function
      → Both (Led (instructions.Call f first count))
      (λ next. next (begin_function f function arguments c.frame.held
      (Waits (waiting c first).frame ∷ c.below) c.store c.events))
      (λ next. next (begin_function f function arguments c.frame.held
      (Waits (waiting c first).frame ∷ c.below) (over_store c.store ys) c.events))
  call_both f first count function arguments e g =
      let below : List Item = Waits (waiting c first).frame ∷ c.below in
      let zs = zeros function in
      let acts = ys ++ (arguments ++ zs) ∷ [] in
      Move (begin_function f function arguments c.frame.held below c.store c.events) acts
      (called_alike f first count function arguments zs below e g
      (length-replicate (function.body.locals - function.parameters) 0)) (λ next. refl)
      (λ next. ap (λ n. next (begun_in n f
      (c.frame.held + (function.surplus + function.data_surplus)) below (over_store c.store acts)
      c.events))
      (as_long marks c.store.activations ys h))

  -- ---- reads

  read_same : (slot : Slot) → IsSet marks c.frame.activation slot
      → read (over c ys) slot ≡ read c slot
  read_same (Local x) s = ap (λ v. Some v) (same_read marks c.store.activations ys
      c.frame.activation x h s)
  read_same (Temporary i) s = refl

  first_same : (b : Bool) (first second : Slot)
      → AreOperandsSet b marks c.frame.activation first second
      → operand b (over c ys) first ≡ operand b c first
  first_same true first second s = refl
  first_same false first second s = read_same first s.0

  second_same : (b : Bool) (first second : Slot)
      → AreOperandsSet b marks c.frame.activation first second
      → operand b (over c ys) second ≡ operand b c second
  second_same true first second s = refl
  second_same false first second s = read_same second s.1

  -- ---- an instruction

  -- what an instruction leaves that ends no body
  abbrev live : ℕ
  live = length c.store.activations

  alive : Alive marks c.store.activations ys
  alive = whole_alive marks c.store.activations ys h

  all : All program marks c.events live c.store.activations ys
  all = (alive, refl)

  lives : Lives program marks c.events live c.store.activations ys
  lives = living program marks c.events live c.store.activations ys all

  adds : Adds c.events c.events
  adds = adds_none c.events

  compute_both : (to : Slot) (o : Operation) (first second : Slot)
      → AreOperandsSet (is_constant o) marks c.frame.activation first second
      → Both (Led (instructions.Compute to o first second))
      (λ next. act program (instructions.Compute to o first second) next c)
      (λ next. act program (instructions.Compute to o first second) next (over c ys))
  compute_both to o first second s =
      let R = Led (instructions.Compute to o first second) in
      let memory = c.store.memory in
      let x = operand (is_constant o) c first in
      let y = operand (is_constant o) c second in
      let done : Configuration → Next → ℕ → ℕ
      → Seen = λ d next a b. computed program next to d
      (performed (is_reserved program.globals) o a b memory) in
      some_both R c.events x (operand (is_constant o) (over c ys) first)
      (λ next a. with_some c.events y (done c next a))
      (λ next a. with_some c.events (operand (is_constant o) (over c ys) second)
      (done (over c ys) next a))
      (first_same (is_constant o) first second s) (λ a e.
      some_both R c.events y (operand (is_constant o) (over c ys) second) (λ next. done c next a)
      (λ next. done (over c ys) next a) (second_same (is_constant o) first second s) (λ b g.
      let r : outcome_of program o x y memory
      ≡ Some (performed (is_reserved program.globals) o a b memory) =
      ap (λ z. outcome_of program o z y memory) e
      ∙ ap (λ z. outcome_of program o (Some a) z memory) g in
      subst (λ z. Both
      (AfterWrite program marks c.events live (local_given z to) c.frame.activation)
      (λ next. done c next a b) (λ next. done (over c ys) next a b)) (sym r)
      (computed_both program marks c.events live c ys to
      (performed (is_reserved program.globals) o a b memory) adds all)))

  pub act_both : (i : Instruction) → ReadsSet marks c i
      → Both (Led i) (λ next. act program i next c) (λ next. act program i next (over c ys))
  act_both (instructions.Compute to o first second) s = compute_both to o first second s
  act_both (instructions.Information to field) s = written_both program marks c.events live c ys to
      (field_of field c.frame.exception) adds lives
  act_both (instructions.Jump label) s =
      goes program marks c.events live (at_label label c) ys adds lives
  act_both (instructions.JumpIfZero slot label) s =
      some_both (After program marks c.events live) c.events (read c slot) (read (over c ys) slot)
      (λ next v. pick (nat_eq v 0) (next (at_label label (tested slot c)))
      (next (forth (tested slot c))))
      (λ next v. pick (nat_eq v 0) (next (at_label label (tested slot (over c ys))))
      (next (forth (tested slot (over c ys))))) (read_same slot s) (λ v e.
      tested_both program marks c.events live c ys slot label v adds lives)
  act_both (instructions.Call f first count) s =
      let R = Led (instructions.Call f first count) in
      let begin : LinearFunction → List ℕ → Store
      → Configuration = λ function vs store. begin_function f function vs c.frame.held
      (Waits (waiting c first).frame ∷ c.below) store c.events in
      let vs = last_temporaries c.frame.temporaries first count in
      let called : Store → Next → List ℕ → LinearFunction
      → Seen = λ store next vs function. deeper (depth_weight function) c.frame.held store c.events
      (next (begin function vs store)) in
      let found : Store → Next → List ℕ → Seen = λ store next vs. with_some c.events
      (slice_get program.functions f) (called store next vs) in
      some_both R c.events vs vs (found c.store) (found (over_store c.store ys)) refl
      (λ arguments e.
      some_both R c.events (slice_get program.functions f) (slice_get program.functions f)
      (λ next. called c.store next arguments)
      (λ next. called (over_store c.store ys) next arguments) refl (λ function g.
      deeper_both R (depth_weight function) c.frame.held c.store ys c.events
      (λ next. next (begin function arguments c.store))
      (λ next. next (begin function arguments (over_store c.store ys)))
      (as_long marks c.store.activations ys h)
      (call_both f first count function arguments e g)))
  act_both (instructions.CallBuiltIn k first) s =
      let vs = last_temporaries c.frame.temporaries first (count_of k) in
      some_both (After program marks c.events live) c.events vs vs
      (λ next vs. built_in program next k vs (waiting c first))
      (λ next vs. built_in program next k vs (waiting (over c ys) first)) refl (λ vs e.
      built_in_both program marks c.events live (waiting c first) ys k vs adds all)
  act_both (instructions.CallFinally k) s = block_both program marks c.events live k c.frame.held
      false (Waits c.frame ∷ c.below) c ys adds lives
  act_both (instructions.LocalUnwind label) s =
      unwind_both program marks c.events live (record
      { depth = length c.below; label = label; code = None; held = c.frame.held })
      (Waits c.frame ∷ c.below) None c.events c.store ys adds lives
  act_both (instructions.Landing to) s =
      some_both (AfterWrite program marks c.events live (local_in to) c.frame.activation) c.events
      c.frame.landed c.frame.landed
      (λ next code. written (not_landed c) to code next)
      (λ next code. written (not_landed (over c ys)) to code next) refl (λ code e.
      written_both program marks c.events live (not_landed c) ys to code adds lives)
  act_both instructions.Separator s =
      goes program marks c.events live (forth (with_last [] c)) ys adds lives
  act_both (instructions.Return from) s =
      let left = length (left_store c.frame.body c.frame.activation c.store).activations in
      some_both (After program marks c.events left) c.events (read c from) (read (over c ys) from)
      (λ next v. end_body program next c.frame.body v c)
      (λ next v. end_body program next c.frame.body v (over c ys)) (read_same from s) (λ v e.
      end_both program marks c.events left c.frame.body v c ys adds alive refl refl)
