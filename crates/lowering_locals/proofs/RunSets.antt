-- Along each run with its marks, what the places of the bodies that run or wait tell has been set.
use Rattle.std.proofs.Common.{◌≡◌, ℕ, zero, suc, ◌-◌, ◌<◌, ◌≤◌, List, [], ◌∷◌, ◌++◌, length, refl, sym, ap, subst, ◌∙◌, arith}
use Rattle.std.proofs.lemmas.Bool.{lt-ltb}
use Rattle.std.proofs.lemmas.List.{length-replicate, length-take-le}
use Rattle.std.specs.Prelude.{Bool, true, false, nat_lt, take, slice_get, replicate, drop, ℤ, Option, Some, None}
use Rattle.lowering_locals.specs.Words.{Slot, Local, Temporary, Instruction, LinearProgram, LinearFunction, BodyName, FunctionBody, FuncletBody, Frame, Waits, Configuration, is_constant, instruction_at, start, main_arguments, owner_of, IsWhole, owners_of, AreActivations, HasActivations, with_own, WorksOn, Marks, marks_of, first_marks, begins_block, flag_set, local_written, with_mark, activations_left, arguments_passed, function_of_body, begun_marks, marks_left, next_marks, AreActivationsAlike, AreAlike, IsSet, AreOperandsSet, ReadsSet, ComesMarked, start_marks, IsMarked, ReadsNoUnset, SeenNames, function_locals, owner_locals, locals_at, ReadsIn, OperandsIn, Leads, IsSetMap, Marked, IsRecorded, IsGiven, Before, Written, Flag, Passed, IsStep, started_with}
use Rattle.linear_code.specs.declared.instruction.Instruction.TheVariants as instructions
use Rattle.lowering_locals.proofs.Lemmas.{same_it, is_parameter}
use Rattle.lowering_invariants.proofs.Stacks.TurnActivations.{reached_both}
use Rattle.lowering_locals.proofs.Alike.{steps_are_alike, starts_are_alike, marked_is_reached, marked_continues}
use Rattle.lowering_locals.specs.SetLaws.{SetMapReadsNoUnset}
use Rattle.lowering_locals.proofs.MarkKeeping.{with_keeps, written_marked, with_long, taken_marks, more_keeps, last_marks, first_set, marks_long, own_long, alike_itself}
use Rattle.lowering_locals.proofs.TurnSets as goes
use Rattle.lowering_locals.proofs.Acts.{step_of}
use Rattle.lowering_locals.proofs.Covered.{taken_has, bound, own_grows, covered_next}
use Rattle.lowering_locals.proofs.Unwinding.{left_fewer}

get_last : {X : Type 0} (xs : List X) (x : X) → slice_get (xs ++ x ∷ []) (length xs) ≡ Some x
get_last [] x = refl
get_last (y ∷ xs) x = get_last xs x

module _ (program : LinearProgram) where
  -- ---- activations

  as_many : (ks : List ℕ) (acts : List (List ℕ)) → AreActivations program ks acts
      → length acts ≡ length ks
  as_many [] [] h = refl
  as_many [] (a ∷ acts) h = absurd h
  as_many (k ∷ ks) [] h = absurd h
  as_many (k ∷ ks) (a ∷ acts) h = ap suc (as_many ks acts h.1)

  record HasLocals (acts : List (List ℕ)) (i k : ℕ) : Type 0 where
    locals : List ℕ
    there : slice_get acts i ≡ Some locals
    count : length locals ≡ function_locals (slice_get program.functions k)

  locals_there : (ks : List ℕ) (acts : List (List ℕ)) (i k : ℕ) → AreActivations program ks acts
      → slice_get ks i ≡ Some k → HasLocals acts i k
  locals_there [] [] i k h e = absurd (cc)
  locals_there [] (a ∷ acts) i k h e = absurd h
  locals_there (j ∷ ks) [] i k h e = absurd h
  locals_there (j ∷ ks) (a ∷ acts) zero k h e =
      record {
        locals = a;
        there = refl;
        count = h.0.count ∙ sym (ap function_locals h.0.there)
            ∙ ap (λ n. function_locals (slice_get program.functions n)) (same_it j k e);
      }
  locals_there (j ∷ ks) (a ∷ acts) (suc i) k h e = let r = locals_there ks acts i k h.1 e in
      record { locals = r.locals; there = r.there; count = r.count }

  own_function : (name : BodyName) (f : Frame) (owners : List ℕ) → WorksOn program f name owners
      → (k : ℕ) × (owner_of program name ≡ Some k)
      × (slice_get (with_own name owners) f.activation ≡ Some k)
  own_function (FunctionBody k) f owners w = (
    k,
    refl,
    ap (slice_get (owners ++ k ∷ [])) w
        ∙ get_last owners k,
  )
  own_function (FuncletBody k) f owners w = w

  -- as many marks as the body that runs has locals
  as_long : (marks : Marks) (d : Configuration) → HasActivations program d
      → AreActivationsAlike marks d.store.activations d.store.activations
      → length (marks_of marks d.frame.activation) ≡ locals_at program d.frame.body
  as_long marks d h m =
      let acts = d.store.activations in
      let o = own_function d.frame.body d.frame (owners_of d.below) h.working.0 in
      let l = locals_there (owners_of (Waits d.frame ∷ d.below)) acts d.frame.activation o.0
      h.stored o.2 in
      own_long marks acts acts d.frame.activation l.locals m l.there ∙ l.count
      ∙ sym (ap (owner_locals program) o.1)

  -- ---- marks after a step

  fewer_left : (i : Instruction) (c : Configuration)
      → activations_left i c ≤ length c.store.activations
  fewer_left (instructions.Return from) c = left_fewer c.frame.body c.frame.activation c.store
  fewer_left i c = omega arith

  left_keeps : (i : Instruction) (c d : Configuration) (marks : Marks) (k x : ℕ)
      → k < length d.store.activations → Marked (take (activations_left i c) marks) k x
      → Marked (marks_left program i c d marks) k x
  left_keeps i c d marks k x lt e = of (nat_lt left live) (function_of_body program d.frame.body)
    where
      left : ℕ
      left = activations_left i c

      live : ℕ
      live = length d.store.activations

      lasting : Marked (take live marks) k x
      lasting = ap (λ (ms : List Bool). slice_get ms x) (taken_marks live marks k lt)
          ∙ taken_has left marks k x e

      of : (b : Bool) (o : Option LinearFunction)
          → Marked (begun_marks b o (arguments_passed i) left live marks) k x
      of true (Some function) = more_keeps (take left marks)
          (first_marks (arguments_passed i) function ∷ []) k x e
      of true None = lasting
      of false o = lasting

  -- the flag that a step sets, and the marks before it does
  abbrev flag_by : Configuration → Configuration → Option ℕ
  flag_by c d = flag_set program (begins_block (drop (length c.events) d.events)) d.frame.body

  abbrev before_flag : Instruction → Configuration → Configuration → Marks → Marks
  before_flag i c d marks = with_mark (local_written program i c) c.frame.activation
      (marks_left program i c d marks)

  next_keeps : (i : Instruction) (c d : Configuration) (marks : Marks) (k x : ℕ)
      → k < length d.store.activations → Marked (take (activations_left i c) marks) k x
      → Marked (next_marks program i c d marks) k x
  next_keeps i c d marks k x lt e = with_keeps (flag_by c d) (before_flag i c d marks)
      d.frame.activation k x (with_keeps (local_written program i c)
      (marks_left program i c d marks) c.frame.activation k x (left_keeps i c d marks k x lt e))

  module _ (sets : BodyName → ℕ → SeenNames) where
    given_marked : (marks : Marks) (i : Instruction) (c d : Configuration) (x : ℕ)
        → d.frame.activation < length d.store.activations
        → length (marks_of (next_marks program i c d marks) d.frame.activation)
        ≡ locals_at program d.frame.body
        → length marks ≡ length c.store.activations
        → IsGiven program sets (take (activations_left i c) marks) i c d x
        → Marked (next_marks program i c d marks) d.frame.activation x
    given_marked marks i c d x lt long same (Before e) = next_keeps i c d marks d.frame.activation x
        lt e
    given_marked marks i c d x lt long same (Written a e room) =
        let k = d.frame.activation in
        let writes = local_written program i c in
        let left = marks_left program i c d marks in
        let p = with_long (flag_by c d) (before_flag i c d marks) k k in
        let q = with_long writes left c.frame.activation k in
        with_keeps (flag_by c d) (before_flag i c d marks) k k x
        (subst (λ n. Marked (with_mark writes n left) k x) a
        (written_marked writes left k x e (omega arith)))
    given_marked marks i c d x lt long same (Flag e room) =
        let k = d.frame.activation in
        let p = with_long (flag_by c d) (before_flag i c d marks) k k in
        written_marked (flag_by c d) (before_flag i c d marks) k x e (omega arith)
    given_marked marks i c d x lt long same (Passed f function b g a room) =
        let k = d.frame.activation in
        let left = activations_left i c in
        let live = length d.store.activations in
        let count = arguments_passed i in
        let few = fewer_left i c in
        let old : length (take left marks) ≡ left = length-take-le left marks (omega arith) in
        let place : k ≡ length (take left marks) = a ∙ sym old in
        let own = first_marks count function in
        let begun : marks_of (take left marks ++ own ∷ []) k ≡ own =
        ap (marks_of (take left marks ++ own ∷ [])) place ∙ last_marks (take left marks) own in
        let set : Marked (take left marks ++ own ∷ []) k x = ap
        (λ (ms : List Bool). slice_get ms x) begun
        ∙ first_set count (replicate (function.body.locals - function.parameters) false) x room in
        let more : nat_lt left live ≡ true = lt-ltb left live (omega arith) in
        let found : function_of_body program d.frame.body ≡ Some function =
        ap (function_of_body program) b ∙ g in
        let called : Marked (marks_left program i c d marks) k x =
        subst (λ t. Marked (begun_marks t (function_of_body program d.frame.body) count left live
        marks) k x) (sym more)
        (subst (λ o. Marked (begun_marks true o count left live marks) k x) (sym found) set) in
        with_keeps (flag_by c d) (before_flag i c d marks) k k x
        (with_keeps (local_written program i c) (marks_left program i c d marks) c.frame.activation
        k x called)

    next_recorded : (marks : Marks) (i : Instruction) (c d : Configuration)
        → HasActivations program d → AreActivationsAlike marks c.store.activations
        c.store.activations
        → AreActivationsAlike (next_marks program i c d marks) d.store.activations
        d.store.activations
        → IsStep program sets (take (activations_left i c) marks) i c d
        → IsRecorded program sets (next_marks program i c d marks) d
    next_recorded marks i c d h m n s =
        let all = owners_of (Waits d.frame ∷ d.below) in
        let count = as_many all d.store.activations h.stored in
        let b = bound program d.frame.body d.frame (owners_of d.below) h.working.0 in
        let g = own_grows program d.frame.body (owners_of d.below) in
        let l = as_long (next_marks program i c d marks) d h n in
        let same = marks_long marks c.store.activations c.store.activations m in
        record {
          marked = n;
          running = λ x q. given_marked marks i c d x (omega arith) l same (s.running x q);
          waiting = covered_next program sets (take (activations_left i c) marks)
              (next_marks program i c d marks) d.below
              (length d.store.activations) h.working.1 (omega arith)
              (λ k x lt e. next_keeps i c d marks k x lt e) s.waiting;
          kept = s.kept;
        }

module _ (program : LinearProgram) (whole : IsWhole program) (sets : BodyName → ℕ → SeenNames)
    (recorded : IsSetMap program sets) where
  -- ---- what is read

  slot_set : (marks : Marks) (k : ℕ) (seen : SeenNames) (slot : Slot)
      → ((x : ℕ) → seen x ≡ true → Marked marks k x) → ReadsIn seen slot → IsSet marks k slot
  slot_set marks k seen (Local x) w r = w x r
  slot_set marks k seen (Temporary i) w r = tt

  reads_set : (marks : Marks) (c : Configuration) (i : Instruction)
      → IsRecorded program sets marks c → instruction_at program c ≡ Some i → ReadsSet marks c i
  reads_set marks c i w at = of i (goes.leads program sets recorded marks i c c.frame i at)
    where
      seen : SeenNames
      seen = sets c.frame.body c.frame.next

      both : (b : Bool) (first second : Slot) → OperandsIn b seen first second
          → AreOperandsSet b marks c.frame.activation first second
      both true first second h = tt
      both false first second h = (
        slot_set marks c.frame.activation seen first w.running h.0,
        slot_set marks c.frame.activation seen second w.running h.1,
      )

      of : (i : Instruction) → Leads program sets c.frame.body c.frame.next i → ReadsSet marks c i
      of (instructions.Compute to o first second) h = both (is_constant o) first second h.0
      of (instructions.Information to field) h = tt
      of (instructions.Jump to) h = tt
      of (instructions.JumpIfZero slot to) h = slot_set marks c.frame.activation seen slot w.running
          h.0
      of (instructions.Call f first count) h = tt
      of (instructions.CallBuiltIn f first) h = tt
      of (instructions.CallFinally k) h = tt
      of (instructions.LocalUnwind to) h = tt
      of (instructions.Landing to) h = tt
      of instructions.Separator h = tt
      of (instructions.Return from) h = slot_set marks c.frame.activation seen from w.running h

  -- ---- runs

  along : (n : ℕ) (c : Configuration) (marks : Marks) (d : Configuration) (ends : Marks)
      → IsMarked program c marks → IsRecorded program sets marks c
      → ComesMarked program n c marks d ends → IsRecorded program sets ends d
  along zero c marks d ends m w h = subst (λ ms. IsRecorded program sets ms d) h.1
      (subst (IsRecorded program sets marks) h.0 w)
  along (suc n) c marks d ends m w h =
      let e = h.0 in
      let turn = h.1 in
      let next = next_marks program turn.instruction c e marks in
      let m' = marked_continues program c e marks m turn in
      let before = reached_both program whole c (marked_is_reached program c marks m) in
      let after = reached_both program whole e (marked_is_reached program e next m') in
      let itself : AreAlike marks c c = record {
        frame = refl;
        below = refl;
        memory = refl;
        handlers = refl;
        events = refl;
        activations = w.marked;
      } in
      let both = steps_are_alike program turn.instruction marks c c itself
      (reads_set marks c turn.instruction w turn.at) in
      let other = both.forth e turn.goes in
      let alike = alike_itself next e.store.activations other.0.store.activations
      other.1.alike.activations in
      along n e next d ends m' (next_recorded program sets marks turn.instruction c e after.1
      w.marked alike (step_of program whole sets recorded marks c e before.0 before.1 w
      turn)) h.2

  begun_with : (arg : ℤ) (n : ℕ) → n ≤ 1 → length (main_arguments n arg) ≡ n
  begun_with arg zero h = refl
  begun_with arg (suc zero) h = refl
  begun_with arg (suc (suc n)) h = absurd (omega arith)

  starts : (arg : ℤ) (main : LinearFunction) → slice_get program.functions program.main ≡ Some main
      → IsRecorded program sets (start_marks program arg main) (start program arg main)
  starts arg main e =
      let rest = main.body.locals - main.parameters in
      let a = starts_are_alike program arg main (replicate rest 0) (length-replicate rest 0) in
      let first = start program arg main in
      let n = begun_with arg main.parameters (whole.few main e) in
      record {
        marked = alike_itself (start_marks program arg main) first.store.activations
            (started_with program arg main (replicate rest 0)).store.activations a.activations;
        running = λ x q. let lt = is_parameter main.parameters x
            (recorded.begins program.main main e x q) in
            first_set (length (main_arguments main.parameters arg)) (replicate rest false) x
            (omega arith);
        waiting = tt;
        kept = tt;
      }

  pub reads_no_unset : ReadsNoUnset program
  reads_no_unset c marks i m at =
      let first : IsMarked program (start program m.argument m.main)
      (start_marks program m.argument m.main) =
      record {
        argument = m.argument;
        main = m.main;
        is_main = m.is_main;
        turns = zero;
        comes = (refl, refl);
      } in
      reads_set marks c i (along m.turns (start program m.argument m.main)
      (start_marks program m.argument m.main) c marks first (starts m.argument m.main m.is_main)
      m.comes) at

pub set_map_reads_no_unset : SetMapReadsNoUnset
set_map_reads_no_unset program whole sets recorded = reads_no_unset program whole sets recorded
