-- What is right by what is known is right in each state that fits.
use Rattle.std.proofs.Common.{◌≡◌, ℕ, ◌+◌, ◌-◌, ◌*◌, ◌%◌, ◌^◌, ◌<◌, Bool, true, false, List, [], ◌∷◌, Option, Some, None, Ok, refl, sym, ap, subst, ◌∙◌, arith, inl, inr}
use Rattle.std.proofs.lemmas.Bool.{cases_eq}
use Rattle.frame_rules.specs.Words.{left_to, Memory, may_read, State, Context, context_of, registers, return_address, IsWord, is_nonvolatile, get, set, rsp, with_rsp, rsp_raised, popped, Info, UnwindOperation, Push, Allocate, SetFrame, Save, SaveVector, MachineFrame, operations, Undo, going, returned, returned_or}
use Rattle.virtual_unwind.specs.CallerOf as callers
use Rattle.virtual_unwind.specs.Undone as undoing
use Rattle.virtual_unwind.specs.Undone.{Answer}
use Rattle.seh_num.specs.Answers.{◌>>=◌}
use Rattle.virtual_unwind.proofs.Registers.{get-context}
use Rattle.frame_rules.proofs.Undoing.{popped_is}
use Rattle.frame_rules.proofs.Words.{all_may}
use Rattle.eh_tables.specs.declared.range.RuntimeFunction.{RuntimeFunction}
use Rattle.eh_tables.specs.Tables.{Entry as TableEntry}
use Rattle.abi_unwind.specs.declared.context.AbiContext.{AbiContext}
use Rattle.abi_unwind.specs.declared.tail.Part.{Part}
use Rattle.abi_unwind.specs.declared.tail.Part.TheVariants.{Raise, FromFrame, Restore}
use Rattle.abi_unwind.specs.Contexts.{with_vector}
use Rattle.abi_unwind.specs.Undone as wide
use Rattle.abi_unwind.specs.Undone.{AbiUndo, returned_abi, popped_abi}
use Rattle.abi_unwind.specs.Caller as abi
use Rattle.abi_unwind.specs.Caller.{AbiFrame, codes_at, is_framed, parent_or, establisher, found, asked_at, root_of, at_start, of_entry, tail_of, abi_at, abi_caller}
use Rattle.frame_known.specs.Knowledge.{Reach, IsEntered, Known, Entry, Place, Knowledge, Is, Fits, with_known}
use Rattle.frame_known.specs.Known.{raised, read, kept, Run, below_frame, base_if, risen, undone_one, undone, chain_undone, ran_one, ran, IsRight, EndsRight, ◌>>=◌ as ◌then◌}
use Rattle.virtual_unwind.specs.CallerOf.{distance}
use Rattle.frame_known.specs.Laws.{seen, IsCaller, KnownRight, CallersFound, LeavesFound}
use Rattle.frame_known.proofs.Fitting.{Agrees, kept_is, set_agrees, rsp_agrees, is_raised, is_same, HasStack, has_stack, read_is, some_same, reach_readable}

-- ---- one after another

record Bound {A B : Type 0} (o : Option A) (f : A → Option B) (y : B) : Type 0 where
  value : A
  is : o ≡ Some value
  next : f value ≡ Some y

bound : {A B : Type 0} (o : Option A) (f : A → Option B) (y : B) → (o then f) ≡ Some y → Bound o f y
bound (Some x) f y e = record { value = x; is = refl; next = e }
bound None f y e = absurd cc

-- ---- an answer that agrees with what is known

record Undid (e : State) (a : Answer Undo) (now : ℕ → Known) : Type 0 where
  after : Undo
  is : a ≡ Ok after
  going : after.is_returned ≡ false
  agrees : Agrees e after.context now

record Left (e : State) (a : Answer Context) (now : ℕ → Known) : Type 0 where
  after : Context
  is : a ≡ Ok after
  agrees : Agrees e after now

base_is : (e : State) (i : Info) (c : Context) (now : ℕ → Known) (b : Bool) → Agrees e c now
    → Is e (callers.base_if i c b) (base_if i now b)
base_is e i c now true h = is_raised e (get c i.frame_register) (2 ^ 64 - i.frame_offset)
    (kept now i.frame_register) (kept_is e c now i.frame_register h)
base_is e i c now false h = h.is 4 refl

risen_agrees : (e : State) (c : Context) (now : ℕ → Known) (n : ℕ) → Agrees e c now
    → Agrees e (rsp_raised c n) (risen n now)
risen_agrees e c now n h = rsp_agrees e c now ((rsp c + n) % 2 ^ 64) (raised n (now 4)) h
    (is_raised e (rsp c) n (now 4) (h.is 4 refl))

to_mid : (e : State) (c : Context) (x y : ℕ → Known) → ◌≡◌ {A = Run} (Some x) (Some y)
    → Agrees e c x → Agrees e c y
to_mid e c x y same h = subst (λ (n : ℕ → Known). Agrees e c n) (some_same same) h

-- ---- codes

undid_one : (reach : Reach) (e : State) (m : Memory) (words : ℕ → Option ℕ) (base : ℕ) (at : Known)
    (i : Info) (u : Undo) (now to : ℕ → Known) (x : UnwindOperation) → HasStack reach e m words
    → Is e base at → u.is_returned ≡ false → Agrees e u.context now
    → undone_one reach words at i now x ≡ Some to → Undid e (undoing.undone_one m base i u x) to
undid_one reach e m words base at i u now to (Push r) s b g h run =
    let c = u.context in
    let o = bound (read reach words (now 4)) (λ x. Some (risen 8 (with_known now r x))) to run in
    let w = read_is reach e m words (rsp c) (now 4) o.value s (h.is 4 refl) o.is in
    let after = rsp_raised (set c r w.value) 8 in
    record {
      after = record { context = after; is_returned = u.is_returned };
      is = ap (λ (a : Answer ℕ). a >>= λ v. going u (rsp_raised (set c r v) 8)) w.is;
      going = g;
      agrees = to_mid e after (risen 8 (with_known now r o.value)) to o.next
          (risen_agrees e (set c r w.value) (with_known now r o.value) 8
          (set_agrees e c now r w.value o.value h w.known));
    }
undid_one reach e m words base at i u now to (Allocate n) s b g h run =
    let after = rsp_raised u.context n in
    record {
      after = record { context = after; is_returned = u.is_returned };
      is = refl;
      going = g;
      agrees = to_mid e after (risen n now) to run (risen_agrees e u.context now n h);
    }
undid_one reach e m words base at i u now to SetFrame s b g h run =
    let v = undoing.below_frame i u.context in
    let after = with_rsp u.context v in
    record {
      after = record { context = after; is_returned = u.is_returned };
      is = refl;
      going = g;
      agrees = to_mid e after (with_known now 4 (below_frame i now)) to run
          (rsp_agrees e u.context now v (below_frame i now) h
          (base_is e i u.context now true h));
    }
undid_one reach e m words base at i u now to (Save r n) s b g h run =
    let c = u.context in
    let o = bound (read reach words (raised n at)) (λ x. Some (with_known now r x)) to run in
    let w = read_is reach e m words ((base + n) % 2 ^ 64) (raised n at) o.value s
    (is_raised e base n at b) o.is in
    let after = set c r w.value in
    record {
      after = record { context = after; is_returned = u.is_returned };
      is = ap (λ (a : Answer ℕ). a >>= λ v. going u (set c r v)) w.is;
      going = g;
      agrees = to_mid e after (with_known now r o.value) to o.next
          (set_agrees e c now r w.value o.value h w.known);
    }
undid_one reach e m words base at i u now to (SaveVector r n) s b g h run =
    let o = bound (read reach words (raised n at))
    (λ x. read reach words (raised 8 (raised n at)) then λ y. Some now) to run in
    let p = bound (read reach words (raised 8 (raised n at))) (λ y. Some now) to o.next in
    record {
      after = u;
      is = refl;
      going = g;
      agrees = to_mid e u.context now to p.next h;
    }
undid_one reach e m words base at i u now to (MachineFrame x) s b g h run = absurd cc

-- ---- with vector registers

record Unwound (e : State) (a : Answer AbiUndo) (now : ℕ → Known) : Type 0 where
  after : AbiUndo
  is : a ≡ Ok after
  going : after.general.is_returned ≡ false
  agrees : Agrees e after.general.context now

by_general : (reach : Reach) (e : State) (m : Memory) (words : ℕ → Option ℕ) (base : ℕ)
    (at : Known) (i : Info) (u : AbiUndo) (now to : ℕ → Known) (x : UnwindOperation)
    → Undid e (undoing.undone_one m base i u.general x) to
    → Unwound e (undoing.undone_one m base i u.general x >>= λ g. Ok (record u { general = g })) to
by_general reach e m words base at i u now to x d = record {
  after = record u { general = d.after };
  is = ap (λ (a : Answer Undo). a >>= λ g. Ok (record u { general = g })) d.is;
  going = d.going;
  agrees = d.agrees;
}

unwound_one : (reach : Reach) (e : State) (m : Memory) (words : ℕ → Option ℕ) (base : ℕ)
    (at : Known) (i : Info) (u : AbiUndo) (now to : ℕ → Known) (x : UnwindOperation)
    → HasStack reach e m words → Is e base at → u.general.is_returned ≡ false
    → Agrees e u.general.context now → undone_one reach words at i now x ≡ Some to
    → Unwound e (wide.undone_one m base i u x) to
unwound_one reach e m words base at i u now to (SaveVector r n) s b g h run =
    let o = bound (read reach words (raised n at))
    (λ x. read reach words (raised 8 (raised n at)) then λ y. Some now) to run in
    let p = bound (read reach words (raised 8 (raised n at))) (λ y. Some now) to o.next in
    let a = (base + n) % 2 ^ 64 in
    let there = is_raised e base n at b in
    let low = read_is reach e m words a (raised n at) o.value s there o.is in
    let high = read_is reach e m words ((a + 8) % 2 ^ 64) (raised 8 (raised n at)) p.value s
    (is_raised e a 8 (raised n at) there) p.is in
    let w = low.value + 2 ^ 64 * high.value in
    record {
      after = record u { vectors = with_vector u.vectors r w };
      is = ap (λ (x : Answer ℕ). (x >>= λ l. undoing.word m ((a + 8) % 2 ^ 64)
          >>= λ g. Ok (l + 2 ^ 64 * g)) >>= λ v. Ok (record u {
            vectors = with_vector u.vectors r v;
          })) low.is
          ∙ ap (λ (x : Answer ℕ). (x >>= λ g. Ok (low.value + 2 ^ 64 * g)) >>= λ v. Ok (record u {
            vectors = with_vector u.vectors r v;
          })) high.is;
      going = g;
      agrees = to_mid e u.general.context now to p.next h;
    }
unwound_one reach e m words base at i u now to (Push r) s b g h run =
    by_general reach e m words base at i u now to (Push r)
    (undid_one reach e m words base at i u.general now to (Push r) s b g h run)
unwound_one reach e m words base at i u now to (Allocate n) s b g h run =
    by_general reach e m words base at i u now to (Allocate n)
    (undid_one reach e m words base at i u.general now to (Allocate n) s b g h run)
unwound_one reach e m words base at i u now to SetFrame s b g h run =
    by_general reach e m words base at i u now to SetFrame
    (undid_one reach e m words base at i u.general now to SetFrame s b g h run)
unwound_one reach e m words base at i u now to (Save r n) s b g h run =
    by_general reach e m words base at i u now to (Save r n)
    (undid_one reach e m words base at i u.general now to (Save r n) s b g h run)
unwound_one reach e m words base at i u now to (MachineFrame x) s b g h run = absurd cc

unwound_all : (reach : Reach) (e : State) (m : Memory) (words : ℕ → Option ℕ) (base : ℕ)
    (at : Known) (i : Info) (xs : List UnwindOperation) (u : AbiUndo) (now to : ℕ → Known)
    → HasStack reach e m words → Is e base at → u.general.is_returned ≡ false
    → Agrees e u.general.context now → undone reach words at i xs now ≡ Some to
    → Unwound e (wide.undone m base i xs u) to
unwound_all reach e m words base at i [] u now to s b g h run = record {
  after = u;
  is = refl;
  going = g;
  agrees = to_mid e u.general.context now to run h;
}
unwound_all reach e m words base at i (x ∷ xs) u now to s b g h run =
    let o = bound (undone_one reach words at i now x) (undone reach words at i xs) to run in
    let first = unwound_one reach e m words base at i u now o.value x s b g h o.is in
    let more = unwound_all reach e m words base at i xs first.after o.value to s b first.going
    first.agrees o.next in
    record {
      after = more.after;
      is = ap (λ (a : Answer AbiUndo). a >>= wide.undone m base i xs) first.is ∙ more.is;
      going = more.going;
      agrees = more.agrees;
    }

unwound_chain : (reach : Reach) (e : State) (m : Memory) (words : ℕ → Option ℕ) (base : ℕ)
    (at : Known) (rva : ℕ) (r : RuntimeFunction) (i : Info) (is : List Info) (u : AbiUndo)
    (now to : ℕ → Known) → HasStack reach e m words → Is e base at
    → u.general.is_returned ≡ false → Agrees e u.general.context now
    → chain_undone reach words at rva r i is now ≡ Some to
    → Unwound e (abi.chain_undone m base rva r i is u) to
unwound_chain reach e m words base at rva r i [] u now to s b g h run = unwound_all reach e m
    words base at i (codes_at i (distance r.begin rva)) u now to s b g h run
unwound_chain reach e m words base at rva r i (p ∷ ps) u now to s b g h run =
    let xs = codes_at i (distance r.begin rva) in
    let q = parent_or r i.parent in
    let others = chain_undone reach words at rva q p ps in
    let o = bound (undone reach words at i xs now) others to run in
    let first = unwound_all reach e m words base at i xs u now o.value s b g h o.is in
    let more = unwound_chain reach e m words base at rva q p ps first.after o.value to s b
    first.going first.agrees o.next in
    record {
      after = more.after;
      is = ap (λ (a : Answer AbiUndo). a >>= abi.chain_undone m base rva q p ps) first.is
          ∙ more.is;
      going = more.going;
      agrees = more.agrees;
    }

-- ---- an epilogue

left_one : (reach : Reach) (e : State) (m : Memory) (words : ℕ → Option ℕ) (c : Context)
    (now to : ℕ → Known) (p : Part) → HasStack reach e m words → Agrees e c now
    → ran_one reach words now p ≡ Some to → Left e (abi.ran_one m c p) to
left_one reach e m words c now to (Raise n) s h run =
    record {
      after = rsp_raised c n;
      is = refl;
      agrees = to_mid e (rsp_raised c n) (risen n now) to run (risen_agrees e c now n h);
    }
left_one reach e m words c now to (FromFrame f n) s h run =
    let v = (get c f + n) % 2 ^ 64 in
    record {
      after = with_rsp c v;
      is = refl;
      agrees = to_mid e (with_rsp c v) (with_known now 4 (raised n (kept now f))) to run
          (rsp_agrees e c now v (raised n (kept now f)) h
          (is_raised e (get c f) n (kept now f) (kept_is e c now f h)));
    }
left_one reach e m words c now to (Restore r) s h run =
    let o = bound (read reach words (now 4)) (λ x. Some (with_known (risen 8 now) r x)) to run in
    let w = read_is reach e m words (rsp c) (now 4) o.value s (h.is 4 refl) o.is in
    let after = set (rsp_raised c 8) r w.value in
    record {
      after = after;
      is = ap (λ (a : Answer ℕ). a >>= λ v. Ok (set (rsp_raised c 8) r v)) w.is;
      agrees = to_mid e after (with_known (risen 8 now) r o.value) to o.next
          (set_agrees e (rsp_raised c 8) (risen 8 now) r w.value o.value
          (risen_agrees e c now 8 h) w.known);
    }

left_all : (reach : Reach) (e : State) (m : Memory) (words : ℕ → Option ℕ) (ps : List Part)
    (c : Context) (now to : ℕ → Known) → HasStack reach e m words → Agrees e c now
    → ran reach words ps now ≡ Some to → Left e (abi.ran m ps c) to
left_all reach e m words [] c now to s h run =
    record { after = c; is = refl; agrees = to_mid e c now to run h }
left_all reach e m words (p ∷ ps) c now to s h run =
    let o = bound (ran_one reach words now p) (ran reach words ps) to run in
    let first = left_one reach e m words c now o.value p s h o.is in
    let more = left_all reach e m words ps first.after o.value to s first.agrees o.next in
    record {
      after = more.after;
      is = ap (λ (a : Answer Context). a >>= abi.ran m ps) first.is ∙ more.is;
      agrees = more.agrees;
    }

-- ---- the return address

right_register : (e : State) (c : Context) (now : ℕ → Known) → registers e 4 < 2 ^ 64
    → Agrees e c now → IsRight now → (r : ℕ) → is_nonvolatile r ≡ true → get c r ≡ registers e r
right_register e c now high h right r nv = elim (cases_eq r 4) [
  | inl same ↦
      let v = is_same e (get c 4) (get c 4) (now 4) (Place 0) refl (sym right.stack) (h.is 4 refl)
      in
      let top : get c 4 ≡ registers e 4 = omega arith in
      ap (get c) same ∙ top ∙ ap (registers e) (sym same)
  | inr other ↦ is_same e (get c r) (get c r) (now r) (Entry r) refl
      (sym (right.others r nv other)) (h.is r nv)
]

-- the word at S
pub return_word : (reach : Reach) (e s : State) (known : Knowledge)
    → IsEntered reach e → Fits e s known → HasStack reach e s.memory known.words
    → IsWord s.memory (registers e 4) (return_address e)
return_word reach e s known entry fits h =
    let high = entry.high in
    let home = entry.back in
    record {
      readable = all_may (may_read s.memory) 8 (registers e 4) (omega arith)
          (λ a p q. reach_readable reach e s.memory entry fits.protection a
          (omega arith) (omega arith));
      value = fits.back;
      high = omega arith;
    }

agrees_first : (e s : State) (known : Knowledge) → Fits e s known
    → Agrees e (context_of s.cpu) known.registers
agrees_first e s known fits = record {
  length = refl;
  is = λ r nv. is_same e (registers s r) (get (context_of s.cpu) r) (known.registers r)
      (known.registers r) (get-context s.cpu r nv) refl (fits.is r);
}

ends : (o : Run) → EndsRight o → (now : ℕ → Known) × (o ≡ Some now) × IsRight now
ends (Some now) h = (now, refl, h)
ends None h = absurd h

-- popped: by the registers that agree
caller_of : (e : State) (a : Answer AbiContext) (frame : ℕ) (asked : Option Info) (vectors : List ℕ)
    → a ≡ Ok (record { general = left_to (registers e) (return_address e); vectors = vectors })
    → IsCaller e (found frame asked a)
caller_of e a frame asked vectors same = record {
  frame = record {
    frame = frame;
    context = record {
      general = left_to (registers e) (return_address e);
      vectors = vectors;
    };
    asked = asked;
  };
  is = ap (found frame asked) same;
  context = refl;
}

-- the return address popped, in a context that is right
popped_right : (reach : Reach) (e s : State) (known : Knowledge) (c : Context) (now : ℕ → Known)
    → IsEntered reach e → Fits e s known → Agrees e c now → IsRight now
    → popped s.memory c ≡ Ok (left_to (registers e) (return_address e))
popped_right reach e s known c now entry fits agrees right =
    let stack = has_stack reach e s known entry fits in
    let word = return_word reach e s known entry fits stack in
    let high = entry.high in
    let home = entry.back in
    popped_is s.memory (registers e) (return_address e) c agrees.length
    (right_register e c now (omega arith) agrees right) (omega arith) word

pub known_right : KnownRight
known_right reach e s vectors known rva entry (Some ps) entered fits right =
    let stack = has_stack reach e s known entered fits in
    let m = s.memory in
    let c = context_of s.cpu in
    let all : AbiContext = seen s vectors in
    let o = ends (ran reach known.words ps known.registers) right in
    let r = left_all reach e m known.words ps c known.registers o.0 stack
    (agrees_first e s known fits) o.1 in
    let p = popped_right reach e s known r.after o.0 entered fits r.agrees o.2 in
    caller_of e (abi.left m ps all)
    (establisher entry.info c (distance entry.range.begin rva)) None vectors
    (ap (λ (a : Answer Context). a >>= λ g. popped_abi m (record all { general = g })) r.is
    ∙ ap (λ (a : Answer Context). a >>= λ g. Ok (record all { general = g })) p)
known_right reach e s vectors known rva entry None entered fits right =
    let stack = has_stack reach e s known entered fits in
    let m = s.memory in
    let c = context_of s.cpu in
    let all : AbiContext = seen s vectors in
    let now = known.registers in
    let i = entry.info in
    let b = is_framed i (distance entry.range.begin rva) in
    let base = callers.base_if i c b in
    let at = base_if i now b in
    let first = agrees_first e s known fits in
    let o = ends (chain_undone reach known.words at rva entry.range i entry.parents now) right in
    let u = unwound_chain reach e m known.words base at rva entry.range i entry.parents
    (at_start all) now o.0 stack (base_is e i c now b first) refl first o.1 in
    let p = popped_right reach e s known u.after.general.context o.0 entered fits u.agrees o.2 in
    caller_of e (abi.unwound m base rva entry all) base (asked_at rva (root_of entry))
    u.after.vectors
    (ap (λ (a : Answer AbiUndo). a >>= returned_abi m) u.is
    ∙ ap (λ (b : Bool). returned_or m u.after.general.context b
    >>= λ g. Ok (record { general = g; vectors = u.after.vectors })) u.going
    ∙ ap (λ (a : Answer Context). a >>= λ g. Ok (record {
      general = g;
      vectors = u.after.vectors;
    })) p)

-- ---- by the function tables

same_caller : (e : State) (a b : Answer AbiFrame) → a ≡ b → IsCaller e b → IsCaller e a
same_caller e a b same h = record { frame = h.frame; is = same ∙ h.is; context = h.context }

pub callers_found : CallersFound
unfolding abi_caller
callers_found t reach e s vectors known entry entered fits here right =
    let rva = distance t.base s.cpu.rip in
    let tail = tail_of t s.memory entry s.cpu.rip in
    same_caller e (abi_caller t s.memory (seen s vectors))
    (abi_at s.memory (seen s vectors) rva entry tail)
    (ap (of_entry t s.memory (seen s vectors)) here)
    (known_right reach e s vectors known rva entry tail entered fits right)

pub leaves_found : LeavesFound
unfolding abi_caller
leaves_found t reach e s vectors known entered fits here right =
    let c = context_of s.cpu in
    let all : AbiContext = seen s vectors in
    let p = popped_right reach e s known c known.registers entered fits
    (agrees_first e s known fits) right in
    same_caller e (abi_caller t s.memory all) (abi.leaf s.memory all)
    (ap (of_entry t s.memory all) here)
    (caller_of e (popped_abi s.memory all) (rsp c) None vectors
    (ap (λ (a : Answer Context). a >>= λ g. Ok (record all { general = g })) p))
