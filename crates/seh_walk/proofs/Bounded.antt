-- The stack pointers that undoing and simulating leave are addresses.
use Rattle.std.proofs.Common.{◌≡◌, ℕ, zero, suc, ◌+◌, ◌-◌, ◌*◌, ◌%◌, ◌^◌, ◌<◌, Bool, true, false, ltb, Option, Some, None, Ok, Err, List, [], ◌∷◌, set, get_or, refl, subst, arith, lit<}
use Rattle.flat_memory.specs.Memory.{Memory, first_refused, may_read, access, number_at}
use Rattle.x64_instr.specs.declared.instruction.Instr.{Instr}
use Rattle.x64_instr.specs.declared.instruction.Instr.TheVariants as instrs
use Rattle.x64_instr.specs.Registers.{number}
use Rattle.x64_machine.specs.declared.context.Context.{Context}
use Rattle.eh_tables.specs.declared.code.UnwindOperation.{UnwindOperation}
use Rattle.eh_tables.specs.declared.code.UnwindOperation.TheVariants.{Push, Allocate, SetFrame, Save, SaveVector, MachineFrame}
use Rattle.eh_tables.specs.Infos.{Info}
use Rattle.eh_tables.specs.Tables.{Entry}
use Rattle.virtual_unwind.specs.declared.refusal.UnwindErr.{UnwindErr}
use Rattle.virtual_unwind.specs.Contexts as contexts
use Rattle.virtual_unwind.specs.Contexts.{rsp, with_rsp, rsp_raised, kept_index, with_kept_at}
use Rattle.seh_num.specs.Answers.{◌>>=◌}
use Rattle.virtual_unwind.specs.Undone.{Answer, Undo, readable, word, below_frame, undone_one, undone, all_undone, operations, popped, returned, returned_or}
use Rattle.virtual_unwind.specs.Tail.{left, left_by, tail_at, base_value, constant}
use Rattle.virtual_unwind.specs.CallerOf.{Functions, CallerFrame, found, unwound, at_start, distance, entry_of, of_entry, by_distance, past_prologue, run_by, rising, risen, caller_in}
use Rattle.seh_records.specs.Laws.{AreBytes}

pub eight_small : (byte : ℕ → ℕ) (a : ℕ) → AreBytes byte → number_at byte 8 a < 2 ^ 64
unfolding number_at
eight_small byte a h = many (byte a) _ _ _ _ _ _ _ (h _) (h _) (h _) (h _) (h _) (h _) (h _) (h _)
  where
    many : (a b c d e f g i : ℕ) → a < 256 → b < 256 → c < 256 → d < 256 → e < 256 → f < 256
        → g < 256 → i < 256 → a + 256 * (b + 256 *
        (c + 256 * (d + 256 * (e + 256 * (f + 256 * (g + 256 * (i + 256 * 0))))))) < 2 ^ 64
    many a b c d e f g i p q r s t u v w = omega arith

word_small : (m : Memory) (at v : ℕ) → AreBytes m.byte → word m at ≡ Ok v → v < 2 ^ 64
word_small m at v h e = go (first_refused (may_read m) 8 at) e
  where
    same : {x y : ℕ} → (let a : Answer ℕ = Ok x in a) ≡ Ok y → x ≡ y
    same e = cc

    go : (o : Option ℕ) → readable at (access false o (number_at m.byte 8 at)) ≡ Ok v → v < 2 ^ 64
    go None e = subst (λ n. n < 2 ^ 64) (same e) (eight_small m.byte at h)
    go (Some a) e = absurd cc

-- ---- registers

front_small : (xs : List ℕ) (k v : ℕ) → get_or xs 0 0 < 2 ^ 64 → v < 2 ^ 64
    → get_or (set xs k v) 0 0 < 2 ^ 64
front_small [] k v h l = lit< tt
front_small (x ∷ xs) zero v h l = l
front_small (x ∷ xs) (suc k) v h l = h

set_small : (c : Context) (r v : ℕ) → rsp c < 2 ^ 64 → v < 2 ^ 64
    → rsp (contexts.set c r v) < 2 ^ 64
set_small c r v h l = go (kept_index r)
  where
    go : (o : Option ℕ) → rsp (with_kept_at c o v) < 2 ^ 64
    go None = h
    go (Some k) = front_small c.kept k v h l

with_rsp_small : (c : Context) (v : ℕ) → v < 2 ^ 64 → rsp (with_rsp c v) < 2 ^ 64
with_rsp_small c v l = go c.kept
  where
    go : (xs : List ℕ) → get_or (set xs 0 v) 0 0 < 2 ^ 64
    go [] = lit< tt
    go (x ∷ xs) = l

raised_small : (c : Context) (n : ℕ) → rsp (rsp_raised c n) < 2 ^ 64
raised_small c n = with_rsp_small c ((rsp c + n) % 2 ^ 64) (omega arith)

-- ---- answers

bind : {A B : Type 0} (P : Answer B → Type 0) → ((e : UnwindErr) → P (Err e))
    → (a : Answer A) (f : A → Answer B) → ((v : A) → a ≡ Ok v → P (f v)) → P (a >>= f)
bind P err (Ok v) f h = h v refl
bind P err (Err e) f h = err e

abbrev IsSmallUndo : Answer Undo → Type 0
IsSmallUndo (Ok u) = rsp u.context < 2 ^ 64
IsSmallUndo (Err e) = Unit {0}

abbrev IsSmall : Answer Context → Type 0
IsSmall (Ok c) = rsp c < 2 ^ 64
IsSmall (Err e) = Unit {0}

abbrev pub IsSmallFound : Answer CallerFrame → Type 0
IsSmallFound (Ok f) = rsp f.context < 2 ^ 64
IsSmallFound (Err e) = Unit {0}

module _ (m : Memory) (bytes : AreBytes m.byte) where
  one_small : (base : ℕ) (i : Info) (u : Undo) (x : UnwindOperation) → rsp u.context < 2 ^ 64
      → IsSmallUndo (undone_one m base i u x)
  one_small base i u (Push r) h = bind IsSmallUndo (λ e. tt) (word m (rsp u.context)) _
      (λ v e. raised_small (contexts.set u.context r v) 8)
  one_small base i u (Allocate n) h = raised_small u.context n
  one_small base i u SetFrame h = with_rsp_small u.context (below_frame i u.context) (omega arith)
  one_small base i u (Save r n) h = bind IsSmallUndo (λ e. tt) (word m ((base + n) % 2 ^ 64)) _
      (λ v e. set_small u.context r v h (word_small m ((base + n) % 2 ^ 64) v bytes e))
  one_small base i u (SaveVector r n) h = h
  one_small base i u (MachineFrame k) h =
      bind IsSmallUndo (λ e. tt) (word m ((rsp u.context + 8 * k) % 2 ^ 64)) _ (λ rip e.
      bind IsSmallUndo (λ e. tt) (word m ((rsp u.context + 8 * k + 24) % 2 ^ 64)) _
      (λ stack f. with_rsp_small (record u.context { rip = rip }) stack
      (word_small m ((rsp u.context + 8 * k + 24) % 2 ^ 64) stack bytes f)))

  undone_small : (base : ℕ) (i : Info) (xs : List UnwindOperation) (u : Undo)
      → rsp u.context < 2 ^ 64 → IsSmallUndo (undone m base i xs u)
  undone_small base i [] u h = h
  undone_small base i (x ∷ xs) u h = bind IsSmallUndo (λ e. tt) (undone_one m base i u x) _
      (λ v e. undone_small base i xs v (subst IsSmallUndo e (one_small base i u x h)))

  all_small : (base : ℕ) (is : List Info) (u : Undo) → rsp u.context < 2 ^ 64
      → IsSmallUndo (all_undone m base is u)
  all_small base [] u h = h
  all_small base (i ∷ is) u h = bind IsSmallUndo (λ e. tt) (undone m base i (operations i.codes) u)
      _ (λ v e. all_small base is v (subst IsSmallUndo e
      (undone_small base i (operations i.codes) u h)))

  popped_small : (c : Context) → IsSmall (popped m c)
  popped_small c = bind IsSmall (λ e. tt) (word m (rsp c)) _
      (λ v e. raised_small (record c { rip = v }) 8)

  returned_small : (u : Undo) → rsp u.context < 2 ^ 64 → IsSmall (returned m u)
  returned_small u h = go u.is_returned
    where
      go : (b : Bool) → IsSmall (returned_or m u.context b)
      go true = h
      go false = popped_small u.context

  unwound_small : (base : ℕ) (i : Info) (ps : List Info) (ops : List UnwindOperation) (c : Context)
      → rsp c < 2 ^ 64 → IsSmall (unwound m base i ps ops c)
  unwound_small base i ps ops c h =
      bind IsSmall (λ e. tt) (undone m base i ops (at_start c)) _ (λ u e.
      bind IsSmall (λ e. tt) (all_undone m base ps u) _
      (λ w f. returned_small w (subst IsSmallUndo f
      (all_small base ps u (subst IsSmallUndo e (undone_small base i ops (at_start c) h))))))

  part_small : (i : Instr) (c : Context) → rsp c < 2 ^ 64 → IsSmall (left_by m i c)
  part_small (instrs.Arithmetic o w to by) c h = raised_small c (constant by)
  part_small (instrs.LoadAddress w to a) c h = with_rsp_small c
      ((base_value c a.base + a.displacement) % 2 ^ 64) (omega arith)
  part_small (instrs.Pop r) c h = bind IsSmall (λ e. tt) (word m (rsp c)) _
      (λ v e. set_small (rsp_raised c 8) (number r) v (raised_small c 8)
      (word_small m (rsp c) v bytes e))
  part_small i c h = popped_small c

  left_small : (is : List Instr) (c : Context) → rsp c < 2 ^ 64 → IsSmall (left m is c)
  left_small [] c h = h
  left_small (i ∷ is) c h = bind IsSmall (λ e. tt) (left_by m i c) _
      (λ v e. left_small is v (subst IsSmall e (part_small i c h)))

  found_small : (frame : ℕ) (asked : Option Info) (a : Answer Context) → IsSmall a
      → IsSmallFound (found frame asked a)
  found_small frame asked (Ok c) h = h
  found_small frame asked (Err e) h = tt

  past_small : (e : Entry) (c : Context) (o : Option (List Instr)) → rsp c < 2 ^ 64
      → IsSmallFound (past_prologue m e.info e.parents c o)
  past_small e c (Some is) h = found_small _ _ _ (left_small is c h)
  past_small e c None h = found_small _ _ _ (unwound_small _ e.info e.parents
      (operations e.info.codes) c h)

  by_small : (e : Entry) (c : Context) (d : ℕ) (b : Bool) → rsp c < 2 ^ 64
      → IsSmallFound (by_distance m e.info e.parents c d b)
  by_small e c d true h = found_small _ _ _ (unwound_small _ e.info e.parents
      (operations (run_by d e.info.codes)) c h)
  by_small e c d false h = past_small e c (tail_at e.info.frame_register m c.rip) h

  entry_small : (c : Context) (rva : ℕ) (o : Option Entry) → rsp c < 2 ^ 64
      → IsSmallFound (of_entry m c rva o)
  entry_small c rva None h = found_small _ _ _ (popped_small c)
  entry_small c rva (Some e) h = by_small e c (rva - e.range.begin)
      (ltb (rva - e.range.begin) e.info.prologue_size) h

  risen_small : (c : Context) (a : Answer CallerFrame) → IsSmallFound a
      → IsSmallFound (a >>= rising c)
  risen_small c (Err e) h = tt
  risen_small c (Ok f) h = go (ltb (rsp c) (rsp f.context))
    where
      go : (b : Bool) → IsSmallFound (risen c f b)
      go true = h
      go false = tt

  pub caller_small : (t : Functions) (c : Context) → rsp c < 2 ^ 64 → IsSmallFound (caller_in t m c)
  unfolding caller_in
  caller_small t c h = risen_small c (of_entry m c (distance t.base c.rip) (entry_of t c.rip))
      (entry_small c (distance t.base c.rip) (entry_of t c.rip) h)
