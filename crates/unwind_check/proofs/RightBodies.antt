-- A body of the right form has no fault.
use Rattle.std.proofs.Common.{◌≡◌, ◌≢◌, ℕ, zero, suc, ◌+◌, ◌-◌, ◌^◌, ◌<◌, ◌≤◌, Bool, true, false, not, ◌&&◌, ◌||◌, eqb, leb, List, [], ◌∷◌, length, drop, Option, Some, None, refl, sym, ap, subst, ◌∙◌, arith, inl, inr}
use Rattle.std.proofs.lemmas.Bool.{false≢true, and_parts, and_from, or_cases, le-leb}
use Rattle.flat_memory.specs.Memory.{Memory}
use Rattle.x64_instr.specs.declared.instruction.Instr.{Instr}
use Rattle.eh_tables.specs.declared.code.UnwindOperation.{UnwindOperation}
use Rattle.eh_tables.specs.Infos.{Info}
use Rattle.virtual_unwind.specs.Contexts.{is_nonvolatile}
use Rattle.virtual_unwind.specs.Undone.{operations}
use Rattle.virtual_unwind.specs.declared.tail.Role.{Role}
use Rattle.virtual_unwind.specs.declared.tail.Role.TheVariants.{Opens, Restores, Ends, Other}
use Rattle.virtual_unwind.specs.Tail.{FetchedInstr, fetched_at, role_of, tail_at}
use Rattle.frame_rules.specs.Codes.{allocation, pushes, is_saved}
use Rattle.frame_rules.specs.Epilogue.{is_pop, pops, gives_back, is_epilogue}
use Rattle.frame_rules.specs.Body.{written, may_write, may_write_all, restored_by, with_restored, are_restored, Mode, Body, Leaving, only_if, leaving, from_body, and_then, following, is_body}
use Rattle.frame_rules.specs.States.{is_other, HasItems}
use Rattle.frame_rules.proofs.Bodies.{only, Next, next_mode}
use Rattle.frame_rules.proofs.Tails.{items_rise, some_same, opens_here, no_tail}
use Rattle.unwind_check.specs.declared.rule.Rule.TheVariants.{StackWrite, Unsaved, Epilogue}
use Rattle.unwind_check.specs.declared.rule.Fault.{Fault}
use Rattle.unwind_check.specs.Boundaries.{unless, or_next}
use Rattle.unwind_check.specs.Bodies.{keeps_stack, keeps_saved, is_own, by_tail, body_from}
use Rattle.unwind_check.proofs.Tails.{is_opens, giving}
use Rattle.unwind_check.proofs.TailSteps.{tail_step}
use Rattle.unwind_check.proofs.Followed.{loaded_after, nothing_after, own}

-- ---- what is written

all_kept : (f : ℕ) (ops : List UnwindOperation) (rs : List ℕ) → may_write_all f ops rs ≡ true
    → (keeps_stack f rs ≡ true) × (keeps_saved ops rs ≡ true)
all_kept f ops [] h = (refl, refl)
all_kept f ops (r ∷ rs) h =
    let p = and_parts (may_write f ops r) (may_write_all f ops rs) h in
    let q = and_parts (not (eqb r 4)) ((eqb f 0 || not (eqb r f))
    && (not (is_nonvolatile r) || is_saved r ops)) p.0 in
    let k = and_parts (eqb f 0 || not (eqb r f)) (not (is_nonvolatile r) || is_saved r ops) q.1 in
    let more = all_kept f ops rs p.1 in (
      and_from (not (eqb r 4) && (eqb f 0 || not (eqb r f))) (keeps_stack f rs)
          (and_from (not (eqb r 4)) (eqb f 0 || not (eqb r f)) q.0 k.0) more.0,
      and_from (not (is_nonvolatile r) || is_saved r ops) (keeps_saved ops rs) k.1 more.1,
    )

both_pass : (a b : Bool) (at : ℕ) (o : Option Fault) → a ≡ true → b ≡ true
    → or_next (or_next (unless a at StackWrite) (unless b at Unsaved)) o ≡ o
both_pass true true at o p q = refl
both_pass true false at o p q = absurd (false≢true q)
both_pass false b at o p q = absurd (false≢true p)

one_passes : (a : Bool) (at : ℕ) (o : Option Fault) → a ≡ true
    → or_next (unless a at Epilogue) o ≡ o
one_passes true at o p = refl
one_passes false at o p = absurd (false≢true p)

-- ---- how long an epilogue is

pops_count : (rs : List ℕ) (is : List Instr) → pops rs is ≡ true → length is ≡ length rs + 1
pops_count [] [] h = absurd (false≢true h)
pops_count [] (x ∷ []) h = omega arith
pops_count [] (x ∷ y ∷ is) h = absurd (false≢true h)
pops_count (r ∷ rs) [] h = absurd (false≢true h)
pops_count (r ∷ rs) (x ∷ is) h =
    let n = pops_count rs is (and_parts (is_pop r x) (pops rs is) h).1 in omega (arith, n)

module _ (f offset : ℕ) (ops : List UnwindOperation) where
  -- what is followed to its end has an instruction for each pop, and the end
  leaving_count : (rs : List ℕ) (xs : List FetchedInstr)
      → is_body (following f offset ops xs (Leaving rs)) ≡ true → length rs + 1 ≤ length xs
  leaving_count rs [] h = absurd (false≢true h)
  leaving_count [] (x ∷ xs) h = omega arith
  leaving_count (r ∷ rs) (x ∷ xs) h =
      let k = next_mode f offset ops x xs (Leaving (r ∷ rs)) h in
      let o = only (Some (Leaving rs)) (is_pop r x.instr) k.to k.is in
      let n = leaving_count rs xs (subst
      (λ (md : Mode). is_body (following f offset ops xs md) ≡ true) (sym (some_same o.1))
      k.rest) in
      omega (arith, n)

  not_opening : (x : FetchedInstr) (rest : List Instr)
      → is_opens (role_of f x.plain x.instr) ≡ false
      → is_epilogue f offset ops (x.instr ∷ rest) ≡ true → length rest ≡ length (pushes ops)
  not_opening x rest closed e = elim (or_cases
      (gives_back f offset (allocation ops) x.instr && pops (pushes ops) rest)
      (eqb (allocation ops) 0 && pops (pushes ops) (x.instr ∷ rest)) e) [
        | inl g ↦ absurd (false≢true (sym closed ∙ ap is_opens
            (giving f offset (allocation ops) x.plain x.instr (and_parts
            (gives_back f offset (allocation ops) x.instr) (pops (pushes ops) rest) g).0)))
        | inr g ↦
            let n = pops_count (pushes ops) (x.instr ∷ rest) (and_parts (eqb (allocation ops) 0)
            (pops (pushes ops) (x.instr ∷ rest)) g).1 in
            omega (arith, n)
      ]

  at_most : (x : FetchedInstr) (rest : List Instr)
      → is_epilogue f offset ops (x.instr ∷ rest) ≡ true → length rest ≤ length (pushes ops) + 1
  at_most x rest e = elim (or_cases
      (gives_back f offset (allocation ops) x.instr && pops (pushes ops) rest)
      (eqb (allocation ops) 0 && pops (pushes ops) (x.instr ∷ rest)) e) [
        | inl g ↦
            let n = pops_count (pushes ops) rest (and_parts
            (gives_back f offset (allocation ops) x.instr) (pops (pushes ops) rest) g).1 in
            omega (arith, n)
        | inr g ↦
            let n = pops_count (pushes ops) (x.instr ∷ rest) (and_parts (eqb (allocation ops) 0)
            (pops (pushes ops) (x.instr ∷ rest)) g).1 in
            omega (arith, n)
      ]

  -- it ends inside what is followed
  fits_in : (loaded : List ℕ) (x : FetchedInstr) (xs : List FetchedInstr) (rest : List Instr)
      → is_body (following f offset ops (x ∷ xs) (Body loaded)) ≡ true
      → role_of f x.plain x.instr ≢ Other → is_epilogue f offset ops (x.instr ∷ rest) ≡ true
      → length rest ≤ length xs
  fits_in loaded x xs rest h other e = go (role_of f x.plain x.instr) refl
    where
      k : Next f offset ops x xs (Body loaded)
      k = next_mode f offset ops x xs (Body loaded) h

      popping : only_if (leaving f (pushes ops) x)
          (are_restored loaded ops && eqb (allocation ops) 0) ≡ Some k.to
          → is_opens (role_of f x.plain x.instr) ≡ false → length rest ≤ length xs
      popping g closed =
          let o = only (leaving f (pushes ops) x)
          (are_restored loaded ops && eqb (allocation ops) 0) k.to g in
          let n = leaving_count (pushes ops) (x ∷ xs)
          (ap (λ (a : Option Mode). is_body (and_then (following f offset ops xs) a)) o.1
          ∙ k.rest) in
          let s = not_opening x rest closed e in
          omega (arith, n, s)

      go : (r : Role) → role_of f x.plain x.instr ≡ r → length rest ≤ length xs
      go Opens q =
          let o = only (Some (Leaving (pushes ops)))
          (are_restored loaded ops && gives_back f offset (allocation ops) x.instr) k.to
          (sym (ap (from_body f offset ops loaded x) q) ∙ k.is) in
          let n = leaving_count (pushes ops) xs (subst
          (λ (md : Mode). is_body (following f offset ops xs md) ≡ true) (sym (some_same o.1))
          k.rest) in
          let s = at_most x rest e in
          omega (arith, n, s)
      go Restores q = popping (sym (ap (from_body f offset ops loaded x) q) ∙ k.is)
          (ap is_opens q)
      go Ends q = popping (sym (ap (from_body f offset ops loaded x) q) ∙ k.is) (ap is_opens q)
      go Other q = absurd (other q)

-- ---- the body

not_other : {q : Role} (r : Role) → q ≡ r → is_other r ≡ false → q ≢ Other
not_other r e same o = false≢true (sym same ∙ ap is_other (sym e ∙ o))

module _ (m : Memory) (i : Info) (to : ℕ) (low : to < 2 ^ 63) where
  abbrev f : ℕ
  f = i.frame_register

  abbrev offset : ℕ
  offset = i.frame_offset

  abbrev ops : List UnwindOperation
  ops = operations i.codes

  abbrev Others : ℕ → List FetchedInstr → Type 0
  Others at xs =
      (rs : List ℕ) (k : ℕ) → k ≤ length xs
      → is_body (following f offset ops (drop k xs) (Body (loaded_after k rs))) ≡ true
      → body_from m i true xs at rs k ≡ None

  none_there : (at : ℕ) (x : FetchedInstr) → fetched_at m at ≡ Some x
      → role_of f x.plain x.instr ≡ Other → tail_at f m at ≡ None
  unfolding tail_at
  none_there at x here e = no_tail 0xFFFF_FFFF_FFFF_FFFF f m at x (omega arith) here e

  -- an instruction outside epilogues
  outside : (at : ℕ) (loaded : List ℕ) (x : FetchedInstr) (xs : List FetchedInstr)
      → HasItems m at (x ∷ xs) to
      → is_body (following f offset ops (x ∷ xs) (Body loaded)) ≡ true
      → role_of f x.plain x.instr ≡ Other → Others (at + x.size) xs
      → by_tail i (body_from m i true xs) at loaded x xs (tail_at f m at) ≡ None
  outside at loaded x xs h b e more =
      let loads = with_restored loaded (restored_by f offset ops x.instr) in
      let k = next_mode f offset ops x xs (Body loaded) b in
      let o = only (Some (Body loads)) (may_write_all f ops (written x.instr)) k.to
      (sym (ap (from_body f offset ops loaded x) e) ∙ k.is) in
      let kept = all_kept f ops (written x.instr) o.0 in
      let rest = subst (λ (md : Mode). is_body (following f offset ops xs md) ≡ true)
      (sym (some_same o.1)) k.rest in
      ap (by_tail i (body_from m i true xs) at loaded x xs) (none_there at x h.0 e)
      ∙ both_pass (keeps_stack f (written x.instr)) (keeps_saved ops (written x.instr)) at
      (body_from m i true xs (at + x.size) loads 0) kept.0 kept.1
      ∙ more loads 0 (omega arith) rest

  -- the first one of an epilogue
  record Whole (at : ℕ) (loaded : List ℕ) (x : FetchedInstr) : Type 0 where
    rest : List Instr
    is_there : tail_at f m at ≡ Some (x.instr ∷ rest)
    restored : are_restored loaded ops ≡ true
    epilogue : is_epilogue f offset ops (x.instr ∷ rest) ≡ true

  whole : (at : ℕ) (loaded : List ℕ) (x : FetchedInstr) (xs : List FetchedInstr)
      → HasItems m at (x ∷ xs) to
      → is_body (following f offset ops (x ∷ xs) (Body loaded)) ≡ true
      → role_of f x.plain x.instr ≢ Other → Whole at loaded x
  unfolding tail_at
  whole at loaded x xs h b other =
      let o = opens_here f offset ops m 0xFFFF_FFFF_FFFF_FFFF at to x xs loaded low (omega arith) h
      b other in
      let rise = items_rise m (at + x.size) xs to h.2 in
      let t = tail_step f m at x o.is_there.instrs (omega arith) h.0 o.is_there.is in
      record {
        rest = t.rest;
        is_there = subst (λ (is : List Instr). tail_at f m at ≡ Some is) (sym t.all) o.is_there.is;
        restored = o.restored;
        epilogue = subst (λ (is : List Instr). is_epilogue f offset ops is ≡ true) (sym t.all)
            o.is_there.epilogue;
      }

  inside : (at : ℕ) (loaded : List ℕ) (x : FetchedInstr) (xs : List FetchedInstr)
      → HasItems m at (x ∷ xs) to
      → is_body (following f offset ops (x ∷ xs) (Body loaded)) ≡ true
      → role_of f x.plain x.instr ≢ Other → Others (at + x.size) xs
      → by_tail i (body_from m i true xs) at loaded x xs (tail_at f m at) ≡ None
  inside at loaded x xs h b other more =
      let w = whole at loaded x xs h b other in
      let size = fits_in f offset ops loaded x xs w.rest b other w.epilogue in
      let le : length (x.instr ∷ w.rest) ≤ length (x ∷ xs) = omega (arith, size) in
      let n : length w.rest ≡ length (x.instr ∷ w.rest) - 1 = omega arith in
      let after = sym (ap is_body (own m i true to low at loaded x xs (x.instr ∷ w.rest) h
      w.is_there w.restored w.epilogue le)) ∙ b in
      let rest = subst (λ (rs : List ℕ). is_body
      (following f offset ops (drop (length w.rest) xs) (Body rs)) ≡ true)
      (sym (nothing_after (length w.rest))) after in
      ap (by_tail i (body_from m i true xs) at loaded x xs) w.is_there
      ∙ one_passes (is_own f offset ops loaded (x ∷ xs) (x.instr ∷ w.rest)) at
      (body_from m i true xs (at + x.size) [] (length (x.instr ∷ w.rest) - 1))
      (and_from (are_restored loaded ops) (is_epilogue f offset ops (x.instr ∷ w.rest)
      && leb (length (x.instr ∷ w.rest)) (length (x ∷ xs))) w.restored
      (and_from (is_epilogue f offset ops (x.instr ∷ w.rest))
      (leb (length (x.instr ∷ w.rest)) (length (x ∷ xs))) w.epilogue
      (le-leb (length (x.instr ∷ w.rest)) (length (x ∷ xs)) le)))
      ∙ subst (λ k. body_from m i true xs (at + x.size) [] k ≡ None) n
      (more [] (length w.rest) size rest)

  pub right_body : (xs : List FetchedInstr) (at : ℕ) (loaded : List ℕ) (left : ℕ)
      → HasItems m at xs to → left ≤ length xs
      → is_body (following f offset ops (drop left xs) (Body (loaded_after left loaded))) ≡ true
      → body_from m i true xs at loaded left ≡ None
  right_body [] at loaded left h le b = refl
  right_body (x ∷ xs) at loaded (suc k) h le b = right_body xs (at + x.size) [] k h.2 (omega arith)
      (subst (λ (rs : List ℕ). is_body (following f offset ops (drop k xs) (Body rs)) ≡ true)
      (sym (nothing_after k)) b)
  right_body (x ∷ xs) at loaded zero h le b = go (role_of f x.plain x.instr) refl
      (λ rs k l g. right_body xs (at + x.size) rs k h.2 l g)
    where
      go : (r : Role) → role_of f x.plain x.instr ≡ r → Others (at + x.size) xs
          → by_tail i (body_from m i true xs) at loaded x xs (tail_at f m at) ≡ None
      go Other e more = outside at loaded x xs h b e more
      go Opens e more = inside at loaded x xs h b (not_other Opens e refl) more
      go Restores e more = inside at loaded x xs h b (not_other Restores e refl) more
      go Ends e more = inside at loaded x xs h b (not_other Ends e refl) more
