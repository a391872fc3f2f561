-- A prologue of the right form has no fault.
use Rattle.std.proofs.Common.{◌≡◌, ℕ, ◌+◌, true, ◌&&◌, List, [], ◌∷◌, ◌++◌, None, refl, ap, subst, ◌∙◌, arith}
use Rattle.std.proofs.lemmas.Bool.{false≢true, and_parts, and_from}
use Rattle.flat_memory.specs.Memory.{Memory}
use Rattle.x64_instr.specs.declared.instruction.Instr.{Instr}
use Rattle.eh_tables.specs.declared.code.UnwindCode.{UnwindCode}
use Rattle.eh_tables.specs.declared.code.UnwindOperation.{UnwindOperation}
use Rattle.eh_tables.specs.declared.code.UnwindOperation.TheVariants.{Allocate}
use Rattle.virtual_unwind.specs.Tail.{FetchedInstr}
use Rattle.frame_rules.specs.Prologue.{bytes, does, sets_size, is_call, subtracts, allocates, is_step, are_sized, PrologueStep, items, ArePrologueSteps}
use Rattle.frame_rules.specs.States.{HasItems}
use Rattle.frame_rules.specs.Validated.{fits}
use Rattle.frame_rules.proofs.Keeping.{codes_of, fit, misses_one}
use Rattle.frame_rules.proofs.Tails.{items_rise}
use Rattle.unwind_check.specs.declared.rule.Rule.TheVariants.{Prologue}
use Rattle.unwind_check.specs.Boundaries.{fault}
use Rattle.unwind_tails.specs.Instructions.{with_item, between}
use Rattle.unwind_check.specs.Prologues.{Site, is_call_of, cont, by_three, prologue_from}
use Rattle.unwind_check.specs.RightFunctions.{CallsProbe}
use Rattle.unwind_tails.proofs.Decoding.{goes_on, at_end}

-- ---- what is in memory is what is decoded

pub decoded_whole : (m : Memory) (at : ℕ) (xs : List FetchedInstr) (to : ℕ) → HasItems m at xs to
    → between m at to ≡ record { items = xs; is_whole = true }
decoded_whole m at [] to h = at_end m to at h
decoded_whole m at (x ∷ xs) to h =
    let rise = items_rise m (at + x.size) xs to h.2 in
    let pos = h.1 in
    goes_on m to at x (omega (arith, rise, pos)) h.0 h.1 rise
    ∙ ap (with_item x) (decoded_whole m (at + x.size) xs to h.2)

pub items_split : (m : Memory) (at : ℕ) (xs ys : List FetchedInstr) (to : ℕ)
    → HasItems m at (xs ++ ys) to
    → HasItems m at xs (at + bytes xs) × HasItems m (at + bytes xs) ys to
items_split m at [] ys to h =
    let e : at ≡ at + bytes [] = omega arith in (e, subst (λ k. HasItems m k ys to) e h)
items_split m at (x ∷ xs) ys to h =
    let r = items_split m (at + x.size) xs ys to h.2 in
    let e : at + x.size + bytes xs ≡ at + bytes (x ∷ xs) = omega arith in (
      (h.0, h.1, subst (λ k. HasItems m (at + x.size) xs k) e r.0),
      subst (λ k. HasItems m k ys to) e r.1,
    )

-- ---- one step

probes_rest : (m : Memory) (probe : List ℕ) (at : ℕ) (xs ys : List FetchedInstr)
    → CallsProbe m probe at (xs ++ ys) → CallsProbe m probe (at + bytes xs) ys
probes_rest m probe at [] ys h =
    let e : at ≡ at + bytes [] = omega arith in subst (λ k. CallsProbe m probe k ys) e h
probes_rest m probe at (x ∷ xs) ys h =
    let e : at + x.size + bytes xs ≡ at + bytes (x ∷ xs) = omega arith in
    subst (λ k. CallsProbe m probe k ys) e (probes_rest m probe (at + x.size) xs ys h.1)

module _ (s : Site) where
  abbrev f : ℕ
  f = s.frame_register

  abbrev offset : ℕ
  offset = s.frame_offset

  step_passes : (d : ℕ) (c : UnwindCode) (cs : List UnwindCode) (xs ys : List FetchedInstr)
      → is_step f offset c.operation xs ≡ true → are_sized xs ≡ true → c.offset ≡ d + bytes xs
      → CallsProbe s.memory s.probe (s.begin + d) (xs ++ ys)
      → prologue_from s true d (c ∷ cs) (xs ++ ys) ≡ prologue_from s true c.offset cs ys
  step_passes d c cs [] ys does sized end probes = absurd (false≢true does)
  step_passes d c cs (x ∷ []) ys does sized end probes =
      ap (λ b. cont (prologue_from s true c.offset cs ys) b
      (by_three s (prologue_from s true c.offset cs) d c (x ∷ ys)))
      (fit f offset d c (x ∷ []) does sized end)
  step_passes d c cs (x ∷ y ∷ []) ys does sized end probes = absurd (false≢true does)
  step_passes d c cs (x ∷ y ∷ z ∷ []) ys alloc sized end probes =
      let miss = misses_one f offset d c x y z alloc in
      let probed = and_from (fits f offset d c (x ∷ y ∷ z ∷ []))
      (is_call_of s.memory s.probe (s.begin + d + x.size + y.size) y.instr)
      (fit f offset d c (x ∷ y ∷ z ∷ []) alloc sized end)
      (probes.1.0 (calls c.operation x.instr y.instr z.instr alloc)) in
      ap (λ b. cont (prologue_from s true c.offset cs (y ∷ z ∷ ys)) b
      (by_three s (prologue_from s true c.offset cs) d c (x ∷ y ∷ z ∷ ys))) miss
      ∙ ap (λ b. cont (prologue_from s true c.offset cs ys) b (fault (s.begin + d) Prologue)) probed
    where
      calls : (op : UnwindOperation) (a b c : Instr) → allocates op a b c ≡ true
          → is_call b ≡ true
      calls (Allocate n) a b c h = (and_parts (is_call b) (subtracts c)
          (and_parts (sets_size n a) (is_call b && subtracts c) h).1).0
      calls op a b c h = absurd (false≢true h)
  step_passes d c cs (x ∷ y ∷ z ∷ w ∷ xs) ys does sized end probes = absurd (false≢true does)

  -- ---- all steps

  pub right_prologue : (d : ℕ) (ss : List PrologueStep) → ArePrologueSteps f offset d ss
      → CallsProbe s.memory s.probe (s.begin + d) (items ss)
      → prologue_from s true d (codes_of ss []) (items ss) ≡ None
  right_prologue d [] a probes = refl
  right_prologue d (t ∷ ss) a probes =
      let e : s.begin + d + bytes t.items ≡ s.begin + (d + bytes t.items) = omega arith in
      step_passes d t.code (codes_of ss []) t.items (items ss) a.0.does a.0.sized a.0.ends probes
      ∙ ap (λ k. prologue_from s true k (codes_of ss []) (items ss)) a.0.ends
      ∙ right_prologue (d + bytes t.items) ss a.1
      (subst (λ k. CallsProbe s.memory s.probe k (items ss)) e
      (probes_rest s.memory s.probe (s.begin + d) t.items (items ss) probes))
