-- The rest of an epilogue, by the instructions that stand one after another from its first one on.
use Rattle.std.proofs.Common.{◌≡◌, ◌⊎◌, ℕ, zero, suc, ◌+◌, ◌-◌, ◌%◌, ◌^◌, ◌<◌, ◌≤◌, Bool, true, false, ◌&&◌, leb, List, [], ◌∷◌, length, take, Option, Some, None, Result, Ok, Err, refl, sym, ap, subst, ◌∙◌, arith, inl, inr}
use Rattle.std.proofs.lemmas.Bool.{leb-true}
use Rattle.flat_memory.specs.Memory.{Memory}
use Rattle.x64_instr.specs.declared.instruction.Instr.{Instr}
use Rattle.eh_tables.specs.declared.code.UnwindOperation.{UnwindOperation}
use Rattle.eh_tables.specs.Infos.{Info}
use Rattle.virtual_unwind.specs.Undone.{operations}
use Rattle.virtual_unwind.specs.Tail.{FetchedInstr, tail, tail_at}
use Rattle.frame_rules.specs.Epilogue.{is_epilogue}
use Rattle.frame_rules.specs.Body.{are_restored}
use Rattle.frame_rules.specs.Prologue.{bytes}
use Rattle.frame_rules.specs.States.{HasItems}
use Rattle.frame_rules.proofs.Tails.{items_rise}
use Rattle.unwind_check.specs.declared.rule.Fault.{Fault}
use Rattle.unwind_check.specs.declared.rule.Rule.TheVariants.{Epilogue}
use Rattle.unwind_check.specs.Bodies.{is_own}
use Rattle.unwind_check.specs.Steps.{Known, known_or, past_rest, is_own_part}
use Rattle.unwind_tails.specs.Tails.{counted}
use Rattle.unwind_tails.specs.Instructions.{instrs}
use Rattle.unwind_check.proofs.Tails.{Stops, Goes, taken}

finish : (x : FetchedInstr) (xs : List FetchedInstr) (rest is : List Instr) → x.instr ∷ rest ≡ is
    → rest ≡ instrs (take (length rest) xs) → is ≡ instrs (take (length is) (x ∷ xs))
finish x xs rest is e r = subst (λ (ys : List Instr). ys ≡ instrs (take (length ys) (x ∷ xs))) e
    (ap (λ (ys : List Instr). x.instr ∷ ys) r)

shorter : (x : FetchedInstr) (xs : List FetchedInstr) (rest is : List Instr)
    → x.instr ∷ rest ≡ is → length is ≤ length (x ∷ xs) → length rest ≤ length xs
shorter x xs rest is e le = let same = ap (λ (ys : List Instr). length ys) e in omega arith

-- they are the first of the instructions there
first_of : (n : ℕ) (first : Bool) (f : ℕ) (m : Memory) (at : ℕ) (xs : List FetchedInstr) (to : ℕ)
    (is : List Instr) → to < 2 ^ 63 → HasItems m at xs to → tail n first f m at ≡ Some is
    → length is ≤ length xs → is ≡ instrs (take (length is) xs)
unfolding tail
first_of zero first f m at xs to is low h t le = absurd cc
first_of (suc j) first f m at [] to [] low h t le = refl
first_of (suc j) first f m at [] to (i ∷ is) low h t le = absurd (omega arith)
first_of (suc j) first f m at (x ∷ xs) to is low h t le =
    let k = taken (suc j) j first f m at x is (omega arith) h.0 t in
    finish x xs k.rest is k.all (by k.rest (shorter x xs k.rest is k.all le) k.how
    (λ ys g l. first_of j false f m (at + x.size) xs to ys low h.2 g l))
  where
    by : (rest : List Instr) → length rest ≤ length xs → Stops f x rest ⊎ Goes j f m at x rest
        → ((ys : List Instr) → tail j false f m (at + x.size) ≡ Some ys → length ys ≤ length xs
        → ys ≡ instrs (take (length ys) xs))
        → rest ≡ instrs (take (length rest) xs)
    by rest le (inl s) more = subst (λ (ys : List Instr). ys ≡ instrs (take (length ys) xs))
        (sym s.1) refl
    by rest le (inr g) more =
        let rise = items_rise m (at + x.size) xs to h.2 in
        let wraps : (at + x.size) % 2 ^ 64 ≡ at + x.size = omega arith in
        more rest (subst (λ a. tail j false f m a ≡ Some rest) wraps g.1) le

turned_round : (a b c d : Bool) → (c ≡ true → b ≡ d) → (a && (b && c)) ≡ (c && (a && d))
turned_round true true true d h = h refl
turned_round true false true d h = h refl
turned_round false b true d h = refl
turned_round true true false d h = refl
turned_round true false false d h = refl
turned_round false b false d h = refl

own_part : (f offset : ℕ) (ops : List UnwindOperation) (loaded : List ℕ) (m : Memory) (at : ℕ)
    (xs : List FetchedInstr) (to : ℕ) (is : List Instr) → to < 2 ^ 63 → HasItems m at xs to
    → tail_at f m at ≡ Some is
    → is_own f offset ops loaded xs is ≡ is_own_part f offset ops loaded xs (length is)
unfolding tail_at
own_part f offset ops loaded m at xs to is low h t =
    turned_round (are_restored loaded ops) (is_epilogue f offset ops is)
    (leb (length is) (length xs)) (is_epilogue f offset ops (instrs (take (length is) xs)))
    (λ e. ap (is_epilogue f offset ops) (first_of 0xFFFF_FFFF_FFFF_FFFF true f m at xs to is low h t
    (leb-true (length is) (length xs) e)))

-- ---- past an instruction, by how many they are

some_counted : (o : Option (List Instr)) (k : ℕ) → Some k ≡ counted 0 o
    → (is : List Instr) × (o ≡ Some is) × (length is ≡ k)
some_counted None k e = absurd cc
some_counted (Some is) k e = let same : k ≡ 0 + length is = cc in (is, refl, omega (arith, same))

module _ (m : Memory) (i : Info) (at : ℕ) (loaded : List ℕ) (x : FetchedInstr)
    (xs : List FetchedInstr) where
  abbrev rest_there : Option (List Instr)
  rest_there = tail_at i.frame_register m at

  past_some : (k : ℕ) (zs : List FetchedInstr) → zs ≡ x ∷ xs
      → HasItems m at zs (at + bytes zs) → at + bytes zs < 2 ^ 63
      → Some k ≡ counted 0 rest_there → (b : Bool)
      → b ≡ is_own_part i.frame_register i.frame_offset (operations i.codes) loaded zs k
      → known_or (Ok ([], k - 1)) at Epilogue b ≡ past_rest i at loaded x xs rest_there
  past_some k zs z there low e b own =
      let some = some_counted rest_there k e in
      let is = some.0 in
      let is_it = some.1 in
      let few = some.2 in
      let f = i.frame_register in
      let offset = i.frame_offset in
      let ops = operations i.codes in
      let same = own_part f offset ops loaded m at zs (at + bytes zs) is low there is_it in
      let also = own ∙ ap (is_own_part f offset ops loaded zs) (sym few) ∙ sym same
      ∙ ap (λ (ys : List FetchedInstr). is_own f offset ops loaded ys is) z in
      ap (known_or (Ok ([], k - 1)) at Epilogue) also
      ∙ ap (λ n. known_or (Ok ([], n - 1)) at Epilogue (is_own f offset ops loaded (x ∷ xs) is))
      (sym few)
      ∙ sym (ap (past_rest i at loaded x xs) is_it)

  pub past_own : (k : ℕ) (zs : List FetchedInstr) → zs ≡ x ∷ xs
      → HasItems m at zs (at + bytes zs) → at + bytes zs < 2 ^ 63
      → Some k ≡ counted 0 rest_there
      → true ≡ is_own_part i.frame_register i.frame_offset (operations i.codes) loaded zs k
      → (let r : Result Known Fault = Ok ([], k - 1) in
      r ≡ past_rest i at loaded x xs rest_there)
  past_own k zs z there low e own = past_some k zs z there low e true own

  pub past_other : (k : ℕ) (zs : List FetchedInstr) → zs ≡ x ∷ xs
      → HasItems m at zs (at + bytes zs) → at + bytes zs < 2 ^ 63
      → Some k ≡ counted 0 rest_there
      → false ≡ is_own_part i.frame_register i.frame_offset (operations i.codes) loaded zs k
      → (let r : Result Known Fault = Err (record { at = at; rule = Epilogue }) in
      r ≡ past_rest i at loaded x xs rest_there)
  past_other k zs z there low e own = past_some k zs z there low e false own
