-- One instruction more of the rest of an epilogue.
use Rattle.std.proofs.Common.{◌≡◌, ℕ, zero, suc, ◌+◌, ◌%◌, ◌^◌, ◌<◌, Bool, true, false, length, Option, Some, None, List, refl, sym, ap, subst, ◌∙◌, arith}
use Rattle.std.specs.Prelude.{option_map}
use Rattle.flat_memory.specs.Memory.{Memory}
use Rattle.x64_instr.specs.declared.instruction.Instr.{Instr}
use Rattle.virtual_unwind.specs.declared.tail.Role.{Role}
use Rattle.virtual_unwind.specs.declared.tail.Role.TheVariants.{Opens, Restores, Ends, Other}
use Rattle.virtual_unwind.specs.Tail.{FetchedInstr, fetched_at, role_of, tail, by_role, from_item, prepend_instr}
use Rattle.virtual_unwind.specs.After.{Part, part_of}
use Rattle.frame_rules.proofs.Tails.{tail-more}
use Rattle.unwind_tails.specs.declared.tail.Tail.{Tail}
use Rattle.unwind_tails.specs.Tails.{is_last, counted, IsTail}

one_more : (n : ℕ) (i : Instr) (o : Option (List Instr))
    → counted n (prepend_instr i o) ≡ counted (n + 1) o
one_more n i None = refl
one_more n i (Some js) =
    let e : n + suc (length js) ≡ n + 1 + length js = omega arith in ap (λ (k : ℕ). Some k) e

-- ---- by what the instruction is to an epilogue

abbrev last_of : Bool → FetchedInstr → Role → Option Bool
last_of first x r = option_map (λ (p : Part). p.2) (part_of first x r)

module _ (others : ℕ → Option (List Instr)) (n : ℕ) where
  none_by : (first : Bool) (x : FetchedInstr) (r : Role) → last_of first x r ≡ None
      → counted n (by_role others first x r) ≡ None
  none_by true x Opens e = absurd cc
  none_by false x Opens e = refl
  none_by first x Restores e = absurd cc
  none_by first x Ends e = absurd cc
  none_by first x Other e = refl

  end_by : (first : Bool) (x : FetchedInstr) (r : Role) → last_of first x r ≡ Some true
      → counted n (by_role others first x r) ≡ Some (n + 1)
  end_by true x Opens e = absurd cc
  end_by false x Opens e = absurd cc
  end_by first x Restores e = absurd cc
  end_by first x Ends e = refl
  end_by first x Other e = absurd cc

  more_by : (first : Bool) (x : FetchedInstr) (r : Role) → last_of first x r ≡ Some false
      → counted n (by_role others first x r) ≡ counted (n + 1) (others x.size)
  more_by true x Opens e = one_more n x.instr (others x.size)
  more_by false x Opens e = absurd cc
  more_by first x Restores e = one_more n x.instr (others x.size)
  more_by first x Ends e = absurd cc
  more_by first x Other e = absurd cc

-- ---- by the instruction that stands there

module _ (m : Memory) (f at : ℕ) (first : Bool) (n : ℕ) where
  pub no_fuel : (j : ℕ) → j ≡ 0 → counted n (tail j first f m at) ≡ None
  unfolding tail
  no_fuel zero e = refl
  no_fuel (suc j) e = absurd (omega arith)

  pub none_there : (j : ℕ) → fetched_at m at ≡ None → counted n (tail j first f m at) ≡ None
  unfolding tail
  none_there zero e = refl
  none_there (suc j) e =
      ap (λ o. counted n (from_item (λ k. tail j false f m ((at + k) % 2 ^ 64)) f first o)) e

  pub no_part : (j : ℕ) (x : FetchedInstr) → fetched_at m at ≡ Some x → is_last f first x ≡ None
      → counted n (tail j first f m at) ≡ None
  no_part zero x h e = no_fuel 0 refl
  no_part (suc j) x h e = ap (counted n) (tail-more (suc j) j first f m at x (omega arith) h)
      ∙ none_by (λ k. tail j false f m ((at + k) % 2 ^ 64)) n first x (role_of f x.plain x.instr) e

  pub last_part : (j : ℕ) (x : FetchedInstr) → 0 < j → fetched_at m at ≡ Some x
      → is_last f first x ≡ Some true → counted n (tail j first f m at) ≡ Some (n + 1)
  last_part zero x lt h e = absurd (omega arith)
  last_part (suc j) x lt h e = ap (counted n) (tail-more (suc j) j first f m at x (omega arith) h)
      ∙ end_by (λ k. tail j false f m ((at + k) % 2 ^ 64)) n first x (role_of f x.plain x.instr) e

  pub next_part : (j k : ℕ) (x : FetchedInstr) → j ≡ k + 1 → fetched_at m at ≡ Some x
      → is_last f first x ≡ Some false → counted n (tail j first f m at)
      ≡ counted (n + 1) (tail k false f m ((at + x.size) % 2 ^ 64))
  next_part j k x s h e = ap (counted n) (tail-more j k first f m at x s h)
      ∙ more_by (λ i. tail k false f m ((at + i) % 2 ^ 64)) n first x (role_of f x.plain x.instr) e

  pub goes_on : (j k : ℕ) (x : FetchedInstr) (b : ℕ) (later : Bool) → j ≡ k + 1
      → fetched_at m at ≡ Some x → is_last f first x ≡ Some false → b ≡ (at + x.size) % 2 ^ 64
      → later ≡ false → counted (n + 1) (tail k later f m b) ≡ counted n (tail j first f m at)
  goes_on j k x b later s h e a l = ap (λ q. counted (n + 1) (tail k q f m b)) l
      ∙ ap (λ i. counted (n + 1) (tail k false f m i)) a ∙ sym (next_part j k x s h e)

-- ---- how far it goes

pub same_tail : (n k : ℕ) (a b : Option ℕ) (t : Tail) → n ≡ k → a ≡ b → IsTail n a t
    → IsTail k b t
same_tail n k a b t e f h = subst (λ o. IsTail k o t) f (subst (λ j. IsTail j a t) e h)

pub none_counted : (o : Option (List Instr)) → counted 0 o ≡ None → o ≡ None
none_counted None e = refl
none_counted (Some is) e = absurd cc
