-- Whether the trailing part of an epilogue that goes on at an address ends, by its instructions.
use Rattle.std.proofs.Common.{◌≡◌, ℕ, zero, suc, ◌+◌, ◌-◌, ◌%◌, ◌^◌, ◌<◌, ◌≤◌, Bool, true, false, List, [], ◌∷◌, ◌++◌, length, Option, Some, None, refl, sym, ap, ◌∙◌, arith}
use Rattle.std.specs.Prelude.{All, is_some}
use Rattle.std.proofs.lemmas.List.Elements.{All-push, All-weaker}
use Rattle.flat_memory.specs.Memory.{Memory}
use Rattle.seh_num.specs.declared.width.Width.TheVariants.{W64}
use Rattle.x64_instr.specs.declared.register.Reg.TheVariants.{Rsp}
use Rattle.x64_instr.specs.declared.instruction.Instr.{Instr}
use Rattle.x64_instr.specs.declared.instruction.Instr.TheVariants as instrs
use Rattle.virtual_unwind.specs.declared.tail.Role.{Role}
use Rattle.virtual_unwind.specs.declared.tail.Role.TheVariants.{Opens, Restores, Ends, Other}
use Rattle.virtual_unwind.specs.Tail.{FetchedInstr, fetched_at, role_of, opening, is_of, prepend_instr, by_role, from_item, tail}
use Rattle.unwind_tails.specs.declared.tail.Tail.TheVariants.{Missing, Outside}
use Rattle.unwind_tails.specs.Tails.{is_last, counted, IsTail}
use Rattle.unwind_tails.specs.TailEnds.{IsEnded}
use Rattle.unwind_tails.proofs.Rests.{none_there, no_part, last_part, next_part}

-- ---- past the first instruction the frame register is nothing to it

two_openings : (o : ℕ → Option (List Instr)) (x : FetchedInstr) (a b : Bool)
    → by_role o false x (opening a) ≡ by_role o false x (opening b)
two_openings o x true true = refl
two_openings o x true false = refl
two_openings o x false true = refl
two_openings o x false false = refl

any_role : (o : ℕ → Option (List Instr)) (x : FetchedInstr) (f : ℕ) (plain : Bool) (i : Instr)
    → by_role o false x (role_of f plain i) ≡ by_role o false x (role_of 0 plain i)
any_role o x f plain (instrs.LoadAddress W64 Rsp a) =
    two_openings o x (is_of f a.base a.index) (is_of 0 a.base a.index)
any_role o x f plain i = refl

same_others : (o p : ℕ → Option (List Instr)) (x : FetchedInstr) (r : Role)
    → o x.size ≡ p x.size → by_role o false x r ≡ by_role p false x r
same_others o p x Opens e = refl
same_others o p x Restores e = ap (prepend_instr x.instr) e
same_others o p x Ends e = refl
same_others o p x Other e = refl

pub any_register : (n f : ℕ) (m : Memory) (at : ℕ) → tail n false f m at ≡ tail n false 0 m at
unfolding tail
any_register zero f m at = refl
any_register (suc n) f m at =
    by_item (fetched_at m at) (λ k. any_register n f m ((at + k) % 2 ^ 64))
  where
    by_item : (i : Option FetchedInstr)
        → ((k : ℕ) → tail n false f m ((at + k) % 2 ^ 64) ≡ tail n false 0 m ((at + k) % 2 ^ 64))
        → from_item (λ k. tail n false f m ((at + k) % 2 ^ 64)) f false i
        ≡ from_item (λ k. tail n false 0 m ((at + k) % 2 ^ 64)) 0 false i
    by_item None more = refl
    by_item (Some x) more =
        any_role (λ k. tail n false f m ((at + k) % 2 ^ 64)) x f x.plain x.instr
        ∙ same_others (λ k. tail n false f m ((at + k) % 2 ^ 64))
        (λ k. tail n false 0 m ((at + k) % 2 ^ 64)) x (role_of 0 x.plain x.instr) (more x.size)

-- ---- it has an instruction

prepended : (i : Instr) (o : Option (List Instr)) (is : List Instr) → prepend_instr i o ≡ Some is
    → 0 < length is
prepended i None is e = absurd cc
prepended i (Some js) is e =
    let same : i ∷ js ≡ is = cc in
    let n = ap (λ (xs : List Instr). length xs) same in
    omega (arith, n)

pub some_instr : (n f : ℕ) (m : Memory) (at : ℕ) (is : List Instr) → tail n false f m at ≡ Some is
    → 0 < length is
unfolding tail
some_instr zero f m at is e = absurd cc
some_instr (suc n) f m at is e = by_item (fetched_at m at) e
  where
    others : ℕ → Option (List Instr)
    others k = tail n false f m ((at + k) % 2 ^ 64)

    by : (x : FetchedInstr) (r : Role) → by_role others false x r ≡ Some is → 0 < length is
    by x Opens e = absurd cc
    by x Restores e = prepended x.instr (others x.size) is e
    by x Ends e =
        let same : x.instr ∷ [] ≡ is = cc in
        let n = ap (λ (xs : List Instr). length xs) same in
        omega (arith, n)
    by x Other e = absurd cc

    by_item : (o : Option FetchedInstr) → from_item others f false o ≡ Some is → 0 < length is
    by_item None e = absurd cc
    by_item (Some x) e = by x (role_of f x.plain x.instr) e

-- ---- by its instructions

some_count : (n : ℕ) (o : Option (List Instr)) → is_some o ≡ is_some (counted n o)
some_count n None = refl
some_count n (Some is) = refl

module _ (m : Memory) (at : ℕ) where
  pub none_ends : fetched_at m at ≡ None → IsEnded 0 m at false
  none_ends e n le = some_count 0 (tail n false 0 m at)
      ∙ ap (λ (o : Option ℕ). is_some o) (none_there m 0 at false 0 n e)

  pub other_ends : (x : FetchedInstr) → fetched_at m at ≡ Some x → is_last 0 false x ≡ None
      → IsEnded 0 m at false
  other_ends x h e n le = some_count 0 (tail n false 0 m at)
      ∙ ap (λ (o : Option ℕ). is_some o) (no_part m 0 at false 0 n x h e)

  pub last_ends : (x : FetchedInstr) → fetched_at m at ≡ Some x → is_last 0 false x ≡ Some true
      → IsEnded 1 m at true
  last_ends x h e n le = some_count 0 (tail n false 0 m at)
      ∙ ap (λ (o : Option ℕ). is_some o) (last_part m 0 at false 0 n x (omega (arith, le)) h e)

  pub restores_on : (x : FetchedInstr) (next : ℕ) → fetched_at m at ≡ Some x
      → is_last 0 false x ≡ Some false → next ≡ (at + x.size) % 2 ^ 64
      → (n : ℕ) → is_some (tail (suc n) false 0 m at) ≡ is_some (tail n false 0 m next)
  restores_on x next h e is n =
      some_count 0 (tail (suc n) false 0 m at)
      ∙ ap (λ (o : Option ℕ). is_some o)
      (next_part m 0 at false 0 (suc n) n x (omega arith) h e)
      ∙ sym (some_count 1 (tail n false 0 m ((at + x.size) % 2 ^ 64)))
      ∙ ap (λ k. is_some (tail n false 0 m k)) (sym is)

-- ---- one address leads to another, past so many instructions

pub record IsLed (m : Memory) (here most at : ℕ) : Type 0 where
  pub steps : ℕ
  pub few : steps ≤ most
  pub same : (n : ℕ) → is_some (tail (steps + n) false 0 m at) ≡ is_some (tail n false 0 m here)

module _ (m : Memory) (here most : ℕ) where
  pub led_here : IsLed m here most here
  led_here = record {
    steps = 0;
    few = omega arith;
    same = λ n. ap (λ k. is_some (tail k false 0 m here)) (let z : 0 + n ≡ n = omega arith in z);
  }

  pub led_on : (next at : ℕ)
      → ((n : ℕ) → is_some (tail (suc n) false 0 m here) ≡ is_some (tail n false 0 m next))
      → IsLed m here most at → IsLed m next (most + 1) at
  led_on next at on l = record {
    steps = l.steps + 1;
    few = let f = l.few in omega (arith, f);
    same = λ n. ap (λ k. is_some (tail k false 0 m at))
        (let z : l.steps + 1 + n ≡ l.steps + suc n = omega arith in z)
        ∙ l.same (suc n) ∙ on n;
  }

  pub led_ends : (low high at : ℕ) (b : Bool) → low + most ≤ high → IsEnded low m here b
      → IsLed m here most at → IsEnded high m at b
  led_ends low high at b le h l n more =
      let few = l.few in
      ap (λ k. is_some (tail k false 0 m at))
      (let z : n ≡ l.steps + (n - l.steps) = omega (arith, few, le, more) in z)
      ∙ l.same (n - l.steps) ∙ h (n - l.steps) (omega (arith, few, le, more))

  -- all of them
  pub all_on : (next : ℕ) (places : List ℕ)
      → ((n : ℕ) → is_some (tail (suc n) false 0 m here) ≡ is_some (tail n false 0 m next))
      → All (IsLed m here most) places → All (IsLed m next (most + 1)) (places ++ (here ∷ []))
  all_on next places on all = All-push (IsLed m next (most + 1)) places here
      (All-weaker (IsLed m here most) (IsLed m next (most + 1)) (λ a l. led_on next a on l) places
      all)
      (led_on next here on led_here)

  pub all_end : (low : ℕ) (places : List ℕ) (b : Bool) → low + most ≤ 2 ^ 61
      → IsEnded low m here b
      → All (IsLed m here most) places → All (λ (at : ℕ). IsEnded (2 ^ 61) m at b) places
  all_end low places b le h all = All-weaker (IsLed m here most)
      (λ (at : ℕ). IsEnded (2 ^ 61) m at b) (λ a l. led_ends low (2 ^ 61) a b le h l) places all

-- ---- what that says of the part past so many instructions

module _ (m : Memory) (f at count : ℕ) (few : count ≤ 2 ^ 63) where
  abbrev rest : Option (List Instr)
  rest = tail (0xFFFF_FFFF_FFFF_FFFF - count) false f m at

  rest_some : (b : Bool) → IsEnded (2 ^ 62) m at b → is_some rest ≡ b
  rest_some b h =
      ap (λ (o : Option (List Instr)). is_some o)
      (any_register (0xFFFF_FFFF_FFFF_FFFF - count) f m at)
      ∙ h (0xFFFF_FFFF_FFFF_FFFF - count) (omega (arith, few))

  pub none_outside : IsEnded (2 ^ 62) m at false → IsTail count (counted count rest) Missing
  none_outside h = go rest (rest_some false h)
    where
      go : (o : Option (List Instr)) → is_some o ≡ false → counted count o ≡ None
      go None e = refl
      go (Some is) e = absurd cc

  pub some_outside : IsEnded (2 ^ 62) m at true → IsTail count (counted count rest) Outside
  some_outside h = go rest refl (rest_some true h)
    where
      go : (o : Option (List Instr)) → rest ≡ o → is_some o ≡ true
          → (n : ℕ) × (counted count o ≡ Some n) × (count < n)
      go None r e = absurd cc
      go (Some is) r e =
          let pos = some_instr (0xFFFF_FFFF_FFFF_FFFF - count) f m at is r in
          (count + length is, refl, omega (arith, pos))
