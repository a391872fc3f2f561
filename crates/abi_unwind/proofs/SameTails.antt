-- A trailing part of the forms that and_parts unwinders know makes the same of a context.
use Rattle.std.proofs.Common.{◌≡◌, ℕ, zero, suc, ◌+◌, ◌%◌, ◌^◌, ◌≤◌, Bool, true, false, not, ◌==◌, List, [], ◌∷◌, Option, Some, None, Ok, Err, refl, ap, ◌∙◌, arith}
use Rattle.std.proofs.lemmas.Bool.{and_parts}
use Rattle.seh_num.specs.declared.size.TheConstants.{LONGEST_INSTRUCTION}
use Rattle.seh_num.specs.Answers.{◌>>=◌}
use Rattle.flat_memory.specs.Memory.{Memory, executable}
use Rattle.x64_instr.specs.Registers.{register}
use Rattle.x64_instr.specs.Spelling.{leading}
use Rattle.x64_instr.specs.declared.instruction.Instr.{Instr}
use Rattle.x64_instr.specs.declared.instruction.Instr.TheVariants as instrs
use Rattle.x64_machine.specs.declared.context.Context.{Context}
use Rattle.virtual_unwind.specs.declared.tail.Role.{Role}
use Rattle.virtual_unwind.specs.declared.tail.Role.TheVariants.{Opens, Ends}
use Rattle.virtual_unwind.specs.Undone.{Answer, popped}
use Rattle.virtual_unwind.specs.Tail.{FetchedInstr, item_of, fetched_at, is_plain, role_of, prepend_instr, by_role, from_item, tail, left_by, left, tail_at as profile_tail}
use Rattle.abi_unwind.specs.declared.tail.Part.{Part}
use Rattle.abi_unwind.specs.declared.tail.Part.TheVariants.{Restore}
use Rattle.abi_unwind.specs.declared.tail.End.TheVariants.{Certain}
use Rattle.abi_unwind.specs.Tail.{Tail, popping, opening, end_at, before, ended, pops_then, pops, pops_at, opened_or, tail_at}
use Rattle.abi_unwind.specs.Caller.{ran_one, ran}
use Rattle.abi_unwind.specs.Laws.{is_plain_end, plain_or, plain_pops, plain_pops_at, plain_opened, plain_tail}
use Rattle.abi_unwind.proofs.PlainEnds.{ended_alike}
use Rattle.abi_unwind.proofs.PlainTails.{pop_item, pop_does, opened_alike}

pub record SameTail (m : Memory) (o : Option (List Instr)) (p : Option Tail) : Type 0 where
  pub instrs : List Instr
  pub tail : Tail
  pub one : o ≡ Some instrs
  pub other : p ≡ Some tail
  pub certain : tail.end ≡ Certain
  pub same : (c : Context) → left m instrs c ≡ (ran m tail.parts c >>= popped m)

none_more : (m : Memory) (a : Answer Context) → (a >>= left m []) ≡ a
none_more m (Ok c) = refl
none_more m (Err e) = refl

-- one part more
then_same : (m : Memory) (is : List Instr) (ps : List Part) (a b : Answer Context) → a ≡ b
    → ((c : Context) → left m is c ≡ (ran m ps c >>= popped m))
    → (a >>= left m is) ≡ ((b >>= ran m ps) >>= popped m)
then_same m is ps a b e h = ap (λ x. x >>= left m is) e ∙ go b
  where
    go : (x : Answer Context) → (x >>= left m is) ≡ ((x >>= ran m ps) >>= popped m)
    go (Ok c) = h c
    go (Err x) = refl

more : (m : Memory) (i : Instr) (p : Part) (o : Option (List Instr)) (q : Option Tail)
    → ((c : Context) → left_by m i c ≡ ran_one m c p) → SameTail m o q
    → SameTail m (prepend_instr i o) (before p q)
more m i p o q h w = record {
  instrs = i ∷ w.instrs;
  tail = record { parts = p ∷ w.tail.parts; end = w.tail.end };
  one = ap (prepend_instr i) w.one;
  other = ap (before p) w.other;
  certain = w.certain;
  same = λ c. then_same m w.instrs w.tail.parts (left_by m i c) (ran_one m c p) (h c) w.same;
}

moved : (m : Memory) (o o' : Option (List Instr)) (q q' : Option Tail) → o' ≡ o → q' ≡ q
    → SameTail m o q → SameTail m o' q'
moved m o o' q q' e g w = record {
  instrs = w.instrs;
  tail = w.tail;
  one = e ∙ w.one;
  other = g ∙ w.other;
  certain = w.certain;
  same = w.same;
}

end_only : (others : ℕ → Option (List Instr)) (first : Bool) (x : FetchedInstr) (r : Role)
    → r ≡ Ends → by_role others first x r ≡ Some (x.instr ∷ [])
end_only others first x r e = ap (by_role others first x) e

opened_only : (others : ℕ → Option (List Instr)) (x : FetchedInstr) (r : Role) → r ≡ Opens
    → by_role others true x r ≡ prepend_instr x.instr (others x.size)
opened_only others x r e = ap (by_role others true x) e

by_pop : (m : Memory) (f at : ℕ) (first : Bool) (b : List ℕ) (x : Option (ℕ × ℕ)) (plain : ℕ → Bool)
    (others : ℕ → Option (List Instr)) (tails : ℕ → Option Tail) → popping b ≡ x
    → plain_or plain (is_plain_end b) x ≡ true
    → ((k : ℕ) → plain k ≡ true → SameTail m (others k) (tails k))
    → SameTail m (from_item others f first (item_of b (leading b)))
    (pops_then tails (end_at at b) x)
by_pop m f at first b None plain others tails p e h =
    let w = ended_alike f at b e in
    record {
      instrs = w.instr ∷ [];
      tail = record { parts = []; end = Certain };
      one = ap (from_item others f first) w.is
          ∙ end_only others first
          (record { instr = w.instr; size = w.size; plain = is_plain b w.size w.instr })
          (role_of f (is_plain b w.size w.instr) w.instr) w.role;
      other = ap ended w.certain;
      certain = refl;
      same = λ c. ap (λ a. a >>= left m []) (w.does m c) ∙ none_more m (popped m c);
    }
by_pop m f at first b (Some x) plain others tails p e h =
    moved m (prepend_instr (instrs.Pop (register x.0)) (others x.1))
    (from_item others f first (item_of b (leading b)))
    (before (Restore x.0) (tails x.1)) (before (Restore x.0) (tails x.1))
    (ap (from_item others f first) (pop_item b x.0 x.1 p)) refl
    (more m (instrs.Pop (register x.0)) (Restore x.0) (others x.1) (tails x.1)
    (λ c. pop_does m c b x.0 x.1 p) (h x.1 e))

pub pops_alike : (n k j f at : ℕ) (first : Bool) (m : Memory) → plain_pops n m at ≡ true → n ≤ k
    → n ≤ j → SameTail m (tail k first f m at) (pops j m at)
unfolding plain_pops tail pops fetched_at
pops_alike zero k j f at first m e a b = absurd cc
pops_alike (suc n) zero j f at first m e a b = absurd (omega arith)
pops_alike (suc n) (suc k) zero f at first m e a b = absurd (omega arith)
pops_alike (suc n) (suc k) (suc j) f at first m e a b =
    by_pop m f at first (executable m LONGEST_INSTRUCTION at)
    (popping (executable m LONGEST_INSTRUCTION at)) (λ s. plain_pops n m ((at + s) % 2 ^ 64))
    (λ s. tail k false f m ((at + s) % 2 ^ 64)) (λ s. pops j m ((at + s) % 2 ^ 64)) refl e
    (λ s h. pops_alike n k j f ((at + s) % 2 ^ 64) false m h (omega arith) (omega arith))

-- with what comes first
first_read : (n f at : ℕ) (m : Memory)
    → tail (suc n) true f m at
    ≡ from_item (λ k. tail n false f m ((at + k) % 2 ^ 64)) f true
    (item_of (executable m LONGEST_INSTRUCTION at) (leading (executable m LONGEST_INSTRUCTION at)))
unfolding tail fetched_at
first_read n f at m = refl

by_opening : (m : Memory) (n f at : ℕ) (x : Option (Part × ℕ)) → n ≤ 0xFFFF_FFFF_FFFF_FFFF
    → opening f (executable m LONGEST_INSTRUCTION at) ≡ x → not (f % 8 == 4) ≡ true
    → plain_opened (plain_pops n m at) (λ k. plain_pops n m ((at + k) % 2 ^ 64)) x ≡ true
    → SameTail m (tail (suc n) true f m at)
    (opened_or (pops_at m at) (λ k. pops_at m ((at + k) % 2 ^ 64)) x)
by_opening m n f at None le p s e =
    pops_alike n (suc n) 0xFFFF_FFFF_FFFF_FFFF f at true m e (omega arith) le
by_opening m n f at (Some x) le p s e =
    let b = executable m LONGEST_INSTRUCTION at in
    let w = opened_alike f b x.0 x.1 s p in
    let others = λ (k : ℕ). tail n false f m ((at + k) % 2 ^ 64) in
    moved m (prepend_instr w.instr (others x.1)) (tail (suc n) true f m at)
    (before x.0 (pops_at m ((at + x.1) % 2 ^ 64))) (before x.0 (pops_at m ((at + x.1) % 2 ^ 64)))
    (first_read n f at m ∙ ap (from_item others f true) w.is
    ∙ opened_only others (record { instr = w.instr; size = x.1; plain = is_plain b x.1 w.instr })
    (role_of f (is_plain b x.1 w.instr) w.instr) (w.opens (is_plain b x.1 w.instr)))
    refl
    (more m w.instr x.0 (others x.1) (pops_at m ((at + x.1) % 2 ^ 64)) (w.does m)
    (pops_alike n n 0xFFFF_FFFF_FFFF_FFFF f ((at + x.1) % 2 ^ 64) false m e (omega arith) le))

pub tails_alike : (m : Memory) (f at : ℕ) → plain_tail f m at ≡ true
    → SameTail m (profile_tail f m at) (tail_at f m at)
unfolding plain_tail profile_tail tail_at
tails_alike m f at e =
    let b = executable m LONGEST_INSTRUCTION at in
    let parts = and_parts (not (f % 8 == 4)) (plain_opened (plain_pops_at m at)
    (λ k. plain_pops_at m ((at + k) % 2 ^ 64)) (opening f b)) e in
    by_opening m 0xFFFF_FFFF_FFFF_FFFE f at (opening f b) (omega arith) refl parts.0 parts.1
