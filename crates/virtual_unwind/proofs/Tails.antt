-- One part more of an epilogue.
use Rattle.std.proofs.Common.{◌≡◌, ℕ, zero, suc, ◌+◌, ◌%◌, ◌^◌, ◌<◌, Bool, true, false, Option, Some, None, Ok, Err, List, [], ◌∷◌, refl, ap, ◌∙◌, arith}
use Rattle.flat_memory.specs.Memory.{Memory}
use Rattle.x64_instr.specs.declared.instruction.Instr.{Instr}
use Rattle.x64_machine.specs.declared.context.Context.{Context}
use Rattle.seh_num.specs.Answers.{◌>>=◌}
use Rattle.virtual_unwind.specs.Undone.{Answer}
use Rattle.virtual_unwind.specs.declared.tail.Role.{Role}
use Rattle.virtual_unwind.specs.declared.tail.Role.TheVariants.{Opens, Restores, Ends, Other}
use Rattle.virtual_unwind.specs.Tail.{FetchedInstr, fetched_at, role_of, tail, by_role, from_item, prepend_instr, left_by, left}
use Rattle.virtual_unwind.specs.After.{Part, part, part_of, part_from, part_or_none, after}

-- the definition, part by part
role_part : (others : ℕ → Option (List Instr)) (first : Bool) (x : FetchedInstr) (r : Role)
    → by_role others first x r ≡ part_or_none others (part_of first x r)
role_part others true x Opens = refl
role_part others false x Opens = refl
role_part others first x Restores = refl
role_part others first x Ends = refl
role_part others first x Other = refl

item_part : (others : ℕ → Option (List Instr)) (f : ℕ) (first : Bool) (o : Option FetchedInstr)
    → from_item others f first o ≡ part_or_none others (part_from f first o)
item_part others f first None = refl
item_part others f first (Some x) = role_part others first x (role_of f x.plain x.instr)

step : (n f at : ℕ) (first : Bool) (m : Memory) (o : Option Part) → part f first m at ≡ o
    → tail (suc n) first f m at ≡ part_or_none (λ k. tail n false f m ((at + k) % 2 ^ 64)) o
unfolding tail
step n f at first m o e = item_part (λ k. tail n false f m ((at + k) % 2 ^ 64)) f first
    (fetched_at m at) ∙ ap (part_or_none (λ k. tail n false f m ((at + k) % 2 ^ 64))) e

-- the first instruction's effect may be taken before the others'
pub after-prepend_instr : (m : Memory) (a : Answer Context) (i : Instr) (o : Option (List Instr))
    → after m a (prepend_instr i o) ≡ after m (a >>= left_by m i) o
after-prepend_instr m a i None = refl
after-prepend_instr m (Ok c) i (Some is) = refl
after-prepend_instr m (Err e) i (Some is) = refl

pub after-last : (m : Memory) (a : Answer Context) (i : Instr)
    → after m a (Some (i ∷ [])) ≡ Some (a >>= left_by m i)
after-last m (Err e) i = refl
after-last m (Ok c) i = last (left_by m i c)
  where
    last : (r : Answer Context) → ◌≡◌ {A = Option (Answer Context)} (Some (r >>= left m []))
        (Some r)
    last (Ok c) = refl
    last (Err e) = refl

pub no-fuel : (m : Memory) (a : Answer Context) (n f at : ℕ) (first : Bool) → n ≡ 0
    → after m a (tail n first f m at) ≡ None
unfolding tail
no-fuel m a zero f at first e = refl
no-fuel m a (suc n) f at first e = absurd (omega arith)

pub none-here : (m : Memory) (a : Answer Context) (n f at : ℕ) (first : Bool)
    → part f first m at ≡ None → after m a (tail n first f m at) ≡ None
none-here m a zero f at first e = no-fuel m a 0 f at first refl
none-here m a (suc n) f at first e = ap (after m a) (step n f at first m None e)

pub last-here : (m : Memory) (a : Answer Context) (n f at k : ℕ) (first : Bool) (i : Instr) → 0 < n
    → part f first m at ≡ Some (i, k, true) → after m a (tail n first f m at)
    ≡ Some (a >>= left_by m i)
last-here m a zero f at k first i lt e = absurd (omega arith)
last-here m a (suc n) f at k first i lt e = ap (after m a)
    (step n f at first m (Some (i, k, true)) e) ∙ after-last m a i

pub more-here : (m : Memory) (a : Answer Context) (n j f at k : ℕ) (first : Bool) (i : Instr)
    → n ≡ j + 1 → part f first m at ≡ Some (i, k, false)
    → after m a (tail n first f m at) ≡ after m (a >>= left_by m i)
    (tail j false f m ((at + k) % 2 ^ 64))
more-here m a zero j f at k first i h e = absurd (omega arith)
more-here m a (suc n) j f at k first i h e =
    let g : n ≡ j = omega arith in
    ap (after m a) (step n f at first m (Some (i, k, false)) e)
    ∙ ap (λ n. after m a (prepend_instr i (tail n false f m ((at + k) % 2 ^ 64)))) g
    ∙ after-prepend_instr m a i (tail j false f m ((at + k) % 2 ^ 64))
