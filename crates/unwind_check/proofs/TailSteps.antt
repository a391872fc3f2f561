-- The trailing part of an epilogue, past its first instruction.
use Rattle.std.proofs.Common.{◌≡◌, ◌≢◌, ℕ, zero, suc, ◌+◌, ◌%◌, ◌^◌, ◌<◌, ◌≤◌, Bool, true, false, List, [], ◌∷◌, Option, Some, None, refl, sym, ap, subst, ◌∙◌, arith, inl, inr}
use Rattle.std.proofs.lemmas.Bool.{false≢true}
use Rattle.flat_memory.specs.Memory.{Memory}
use Rattle.seh_num.specs.declared.width.Width.TheVariants.{W64}
use Rattle.x64_instr.specs.declared.operand.RegisterOrMemory.TheVariants as places
use Rattle.x64_instr.specs.declared.operand.Operand.TheVariants as operands
use Rattle.x64_instr.specs.declared.instruction.Instr.{Instr}
use Rattle.x64_instr.specs.declared.instruction.Instr.TheVariants as instrs
use Rattle.eh_tables.specs.declared.code.UnwindOperation.{UnwindOperation}
use Rattle.virtual_unwind.specs.declared.tail.Role.{Role}
use Rattle.virtual_unwind.specs.declared.tail.Role.TheVariants.{Opens, Restores, Ends, Other}
use Rattle.virtual_unwind.specs.Tail.{FetchedInstr, fetched_at, role_of, prepend_instr, by_role, from_item, tail, tail_at}
use Rattle.frame_rules.specs.Body.{restored_by}
use Rattle.frame_rules.specs.States.{is_other}
use Rattle.unwind_check.proofs.Tails.{is_opens, is_restores, taken, Taken}

-- one that may come later may come first, and may be read on further
pub wider : (j n : ℕ) (first : Bool) (f : ℕ) (m : Memory) (at : ℕ) (is : List Instr) → j ≤ n
    → tail j false f m at ≡ Some is → tail n first f m at ≡ Some is
unfolding tail
wider zero n first f m at is le h = absurd cc
wider (suc j) zero first f m at is le h = absurd (omega arith)
wider (suc j) (suc n) first f m at is le h =
    by_item (λ k js g. wider j n false f m ((at + k) % 2 ^ 64) js (omega arith) g)
    (fetched_at m at) h
  where
    short : ℕ → Option (List Instr)
    short k = tail j false f m ((at + k) % 2 ^ 64)

    long : ℕ → Option (List Instr)
    long k = tail n false f m ((at + k) % 2 ^ 64)

    before : ((k : ℕ) (js : List Instr) → short k ≡ Some js → long k ≡ Some js) → (i : Instr)
        (k : ℕ) (o : Option (List Instr)) → short k ≡ o → prepend_instr i o ≡ Some is
        → prepend_instr i (long k) ≡ Some is
    before more i k None e g = absurd cc
    before more i k (Some js) e g = ap (prepend_instr i) (more k js e) ∙ g

    go : ((k : ℕ) (js : List Instr) → short k ≡ Some js → long k ≡ Some js) → (x : FetchedInstr)
        (r : Role) → by_role short false x r ≡ Some is → by_role long first x r ≡ Some is
    go more x Opens g = absurd cc
    go more x Restores g = before more x.instr x.size (short x.size) refl g
    go more x Ends g = g
    go more x Other g = absurd cc

    by_item : ((k : ℕ) (js : List Instr) → short k ≡ Some js → long k ≡ Some js)
        → (o : Option FetchedInstr) → from_item short f false o ≡ Some is
        → from_item long f first o ≡ Some is
    by_item more None g = absurd cc
    by_item more (Some x) g = go more x (role_of f x.plain x.instr) g

-- ---- the first instruction

pub record TailStep (f : ℕ) (m : Memory) (at : ℕ) (x : FetchedInstr)
    (is : List Instr) : Type 0 where
  pub rest : List Instr
  pub all : x.instr ∷ rest ≡ is
  pub role : is_other (role_of f x.plain x.instr) ≡ false
  pub next : rest ≢ [] → tail_at f m (at + x.size) ≡ Some rest

opens_other : (r : Role) → is_opens r ≡ true → is_other r ≡ false
opens_other Opens e = refl
opens_other Restores e = absurd (false≢true e)
opens_other Ends e = absurd (false≢true e)
opens_other Other e = absurd (false≢true e)

restores_other : (r : Role) → is_restores r ≡ true → is_other r ≡ false
restores_other Opens e = absurd (false≢true e)
restores_other Restores e = refl
restores_other Ends e = absurd (false≢true e)
restores_other Other e = absurd (false≢true e)

pub tail_step : (f : ℕ) (m : Memory) (at : ℕ) (x : FetchedInstr) (is : List Instr)
    → at + x.size < 2 ^ 64 → fetched_at m at ≡ Some x → tail_at f m at ≡ Some is
    → TailStep f m at x is
unfolding tail_at
tail_step f m at x is low there h = go
    (taken 0xFFFF_FFFF_FFFF_FFFF 0xFFFF_FFFF_FFFF_FFFE true f m at x
    is (omega arith) there h)
  where
    go : Taken 0xFFFF_FFFF_FFFF_FFFE f m at x is → TailStep f m at x is
    go t = record {
      rest = t.rest;
      all = t.all;
      role = elim t.how [
        | inl s ↦ ap is_other s.0
        | inr g ↦ elim g.0 [
          | inl r ↦ restores_other (role_of f x.plain x.instr) r
          | inr r ↦ opens_other (role_of f x.plain x.instr) r
        ]
      ];
      next = λ ne. elim t.how [
        | inl s ↦ absurd (ne s.1)
        | inr g ↦
            let wraps : (at + x.size) % 2 ^ 64 ≡ at + x.size = omega arith in
            wider 0xFFFF_FFFF_FFFF_FFFE 0xFFFF_FFFF_FFFF_FFFF true f m (at + x.size) t.rest
            (omega arith) (subst (λ k. tail 0xFFFF_FFFF_FFFF_FFFE false f m k ≡ Some t.rest) wraps
            g.1)
      ];
    }

-- what belongs to an epilogue loads no saved register
pub no_load : (f offset : ℕ) (ops : List UnwindOperation) (plain : Bool) (i : Instr)
    → is_other (role_of f plain i) ≡ false → restored_by f offset ops i ≡ None
no_load f offset ops plain (instrs.Move W64 (places.Register q) (operands.Memory a)) e =
    absurd (false≢true (sym e))
no_load f offset ops plain i e = refl
