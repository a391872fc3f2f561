-- Where an epilogue is, its trailing part is what the unwinding finds.
use Rattle.std.proofs.Common.{◌≡◌, ◌≢◌, ℕ, zero, suc, ◌+◌, ◌-◌, ◌%◌, ◌^◌, ◌<◌, ◌≤◌, Bool, true, false, ◌&&◌, eqb, List, [], ◌∷◌, Option, Some, None, refl, sym, ap, subst, ◌∙◌, arith}
use Rattle.std.proofs.lemmas.Bool.{false≢true, and_parts, or_left, or_right, and_from, eq-eqb, eqb-true}
use Rattle.frame_rules.specs.Words.{Memory, W64, Rsp, Add, Indirect, Instr, UnwindOperation, Role, Opens, Restores, Ends, Other, FetchedInstr, fetched_at, role_of, opening, is_of, prepend_instr, by_role, from_item, tail, pushes, allocation, is_pop, is_end, pops, gives_back, is_epilogue, Mode, Body, Leaving, only_if, is_ends, are_restored, leaving, from_body, and_then, following, is_body, HasItems}
use Rattle.x64_instr.specs.declared.operand.RegisterOrMemory.TheVariants as places
use Rattle.x64_instr.specs.declared.operand.Operand.TheVariants as operands
use Rattle.x64_instr.specs.declared.instruction.Instr.TheVariants as instrs
use Rattle.frame_rules.proofs.Bodies.{only, Next, next_mode, pop_role}

pub items_rise : (m : Memory) (at : ℕ) (xs : List FetchedInstr) (to : ℕ) → HasItems m at xs to
    → at ≤ to
items_rise m at [] to h = omega (arith, h)
items_rise m at (x ∷ xs) to h = let r = items_rise m (at + x.size) xs to h.2 in omega arith

-- ---- one instruction

role_end : (f : ℕ) (plain : Bool) (i : Instr) → is_ends (role_of f plain i) ≡ true → is_end i ≡ true
role_end f plain instrs.Return e = refl
role_end f plain (instrs.Jump (Indirect (places.Memory a))) e = refl
role_end f plain (instrs.LoadAddress W64 Rsp a) e = absurd (none (is_of f a.base a.index) e)
  where
    none : (b : Bool) → is_ends (opening b) ≡ true → ⊥
    none true e = false≢true e
    none false e = false≢true e
role_end f plain (instrs.Arithmetic Add W64 (places.Register Rsp) (operands.Immediate v)) e = absurd
    (false≢true e)
role_end f plain i e = absurd (false≢true e)

ends : (r : Role) → is_ends r ≡ true → r ≡ Ends
ends Ends e = refl
ends Opens e = absurd (false≢true e)
ends Restores e = absurd (false≢true e)
ends Other e = absurd (false≢true e)

pub some_same : {x y : Mode} → Some x ≡ Some y → x ≡ y
some_same e = cc

pub tail-more : (n j : ℕ) (first : Bool) (f : ℕ) (m : Memory) (at : ℕ) (x : FetchedInstr)
    → n ≡ j + 1 → fetched_at m at ≡ Some x → tail n first f m at
    ≡ by_role (λ k. tail j false f m ((at + k) % 2 ^ 64)) first x (role_of f x.plain x.instr)
unfolding tail
tail-more zero j first f m at x e h = absurd (omega arith)
tail-more (suc n) j first f m at x e h = let same : n ≡ j = omega arith in
    ap (from_item (λ k. tail n false f m ((at + k) % 2 ^ 64)) f first) h
    ∙ ap (λ p. by_role (λ k. tail p false f m ((at + k) % 2 ^ 64)) first x
    (role_of f x.plain x.instr)) same

-- ---- the rest of an epilogue

pub record Trails (f : ℕ) (m : Memory) (n at : ℕ) (first : Bool) (rs : List ℕ) : Type 0 where
  pub instrs : List Instr
  pub is : tail n first f m at ≡ Some instrs
  pub pops : pops rs instrs ≡ true

trails_end : (f offset : ℕ) (ops : List UnwindOperation) (m : Memory) (n at : ℕ) (first : Bool)
    (x : FetchedInstr) (to : Mode) → 0 < n → fetched_at m at ≡ Some x → leaving f [] x ≡ Some to
    → Trails f m n at first []
trails_end f offset ops m n at first x to lt here e =
    let is = (only (Some (Body [])) (is_ends (role_of f x.plain x.instr)) to e).0 in
    record {
      instrs = x.instr ∷ [];
      is = tail-more n (n - 1) first f m at x (omega arith) here
          ∙ ap (by_role (λ k. tail (n - 1) false f m ((at + k) % 2 ^ 64)) first x)
          (ends (role_of f x.plain x.instr) is);
      pops = role_end f x.plain x.instr is;
    }

pub trails : (f offset : ℕ) (ops : List UnwindOperation) (m : Memory) (rs : List ℕ) (n at to : ℕ)
    (first : Bool) (ys : List FetchedInstr) → to < 2 ^ 63 → to < at + n → HasItems m at ys to
    → is_body (following f offset ops ys (Leaving rs)) ≡ true → Trails f m n at first rs
trails f offset ops m rs n at to first [] lt fuel h b = absurd (false≢true b)
trails f offset ops m [] n at to first (x ∷ ys) lt fuel h b =
    let rise = items_rise m at (x ∷ ys) to h in
    let k = next_mode f offset ops x ys (Leaving []) b in
    trails_end f offset ops m n at first x k.to (omega arith) h.0 k.is
trails f offset ops m (r ∷ rs) n at to first (x ∷ ys) lt fuel h b =
    let rise = items_rise m (at + x.size) ys to h.2 in
    let pos = h.1 in
    let k = next_mode f offset ops x ys (Leaving (r ∷ rs)) b in
    let o = only (Some (Leaving rs)) (is_pop r x.instr) k.to k.is in
    let rest = subst (λ (md : Mode). is_body (following f offset ops ys md) ≡ true)
    (sym (some_same o.1)) k.rest in
    let more = trails f offset ops m rs (n - 1) (at + x.size) to false ys lt (omega arith) h.2
    rest in
    let wraps : (at + x.size) % 2 ^ 64 ≡ at + x.size = omega arith in
    record {
      instrs = x.instr ∷ more.instrs;
      is = tail-more n (n - 1) first f m at x (omega arith) h.0
          ∙ ap (by_role (λ k. tail (n - 1) false f m ((at + k) % 2 ^ 64)) first x)
          (pop_role f r x.plain x.instr o.0) ∙ ap
          (λ a. prepend_instr x.instr (tail (n - 1) false f m a)) wraps
          ∙ ap (prepend_instr x.instr) more.is;
      pops = and_from (is_pop r x.instr) (pops rs more.instrs) o.0 more.pops;
    }

-- ---- a whole epilogue

pub record IsTail (f offset : ℕ) (ops : List UnwindOperation) (m : Memory) (n at : ℕ) : Type 0 where
  pub instrs : List Instr
  pub is : tail n true f m at ≡ Some instrs
  pub epilogue : is_epilogue f offset ops instrs ≡ true

from_pops : (f offset : ℕ) (ops : List UnwindOperation) (is : List Instr) → allocation ops ≡ 0
    → pops (pushes ops) is ≡ true → is_epilogue f offset ops is ≡ true
from_pops f offset ops [] z p = absurd (none (pushes ops) p)
  where
    none : (rs : List ℕ) → pops rs [] ≡ true → ⊥
    none [] e = false≢true e
    none (r ∷ rs) e = false≢true e
from_pops f offset ops (x ∷ is) z p = or_right
    (gives_back f offset (allocation ops) x && pops (pushes ops) is)
    (eqb (allocation ops) 0 && pops (pushes ops) (x ∷ is))
    (and_from (eqb (allocation ops) 0) (pops (pushes ops) (x ∷ is)) (eq-eqb (allocation ops) 0 z) p)

-- where the body ends in an epilogue
pub record Opened (f offset : ℕ) (ops : List UnwindOperation) (m : Memory) (n at : ℕ)
    (rs : List ℕ) : Type 0 where
  pub restored : are_restored rs ops ≡ true
  pub is_there : IsTail f offset ops m n at

pub opens_here : (f offset : ℕ) (ops : List UnwindOperation) (m : Memory) (n at to : ℕ)
    (x : FetchedInstr) (ys : List FetchedInstr) (rs : List ℕ) → to < 2 ^ 63 → to < at + n
    → HasItems m at (x ∷ ys) to → is_body (following f offset ops (x ∷ ys) (Body rs)) ≡ true
    → role_of f x.plain x.instr ≢ Other → Opened f offset ops m n at rs
opens_here f offset ops m n at to x ys rs lt fuel h b other = go (role_of f x.plain x.instr) refl
  where
    k : Next f offset ops x ys (Body rs)
    k = next_mode f offset ops x ys (Body rs) b

    rise : at + x.size ≤ to
    rise = items_rise m (at + x.size) ys to h.2

    wraps : (at + x.size) % 2 ^ 64 ≡ at + x.size
    wraps = let p = h.1 in let r = rise in omega arith

    popping : only_if (leaving f (pushes ops) x) (are_restored rs ops && eqb (allocation ops) 0)
        ≡ Some k.to → Opened f offset ops m n at rs
    popping e =
        let o = only (leaving f (pushes ops) x) (are_restored rs ops && eqb (allocation ops) 0) k.to
        e in
        let p = and_parts (are_restored rs ops) (eqb (allocation ops) 0) o.0 in
        let t = trails f offset ops m (pushes ops) n at to true (x ∷ ys) lt fuel h
        (ap (λ (a : Option Mode). is_body (and_then (following f offset ops ys) a)) o.1
        ∙ k.rest) in
        record {
          restored = p.0;
          is_there = record {
            instrs = t.instrs;
            is = t.is;
            epilogue = from_pops f offset ops t.instrs (eqb-true (allocation ops) 0 p.1) t.pops;
          };
        }

    go : (r : Role) → role_of f x.plain x.instr ≡ r → Opened f offset ops m n at rs
    go Opens e =
        let o = only (Some (Leaving (pushes ops)))
        (are_restored rs ops && gives_back f offset (allocation ops) x.instr) k.to
        (sym (ap (from_body f offset ops rs x) e) ∙ k.is) in
        let p = and_parts (are_restored rs ops) (gives_back f offset (allocation ops) x.instr)
        o.0 in
        let t = trails f offset ops m (pushes ops) (n - 1) (at + x.size) to false ys lt
        (let q = h.1 in omega arith) h.2 (subst
        (λ (md : Mode). is_body (following f offset ops ys md) ≡ true) (sym (some_same o.1))
        k.rest) in
        record {
          restored = p.0;
          is_there = record {
            instrs = x.instr ∷ t.instrs;
            is = tail-more n (n - 1) true f m at x (let q = h.1 in let r = rise in omega arith) h.0
                ∙ ap (by_role (λ j. tail (n - 1) false f m ((at + j) % 2 ^ 64)) true x) e
                ∙ ap (λ a. prepend_instr x.instr (tail (n - 1) false f m a)) wraps
                ∙ ap (prepend_instr x.instr) t.is;
            epilogue = or_left (gives_back f offset (allocation ops) x.instr
                && pops (pushes ops) t.instrs) (eqb (allocation ops) 0
                && pops (pushes ops) (x.instr ∷ t.instrs))
                (and_from (gives_back f offset (allocation ops) x.instr)
                (pops (pushes ops) t.instrs) p.1 t.pops);
          };
        }
    go Restores e = popping (sym (ap (from_body f offset ops rs x) e) ∙ k.is)
    go Ends e = popping (sym (ap (from_body f offset ops rs x) e) ∙ k.is)
    go Other e = absurd (other e)

-- elsewhere there is none
pub no_tail : (n f : ℕ) (m : Memory) (at : ℕ) (x : FetchedInstr) → 0 < n → fetched_at m at ≡ Some x
    → role_of f x.plain x.instr ≡ Other → tail n true f m at ≡ None
no_tail n f m at x lt here e = tail-more n (n - 1) true f m at x (omega arith) here
    ∙ ap (by_role (λ k. tail (n - 1) false f m ((at + k) % 2 ^ 64)) true x) e
