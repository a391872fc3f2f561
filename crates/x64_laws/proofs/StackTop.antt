-- What PUSH, POP, CALL and RET do to the stack's top.
use Rattle.std.proofs.Common.{◌≡◌, ◌≢◌, ℕ, ◌+◌, ◌-◌, ◌*◌, ◌%◌, ◌^◌, ◌<◌, pos, ◌+ℤ◌, ◌-ℤ◌, Ok, Err, refl, sym, ap, subst, ◌∙◌, arith, set, get_or, List, length, get_or-set_other}
use Rattle.std.specs.Prelude.{IfOk, IsOkAnd}
use Rattle.std.proofs.lemmas.List.{length-set}
use Rattle.std.proofs.lemmas.Int.{ints}
use Rattle.seh_num.specs.Answers.{◌>>=◌}
use Rattle.x64_laws.specs.Words.{W64, limit, low, wrapped, Reg, number, merged}
use Rattle.x64_instr.specs.declared.register.Reg.TheVariants.{Rsp}
use Rattle.x64_machine.specs.declared.cpu.Cpu.{Cpu}
use Rattle.x64_machine.specs.declared.cpu.Flags.{Flags}
use Rattle.x64_machine.specs.Effect.{State, Answer, register, load, store, push, pop, with_register, with_rip, relative}
use Rattle.x64_laws.specs.Destinations.{HasRegisters, unsigned_in}
use Rattle.x64_laws.specs.Stack.{lowered, HasOnTop, Raises, PushStoresBelowTop, PopTakesTop, RetGoesToTop, PopIsRefused, RetIsRefused, PopRaisesBack, RetRaisesBack, CallPushesAndJumps}
use Rattle.x64_laws.proofs.Lemmas.{low_below, low_is, twice, number_once}
use Rattle.x64_laws.proofs.Numbers.{wrapped_from}
use Rattle.x64_laws.proofs.Effects.{after, puts}

-- ---- answers

-- what is done to a state that was stored may be done before or after
passed : (a : Answer (Unit {0})) (t : State) (f : State → State)
    → (let x : Answer State = a >>= λ _. Ok (f t) in x)
    ≡ ((let y : Answer State = a >>= λ _. Ok t in y) >>= λ u. Ok (f u))
passed (Ok x) t f = refl
passed (Err e) t f = refl

eight_less : (n : ℕ) → (n + (2 ^ 64 - 8)) % 2 ^ 64 ≡ wrapped W64 (pos n -ℤ pos 8)
eight_less n =
    let e : pos n -ℤ pos 8 ≡ pos (n + (2 ^ 64 - 8)) -ℤ pos (limit W64 * 1) = omega (arith, ints) in
    sym (wrapped_from W64 (pos n -ℤ pos 8) (n + (2 ^ 64 - 8)) 1 e)

-- ---- PUSH

stored_below : (s : State) (at v n : ℕ)
    → store (record s { cpu = with_register W64 s.cpu Rsp n }) at W64 v
    ≡ (store s at W64 v >>= λ t. Ok (record t { cpu = with_register W64 t.cpu Rsp n }))
stored_below s at v n = passed _ _ (λ t. record t { cpu = with_register W64 t.cpu Rsp n })

pub push_stores_below_top : PushStoresBelowTop
push_stores_below_top s from lt =
    let v = register s.cpu from in
    let n = register s.cpu Rsp in
    let at : ℕ = (n + (2 ^ 64 - 8)) % 2 ^ 64 in
    let z : n + (2 ^ 64 - 8) ≡ n + 0 + (2 ^ 64 - 8) = omega arith in
    let there : at ≡ (n + 0 + (2 ^ 64 - 8)) % 2 ^ 64 = ap (λ (k : ℕ). k % 2 ^ 64) z in
    stored_below s at v at
    ∙ ap (λ (k : ℕ). store s k W64 v
    >>= λ t. Ok (record t { cpu = with_register W64 t.cpu Rsp at })) there
    ∙ ap (λ (k : ℕ). store s ((n + 0 + (2 ^ 64 - 8)) % 2 ^ 64) W64 k
    >>= λ t. Ok (record t { cpu = with_register W64 t.cpu Rsp at })) (sym (low_is W64 v lt))
    ∙ lowers s ((n + 0 + (2 ^ 64 - 8)) % 2 ^ 64) (low W64 v)
  where
    lowers_it : (a : Answer (Unit {0})) (t : State)
        → ((let x : Answer State = a >>= λ _. Ok t in x) >>= λ u. Ok (record u {
          cpu = with_register W64 u.cpu Rsp (wrapped W64 (pos (register t.cpu Rsp) -ℤ pos 8));
        })) ≡ ((let x : Answer State = a >>= λ _. Ok t in x) >>= λ u. Ok (lowered u))
    lowers_it (Ok x) t = refl
    lowers_it (Err e) t = refl

    lowers : (s : State) (at v : ℕ) → (store s at W64 v >>= λ t. Ok (record t {
      cpu = with_register W64 t.cpu Rsp ((register s.cpu Rsp + (2 ^ 64 - 8)) % 2 ^ 64);
    })) ≡ (store s at W64 v >>= λ t. Ok (lowered t))
    lowers s at v =
        ap (λ (k : ℕ). store s at W64 v
        >>= λ t. Ok (record t { cpu = with_register W64 t.cpu Rsp k }))
        (eight_less (register s.cpu Rsp)) ∙ lowers_it _ _

-- ---- POP and RET

-- RSP risen by 8
abbrev raised : State → State
raised s = record s {
  cpu = with_register W64 s.cpu Rsp ((register s.cpu Rsp + 8) % 2 ^ 64);
}

abbrev popped_by : State → Answer ℕ → Answer (ℕ × State)
popped_by s l = l >>= λ x. Ok (x, raised s)

abbrev with_whole : State → Reg → ℕ → Flags → State
with_whole s to k f = record s {
  cpu = record { registers = set s.cpu.registers (number to) k; rip = s.cpu.rip; flags = f };
}

pop_top : (s : State) (v : ℕ) → HasOnTop s v → pop s ≡ Ok (v, raised s)
pop_top s v e = ap (popped_by s) e

record Risen (s : State) : Type 0 where
  many : HasRegisters (raised s)
  top : register (raised s).cpu Rsp ≡ wrapped W64 (pos (register s.cpu Rsp) +ℤ pos 8)
  others : (r : Reg) → r ≢ Rsp → register (raised s).cpu r ≡ register s.cpu r

risen : (s : State) → HasRegisters s → Risen s
risen s h =
    let n : ℕ = (register s.cpu Rsp + 8) % 2 ^ 64 in
    let small : n < limit W64 = low_below W64 (register s.cpu Rsp + 8) in
    let p = puts s W64 Rsp n (λ m. m ≡ n) s.cpu.flags s.cpu.flags h small refl refl in
    let e : n % 2 ^ 64 ≡ n = omega arith in
    record {
      many = length-set s.cpu.registers (number Rsp) (merged W64 (register s.cpu Rsp) n) ∙ h;
      top = p.above ∙ ap (low W64) p.result ∙ e;
      others = p.others;
    }

pub pop_takes_top : PopTakesTop
pop_takes_top s to v h is =
    let u = raised s in
    let first = risen s h in
    let n = low W64 v in
    let p = puts u W64 to n (λ m. m ≡ n) s.cpu.flags s.cpu.flags first.many (low_below W64 v) refl
    refl in
    let t = after u W64 to n s.cpu.flags in
    let taken : (unsigned_in W64 t to ≡ n) × (t.cpu.rip ≡ s.cpu.rip) × Raises s (λ r. r ≡ to) t = (
      p.result,
      refl,
      record {
        top = λ d. p.others Rsp d ∙ first.top;
        others = λ r d e. p.others r d ∙ first.others r e;
        flags = refl;
        memory = refl;
      },
    ) in
    let Q : State → Type 0 = λ t. (unsigned_in W64 t to ≡ n) × (t.cpu.rip ≡ s.cpu.rip)
    × Raises s (λ r. r ≡ to) t in
    subst (λ (a : Answer (ℕ × State)).
    IsOkAnd (a >>= λ x. Ok (record x.1 { cpu = with_register W64 x.1.cpu to x.0 })) Q)
    (sym (pop_top s v is))
    (subst (λ (k : ℕ). Q (with_whole u to k s.cpu.flags)) (twice W64 v) taken)

pub ret_goes_to_top : RetGoesToTop
ret_goes_to_top s v h is =
    let u = raised s in
    let first = risen s h in
    let Q : State → Type 0 = λ t. (t.cpu.rip ≡ v) × Raises s (λ r. ⊥) t in
    let gone : Q (with_rip u v) = (
      refl,
      record {
        top = λ d. first.top;
        others = λ r d e. first.others r e;
        flags = refl;
        memory = refl;
      },
    ) in
    subst (λ (a : Answer (ℕ × State)). IsOkAnd (a >>= λ x. Ok (with_rip x.1 x.0)) Q)
    (sym (pop_top s v is)) gone

pub pop_is_refused : PopIsRefused
pop_is_refused to s e is = ap (λ (l : Answer ℕ). popped_by s l
    >>= λ x. Ok (record x.1 { cpu = with_register W64 x.1.cpu to x.0 })) is

pub ret_is_refused : RetIsRefused
ret_is_refused s e is =
    ap (λ (l : Answer ℕ). popped_by s l >>= λ x. Ok (with_rip x.1 x.0)) is

-- ---- CALL

pub call_pushes_and_jumps : CallPushesAndJumps
call_pushes_and_jumps s r d is =
    goes _ _ ∙ ap (λ (v : ℕ). push s v >>= λ t. Ok (with_rip t (relative t.cpu d))) (sym is)
  where
    goes : (a : Answer (Unit {0})) (t : State)
        → ((let x : Answer State = a >>= λ _. Ok t in x)
        >>= λ u. Ok (with_rip u (relative t.cpu d)))
        ≡ ((let x : Answer State = a >>= λ _. Ok t in x)
        >>= λ u. Ok (with_rip u (relative u.cpu d)))
    goes (Ok x) t = refl
    goes (Err e) t = refl

-- ---- RSP after both

-- where the next number is pushed, and the registers with RSP there
abbrev below_top : State → ℕ
below_top s = (register s.cpu Rsp + (2 ^ 64 - 8)) % 2 ^ 64

abbrev with_lower : State → Cpu
with_lower s = with_register W64 s.cpu Rsp (below_top s)

-- RSP lowered and risen
back : (s t : State) → HasRegisters s → register s.cpu Rsp < 2 ^ 64
    → t.cpu.registers ≡ (with_lower s).registers
    → register (raised t).cpu Rsp ≡ register s.cpu Rsp
back s t h lt e =
    let at = below_top s in
    let small : at < limit W64 = low_below W64 (register s.cpu Rsp + (2 ^ 64 - 8)) in
    let p = puts s W64 Rsp at (λ m. m ≡ at) s.cpu.flags s.cpu.flags h small refl refl in
    let many : HasRegisters t = ap (λ (xs : List ℕ). length xs) e
    ∙ length-set s.cpu.registers (number Rsp) (merged W64 (register s.cpu Rsp) at) ∙ h in
    let there : register t.cpu Rsp ≡ at = ap (λ (xs : List ℕ). get_or xs (number Rsp) 0) e
    ∙ p.above ∙ ap (low W64) p.result ∙ (let z : at % 2 ^ 64 ≡ at = omega arith in z) in
    (risen t many).top ∙ ap (λ (n : ℕ). (n + 8) % 2 ^ 64) there
    ∙ (let z : (at + 8) % 2 ^ 64 ≡ register s.cpu Rsp = omega arith in z)

many_after : (s t : State) → HasRegisters s → t.cpu.registers ≡ (with_lower s).registers
    → HasRegisters (raised t)
many_after s t h e =
    length-set t.cpu.registers (number Rsp)
    (merged W64 (register t.cpu Rsp) ((register t.cpu Rsp + 8) % 2 ^ 64))
    ∙ ap (λ (xs : List ℕ). length xs) e
    ∙ length-set s.cpu.registers (number Rsp) (merged W64 (register s.cpu Rsp) (below_top s)) ∙ h

abbrev HasStackPointerOf : State → State → Type 0
HasStackPointerOf s u = register u.cpu Rsp ≡ register s.cpu Rsp

-- a push is a store with RSP lowered
abbrev pushed_over : State → State → State
pushed_over s t = record t { cpu = with_lower s }

push_over : (s : State) (v : ℕ) → push s v
    ≡ (store s (below_top s) W64 v >>= λ t. Ok (pushed_over s t))
push_over s v = passed _ _ (pushed_over s)

-- what comes after a push, and after a load
after_pushed : (s : State) (v : ℕ) (f : State → Answer State) (P : State → Type 0)
    → ((t : State) → IfOk (f (pushed_over s t)) P) → IfOk (push s v >>= f) P
after_pushed s v f P h = subst (λ (a : Answer State). IfOk (a >>= f) P) (sym (push_over s v))
    (go (store s (below_top s) W64 v))
  where
    go : (a : Answer State)
        → IfOk ((let x : Answer State = a >>= λ t. Ok (pushed_over s t) in x) >>= f) P
    go (Ok t) = h t
    go (Err e) = tt

after_loaded : (l : Answer ℕ) (t : State) (f : ℕ × State → State) (P : State → Type 0)
    → ((v : ℕ) → P (f (v, raised t))) → IfOk (popped_by t l >>= λ x. Ok (f x)) P
after_loaded (Ok v) t f P h = h v
after_loaded (Err e) t f P h = tt

pub pop_raises_back : PopRaisesBack
pop_raises_back s from to h lt other =
    after_pushed s (register s.cpu from)
    (λ t. pop t >>= λ x. Ok (record x.1 { cpu = with_register W64 x.1.cpu to x.0 }))
    (HasStackPointerOf s) (λ t. taken (pushed_over s t) refl)
  where
    taken : (t : State) → t.cpu.registers ≡ (with_lower s).registers
        → IfOk (pop t >>= λ x. Ok (record x.1 { cpu = with_register W64 x.1.cpu to x.0 }))
        (HasStackPointerOf s)
    taken t e =
        let u = raised t in
        let many = many_after s t h e in
        after_loaded (load t.memory (register t.cpu Rsp) W64) t
        (λ x. record x.1 { cpu = with_register W64 x.1.cpu to x.0 }) (HasStackPointerOf s)
        (λ v. get_or-set_other u.cpu.registers (number to) (number Rsp)
        (merged W64 (register u.cpu to) v) 0 (λ z. other (sym (number_once Rsp to z)))
        ∙ back s t h lt e)

pub ret_raises_back : RetRaisesBack
ret_raises_back s d h lt =
    ap_if (push s s.cpu.rip)
    (after_pushed s s.cpu.rip
    (λ t. pop (with_rip t (relative s.cpu d)) >>= λ x. Ok (with_rip x.1 x.0))
    (HasStackPointerOf s) (λ t. taken (pushed_over s t) refl))
  where
    taken : (t : State) → t.cpu.registers ≡ (with_lower s).registers
        → IfOk (pop (with_rip t (relative s.cpu d)) >>= λ x. Ok (with_rip x.1 x.0))
        (HasStackPointerOf s)
    taken t e =
        let u = with_rip t (relative s.cpu d) in
        after_loaded (load u.memory (register u.cpu Rsp) W64) u (λ x. with_rip x.1 x.0)
        (HasStackPointerOf s) (λ v. back s u h lt e)

    ap_if : (a : Answer State)
        → IfOk (a >>= λ t. pop (with_rip t (relative s.cpu d)) >>= λ x. Ok (with_rip x.1 x.0))
        (HasStackPointerOf s)
        → IfOk ((let y : Answer State = a >>= λ t. Ok (with_rip t (relative s.cpu d)) in y)
        >>= λ t. pop t >>= λ x. Ok (with_rip x.1 x.0)) (HasStackPointerOf s)
    ap_if (Ok t) h = h
    ap_if (Err e) h = tt
