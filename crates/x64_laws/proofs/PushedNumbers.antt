-- The number that PUSH or CALL puts on the stack's top, and POP or RET takes.
use Rattle.std.proofs.Common.{◌≡◌, ◌≢◌, ℕ, ◌+◌, ◌-◌, ◌*◌, ◌%◌, ◌^◌, ◌<◌, pos, ◌-ℤ◌, Ok, Err, refl, sym, ap, subst, ◌∙◌, arith, inl, inr}
use Rattle.std.specs.Prelude.{Result, IfOk, IsOkAnd}
use Rattle.std.proofs.lemmas.List.{length-set}
use Rattle.std.proofs.lemmas.Bool.{cases_eq}
use Rattle.std.proofs.lemmas.Int.{ints}
use Rattle.seh_num.specs.Answers.{◌>>=◌}
use Rattle.flat_memory.specs.declared.access.RefusedAccess.{RefusedAccess}
use Rattle.flat_memory.specs.Memory.{stored, after_store}
use Rattle.flat_memory.proofs.Stores.{loads_what_was_stored}
use Rattle.x64_laws.specs.Words.{W64, limit, low, wrapped, Reg, number, merged}
use Rattle.x64_instr.specs.declared.register.Reg.TheVariants.{Rsp}
use Rattle.x64_machine.specs.Effect.{State, Answer, register, granted, load, push, pop, with_register, with_rip, target_of}
use Rattle.x64_laws.specs.Destinations.{HasRegisters, unsigned_in, Puts}
use Rattle.x64_laws.specs.Addressing.{from_next}
use Rattle.x64_laws.specs.Stack.{HasOnTop}
use Rattle.x64_laws.specs.PushedNumbers.{over_memory, IsBack, PushPutsOnTop, PopTakesPushed, CallPutsReturnAddress, RetTakesReturnAddress}
use Rattle.x64_laws.proofs.Lemmas.{number_once, low_below}
use Rattle.x64_laws.proofs.Numbers.{wrapped_from}
use Rattle.x64_laws.proofs.Effects.{after, puts}
use Rattle.x64_laws.proofs.Addresses.{next_is}

-- ---- the states

-- where the next number is pushed
abbrev below_top : State → ℕ
below_top s = (register s.cpu Rsp + (2 ^ 64 - 8)) % 2 ^ 64

abbrev pushed : State → ℕ → State
pushed s v = record s {
  cpu = with_register W64 s.cpu Rsp (below_top s);
  memory = after_store s.memory (below_top s) W64 v;
}

-- RSP risen by 8
abbrev raised : State → State
raised t = record t {
  cpu = with_register W64 t.cpu Rsp ((register t.cpu Rsp + 8) % 2 ^ 64);
}

-- what holds after a push that isn't refused holds if it isn't
if_pushed : (s : State) (v : ℕ) (P : State → Type 0)
    → (stored s.memory (below_top s) W64 ≡ Ok tt → P (pushed s v)) → IfOk (push s v) P
if_pushed s v P h = go (stored s.memory (below_top s) W64) h
  where
    go : (r : Result (Unit {0}) RefusedAccess) → (r ≡ Ok tt → P (pushed s v))
        → IfOk (let a : Answer State = granted r >>= λ _. Ok (pushed s v) in a) P
    go (Ok x) h = h refl
    go (Err e) h = tt

below_small : (s : State) → below_top s < limit W64
below_small s = low_below W64 (register s.cpu Rsp + (2 ^ 64 - 8))

top_register : (s : State) (v : ℕ) → HasRegisters s → register (pushed s v).cpu Rsp ≡ below_top s
top_register s v h =
    let p = puts s W64 Rsp (below_top s) (λ n. n ≡ below_top s) s.cpu.flags s.cpu.flags h
    (below_small s) refl refl in
    p.above ∙ ap (low W64) p.result
    ∙ (let e : below_top s % 2 ^ 64 ≡ below_top s = omega arith in e)

on_top : (s : State) (v : ℕ) → HasRegisters s → stored s.memory (below_top s) W64 ≡ Ok tt
    → HasOnTop (pushed s v) (low W64 v)
on_top s v h ok =
    ap (λ (at : ℕ). load (pushed s v).memory at W64) (top_register s v h)
    ∙ ap granted (loads_what_was_stored s.memory (below_top s) v W64 (below_small s) ok)

eight_less : (n : ℕ) → (n + (2 ^ 64 - 8)) % 2 ^ 64 ≡ wrapped W64 (pos n -ℤ pos 8)
eight_less n =
    let e : pos n -ℤ pos 8 ≡ pos (n + (2 ^ 64 - 8)) -ℤ pos (limit W64 * 1) = omega (arith, ints) in
    sym (wrapped_from W64 (pos n -ℤ pos 8) (n + (2 ^ 64 - 8)) 1 e)

-- after a push and a rise each register is what it was
same_registers : (s : State) (v : ℕ) → HasRegisters s → register s.cpu Rsp < 2 ^ 64 → (r : Reg)
    → register (raised (pushed s v)).cpu r ≡ register s.cpu r
same_registers s v h lt r =
    let t = pushed s v in
    let k : HasRegisters t = length-set s.cpu.registers (number Rsp) (merged W64 0 (below_top s))
    ∙ h in
    let n : ℕ = (register t.cpu Rsp + 8) % 2 ^ 64 in
    let small : n < limit W64 = low_below W64 (register t.cpu Rsp + 8) in
    let first = puts s W64 Rsp (below_top s) (λ m. m ≡ below_top s) s.cpu.flags s.cpu.flags h
    (below_small s) refl refl in
    let second = puts t W64 Rsp n (λ m. m ≡ n) t.cpu.flags t.cpu.flags k small refl refl in
    elim (cases_eq (number r) (number Rsp)) [
      | inl e ↦
          let is : r ≡ Rsp = number_once r Rsp e in
          let top = top_register s v h in
          let back : n % 2 ^ 64 ≡ register s.cpu Rsp = omega arith in
          ap (register (raised t).cpu) is ∙ second.above ∙ ap (low W64) second.result ∙ back
          ∙ sym (ap (register s.cpu) is)
      | inr d ↦
          let not : r ≢ Rsp = λ e. d (ap number e) in
          second.others r not ∙ first.others r not
    ]

-- POP of what is on the top
pop_top : (t : State) (v : ℕ) → HasOnTop t v → pop t ≡ Ok (v, raised t)
pop_top t v e = ap (λ (l : Answer ℕ). l >>= λ x. Ok (x, raised t)) e

-- ---- PUSH and POP

pub push_puts_on_top : PushPutsOnTop
push_puts_on_top s from h =
    let v = register s.cpu from in
    if_pushed s v (λ t.
    Puts (over_memory s t) W64 Rsp (λ n. n ≡ wrapped W64 (pos (register s.cpu Rsp) -ℤ pos 8))
    s.cpu.flags t × HasOnTop t (unsigned_in W64 s from))
    (λ ok. (
      puts (over_memory s (pushed s v)) W64 Rsp (below_top s)
          (λ n. n ≡ wrapped W64 (pos (register s.cpu Rsp) -ℤ pos 8)) s.cpu.flags s.cpu.flags h
          (below_small s) (eight_less (register s.cpu Rsp)) refl,
      on_top s v h ok,
    ))

pub pop_takes_pushed : PopTakesPushed
pop_takes_pushed s from to h lt =
    let v = register s.cpu from in
    let n = low W64 v in
    let P : ℕ → Type 0 = λ m. m ≡ n in
    let t = pushed s v in
    let u = raised t in
    let k : HasRegisters u
    = length-set t.cpu.registers (number Rsp) (merged W64 0 ((register t.cpu Rsp + 8) % 2 ^ 64))
    ∙ length-set s.cpu.registers (number Rsp) (merged W64 0 (below_top s)) ∙ h in
    let third = puts u W64 to n P s.cpu.flags s.cpu.flags k (low_below W64 v) refl refl in
    let taken : Puts (over_memory s t) W64 to P s.cpu.flags (after u W64 to n s.cpu.flags)
    = record {
      result = third.result;
      above = third.above;
      others = λ r d. third.others r d ∙ same_registers s v h lt r;
      flags = refl;
      rip = refl;
      memory = refl;
    } in
    if_pushed s v
    (λ t. IsOkAnd (pop t >>= λ x. Ok (record x.1 { cpu = with_register W64 x.1.cpu to x.0 }))
    (Puts (over_memory s t) W64 to P s.cpu.flags))
    (λ ok. subst (λ (a : Answer (ℕ × State)).
    IsOkAnd (a >>= λ x. Ok (record x.1 { cpu = with_register W64 x.1.cpu to x.0 }))
    (Puts (over_memory s t) W64 to P s.cpu.flags))
    (sym (pop_top t n (on_top s v h ok))) taken)

-- ---- CALL and RET

-- what holds after a push holds with another RIP
if_called : (s : State) (v to : ℕ) (P : State → Type 0)
    → IfOk (push s v) (λ t. P (with_rip t to)) → IfOk (push s v >>= λ t. Ok (with_rip t to)) P
if_called s v to P h = go (push s v) h
  where
    go : (a : Answer State) → IfOk a (λ t. P (with_rip t to))
        → IfOk (a >>= λ t. Ok (with_rip t to)) P
    go (Ok t) h = h
    go (Err e) h = tt

pub call_puts_return_address : CallPutsReturnAddress
call_puts_return_address s d length h =
    let next = (s.cpu.rip + length) % 2 ^ 64 in
    let t = with_rip s next in
    let to = (next + d) % 2 ^ 64 in
    let P : State → Type 0 = λ u. (u.cpu.rip ≡ from_next s length d) × HasOnTop u next in
    let same : low W64 next ≡ next = omega arith in
    if_called t next to P
    (if_pushed t next (λ u. P (with_rip u to)) (λ ok. (
      next_is s.cpu.rip length d,
      subst (HasOnTop (pushed t next)) same (on_top t next h ok),
    )))

pub ret_takes_return_address : RetTakesReturnAddress
ret_takes_return_address s to h lt low' = go (target_of s to)
  where
    returned : (to : ℕ) → stored s.memory (below_top s) W64 ≡ Ok tt
        → IsOkAnd (pop (with_rip (pushed s s.cpu.rip) to) >>= λ x. Ok (with_rip x.1 x.0)) (IsBack s)
    returned to ok =
        let v = s.cpu.rip in
        let t = with_rip (pushed s v) to in
        let same : low W64 v ≡ v = omega arith in
        let back : IsBack s (with_rip (raised t) v) = record {
          rip = refl;
          registers = same_registers s v h lt;
          flags = refl;
        } in
        subst (λ (a : Answer (ℕ × State)). IsOkAnd (a >>= λ x. Ok (with_rip x.1 x.0)) (IsBack s))
        (sym (pop_top t v (subst (HasOnTop t) same (on_top s v h ok)))) back

    go : (a : Answer ℕ) → IfOk (a >>= λ target. push s s.cpu.rip >>= λ t. Ok (with_rip t target))
        (λ t. IsOkAnd (pop t >>= λ x. Ok (with_rip x.1 x.0)) (IsBack s))
    go (Ok target) = if_called s s.cpu.rip target
        (λ t. IsOkAnd (pop t >>= λ x. Ok (with_rip x.1 x.0)) (IsBack s))
        (if_pushed s s.cpu.rip
        (λ t. IsOkAnd (pop (with_rip t target) >>= λ x. Ok (with_rip x.1 x.0)) (IsBack s))
        (λ ok. returned target ok))
    go (Err e) = tt
