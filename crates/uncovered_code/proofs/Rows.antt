-- The worked routines, by computing.
use Rattle.std.proofs.Common.{◌≡◌, ℕ, suc, ◌+◌, ◌-◌, ◌<◌, ◌≤◌, Bool, true, false, List, [], ◌∷◌, Option, Some, None, refl, sym, ap, subst, ◌∙◌, arith, inl, inr}
use Rattle.std.proofs.lemmas.Bool.{false≢true, agree_below, agree_below_at}
use Rattle.flat_memory.specs.Memory.{executable}
use Rattle.x64_instr.specs.declared.instruction.Instr.TheVariants as instrs
use Rattle.x64_instr.specs.Operands.{place}
use Rattle.x64_instr.specs.Spelling.{instr, after_size, after_prefixes, row, plain_row, two_byte_row}
use Rattle.virtual_unwind.specs.Tail.{FetchedInstr, fetched_at}
use Rattle.frame_rules.specs.Body.{Body, following, is_body}
use Rattle.frame_rules.specs.States.{HasItems}
use Rattle.uncovered_code.specs.References.{Code, sweep, is_uncovered}
use Rattle.uncovered_code.specs.Routines.{is_beginning, IsUncoveredRoutine, IsFrameless}
use Rattle.uncovered_code.specs.Worked.{clears_rbx, LosesRbx, Refers}

pub refers_row : Refers
unfolding sweep executable fetched_at place instr after_size after_prefixes row plain_row
    two_byte_row
refers_row = refl

-- a test that computes alike at each of some addresses
abbrev agreeing : (ℕ → Bool) → Bool → ℕ → ℕ → Bool
agreeing f b first n = agree_below (λ k. f (first + k)) (λ k. b) n

at_each : (f : ℕ → Bool) (b : Bool) (first n at : ℕ) → agreeing f b first n ≡ true → first ≤ at
    → at < first + n → f at ≡ b
at_each f b first n at e low high =
    let same : first + (at - first) ≡ at = omega arith in
    subst (λ k. f k ≡ b) same
    (agree_below_at (λ k. f (first + k)) (λ k. b) n (at - first) e (omega arith))

is_first_routine : IsUncoveredRoutine clears_rbx 0 4
unfolding sweep executable fetched_at place instr after_size after_prefixes row plain_row
    two_byte_row
is_first_routine = record {
  beginning = refl;
  some = omega arith;
  alone = λ at le lt. at_each (is_uncovered clears_rbx) true 0 4 at refl le lt;
  one = λ at lt lt'. at_each (is_beginning clears_rbx) false 1 3 at refl lt lt';
  ends = inr refl;
}

is_second_routine : IsUncoveredRoutine clears_rbx 4 9
unfolding sweep executable fetched_at place instr after_size after_prefixes row plain_row
    two_byte_row
is_second_routine = record {
  beginning = refl;
  some = omega arith;
  alone = λ at le lt. at_each (is_uncovered clears_rbx) true 4 5 at refl le lt;
  one = λ at lt lt'. at_each (is_beginning clears_rbx) false 5 4 at refl lt lt';
  ends = inl refl;
}

-- the decoded instruction at an address, or nothing
abbrev nothing : FetchedInstr
nothing = record { instr = instrs.NoOperation; size = 0; plain = false }

abbrev fetched_or : Option FetchedInstr → FetchedInstr
fetched_or None = nothing
fetched_or (Some x) = x

abbrev at_address : ℕ → FetchedInstr
at_address at = fetched_or (fetched_at clears_rbx.memory at)

-- add eax,-72; ret
first_is_frameless : IsFrameless clears_rbx 0 4
unfolding executable fetched_at place instr after_size after_prefixes row plain_row two_byte_row
first_is_frameless = record {
  rest = at_address 0 ∷ at_address 3 ∷ [];
  there = (refl, omega arith, (refl, omega arith, refl));
  right = refl;
}

-- mov eax,imm32; nop; ret
inner_is_frameless : IsFrameless clears_rbx 2 9
unfolding executable fetched_at place instr after_size after_prefixes row plain_row two_byte_row
inner_is_frameless = record {
  rest = at_address 2 ∷ at_address 7 ∷ at_address 8 ∷ [];
  there = (refl, omega arith, (refl, omega arith, (refl, omega arith, refl)));
  right = refl;
}

-- what begins with xor ebx,ebx isn't a body without a frame
writes_rbx : (xs : List FetchedInstr)
    → is_body (following 0 0 [] (at_address 4 ∷ xs) (Body [])) ≡ false
unfolding executable fetched_at place instr after_size after_prefixes row plain_row two_byte_row
writes_rbx xs = refl

second_is_not : (rest : List FetchedInstr) → HasItems clears_rbx.memory 4 rest 9
    → is_body (following 0 0 [] rest (Body [])) ≡ true → ⊥
second_is_not [] there right = absurd (omega (arith, there))
second_is_not (x ∷ xs) there right =
    let same : at_address 4 ≡ x = ap fetched_or there.0 in
    false≢true (sym (writes_rbx xs)
    ∙ (ap (λ (y : FetchedInstr). is_body (following 0 0 [] (y ∷ xs) (Body []))) same ∙ right))

pub loses_rbx : LosesRbx
loses_rbx = (
  is_first_routine,
  first_is_frameless,
  is_second_routine,
  λ h. second_is_not h.rest h.there h.right,
  inner_is_frameless,
)
