-- The worked states, by computing.
use Rattle.std.proofs.Common.{◌≡◌, ℕ, zero, suc, ◌+◌, ◌^◌, ◌<◌, List, [], ◌∷◌, length, refl, ap, arith, inl, inr}
use Rattle.std.specs.Prelude.{slice_index}
use Rattle.std.specs.List.{AllByRecursion}
use Rattle.flat_memory.specs.Memory.{executable, first_refused, with_number}
use Rattle.x64_instr.specs.Operands.{place}
use Rattle.x64_instr.specs.Spelling.{instr, after_size, after_prefixes, row, plain_row, two_byte_row}
use Rattle.virtual_unwind.specs.Tail.{fetched_at}
use Rattle.frame_rules.specs.Body.{Leaving}
use Rattle.frame_rules.specs.Codes.{depth}
use Rattle.frame_rules.specs.States.{registers, IsEntry, InBody}
use Rattle.frame_rules.specs.Rules.{IsRight, InPrologue, ops}
use Rattle.unwind_tails.specs.Instructions.{decoded}
use Rattle.unwind_check.specs.Fragments.{IsPartLeaving, joined}
use Rattle.unwind_check.specs.Laws.{rest_of, parts_of, IsFunctionOf, IsInEntry}
use Rattle.entry_states.specs.Worked.{code, entry, function, instr_at, first, pushed, allocated, cleared, given_back, StandRows, StateRows}
use Rattle.entry_states.proofs.Parts.{parts_begin, parts_continue}
use Rattle.entry_states.proofs.Entries.{entries_begin}

-- the numbers of a list are low
low : (n : ℕ) (xs : List ℕ) (r : ℕ) → 0 < n → AllByRecursion (λ v. v < n) xs → slice_index xs r < n
low n [] r some all = some
low n (x ∷ xs) zero some all = all.0
low n (x ∷ xs) (suc r) some all = low n xs r some all.1

is_entry : IsEntry (depth (ops function)) first
is_entry = record {
  length = refl;
  fits = λ r. low (2 ^ 64) first.cpu.registers r (omega arith) (
    omega arith,
    (
      omega arith,
      (
        omega arith,
        (
          omega arith,
          (
            omega arith,
            (
              omega arith,
              (
                omega arith,
                (
                  omega arith,
                  (
                    omega arith,
                    (
                      omega arith,
                      (
                        omega arith,
                        (
                          omega arith,
                          (
                            omega arith,
                            (
                              omega arith,
                              (omega arith, (omega arith, tt)),
                            ),
                          ),
                        ),
                      ),
                    ),
                  ),
                ),
              ),
            ),
          ),
        ),
      ),
    ),
  );
  high = omega arith;
  low = omega arith;
  writable = λ a le lt. refl;
  readable = λ a le lt. refl;
}

is_function : IsFunctionOf code 0x2000 0x200D entry.info function
unfolding executable fetched_at decoded place instr after_size after_prefixes row plain_row
    two_byte_row
is_function = record { info = refl; prologue = refl; rest = refl }

is_right : IsRight function
unfolding executable fetched_at place instr after_size after_prefixes row plain_row two_byte_row
is_right = record {
  offset = omega arith;
  codes = refl;
  prologue_size = refl;
  steps = (
    record { does = refl; sized = refl; ends = refl },
    (record { does = refl; sized = refl; ends = refl }, tt),
  );
  ordered = refl;
  allowed = refl;
  frame = λ ne. absurd (ne refl);
  body = refl;
}

in_prologue : InPrologue function first pushed 1
unfolding executable fetched_at place instr after_size after_prefixes row plain_row two_byte_row
    first_refused
in_prologue = record {
  done = instr_at 0x2000 ∷ [];
  left = instr_at 0x2001 ∷ [];
  parts = refl;
  before = omega arith;
  here = refl;
  runs = (pushed, refl, refl);
}

runs_prologue : (x : Unit {0}) → InBody 0 (ops function)
    (joined (parts_of code (entry ∷ []) entry)) first allocated allocated
unfolding executable fetched_at place instr after_size after_prefixes row plain_row two_byte_row
    first_refused
runs_prologue x =
    parts_begin function (parts_of code (entry ∷ []) entry) first allocated is_right is_entry
    (pushed, refl, (allocated, refl, refl))

stand_after_push : IsInEntry code (entry ∷ []) entry first pushed 1
stand_after_push = record {
  owner = entry;
  function = function;
  is = is_function;
  entered = is_entry;
  stands = (refl, inl in_prologue);
}

in_body : IsInEntry code (entry ∷ []) entry first allocated 5
unfolding executable fetched_at decoded place instr after_size after_prefixes row plain_row
    two_byte_row first_refused
in_body =
    entries_begin code (entry ∷ []) entry function first allocated (instr_at 0x2005)
    (instr_at 0x2007 ∷ instr_at 0x200B ∷ instr_at 0x200C ∷ []) is_function refl is_right is_entry
    (pushed, refl, (allocated, refl, refl)) refl refl

-- past xor eax,eax
cleared_body : InBody 0 (ops function) (joined (parts_of code (entry ∷ []) entry)) first allocated
    cleared
unfolding executable fetched_at decoded place instr after_size after_prefixes row plain_row
    two_byte_row first_refused
cleared_body =
    parts_continue function (parts_of code (entry ∷ []) entry) 0 first allocated allocated cleared
    0x2007 (instr_at 0x2005) [] (instr_at 0x2007 ∷ instr_at 0x200B ∷ instr_at 0x200C ∷ []) refl refl
    refl refl refl refl
    ((λ a le lt. (refl, refl)), (λ a le lt. (refl, refl)))
    (runs_prologue tt)

leaving : IsPartLeaving function (parts_of code (entry ∷ []) entry) (rest_of code entry) first
    given_back 6
unfolding executable fetched_at decoded place instr after_size after_prefixes row plain_row
    two_byte_row first_refused
leaving = record {
  following = allocated;
  runs = (pushed, refl, (allocated, refl, refl));
  from = cleared;
  done = instr_at 0x2005 ∷ [];
  run = instr_at 0x2007 ∷ [];
  left = instr_at 0x200B ∷ instr_at 0x200C ∷ [];
  to = Leaving (3 ∷ []);
  split = refl;
  mode = refl;
  mode_here = refl;
  leave = refl;
  here = refl;
  in_body = cleared_body;
  runs_on = (given_back, refl, refl);
  continues = λ e. (let n = ap length e in absurd (omega arith));
}

in_epilogue : IsInEntry code (entry ∷ []) entry first given_back 11
in_epilogue = record {
  owner = entry;
  function = function;
  is = is_function;
  entered = is_entry;
  stands = (refl, inr (record { past = 6; distance = refl; state = inr leaving }));
}

pub stand_rows : StandRows
stand_rows = (stand_after_push, in_body, in_epilogue)

pub state_rows : StateRows
state_rows = (in_prologue, leaving)
