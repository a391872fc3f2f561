-- Contexts, by the numbers of registers. A volatile register reads as 0 and isn't set.
use Rattle.std.specs.Prelude.{ℕ, ◌+◌, ◌-◌, ◌^◌, ◌%◌, Bool, true, false, ◌==◌, nat_lt, if◌then◌else◌, Option, Some, None, slice_index, slice_set}
use Rattle.x64_machine.specs.declared.context.Context.{Context}

-- where a nonvolatile register is among the kept ones
abbrev pub kept_index : ℕ → Option ℕ
kept_index n =
    if n == 4 then Some 0
    else (if n == 3 then Some 1
    else (if nat_lt n 5 then None
    else (if nat_lt n 8 then Some (n - 3)
    else (if nat_lt n 12 then None
    else (if nat_lt n 16 then Some (n - 7) else None)))))

-- RBX, RSP, RBP, RSI, RDI and R12 to R15
abbrev pub is_kept : Option ℕ → Bool
is_kept None = false
is_kept (Some k) = true

abbrev pub is_nonvolatile : ℕ → Bool
is_nonvolatile n = is_kept (kept_index n)

abbrev pub kept_at : Context → Option ℕ → ℕ
kept_at c None = 0
kept_at c (Some k) = slice_index c.kept k

abbrev pub with_kept_at : Context → Option ℕ → ℕ → Context
with_kept_at c None v = c
with_kept_at c (Some k) v = record c { kept = slice_set c.kept k v }

abbrev pub get : Context → ℕ → ℕ
get c n = kept_at c (kept_index n)

abbrev pub set : Context → ℕ → ℕ → Context
set c n v = with_kept_at c (kept_index n) v

abbrev pub rsp : Context → ℕ
rsp c = slice_index c.kept 0

abbrev pub with_rsp : Context → ℕ → Context
with_rsp c v = record c { kept = slice_set c.kept 0 v }

abbrev pub rsp_raised : Context → ℕ → Context
rsp_raised c n = with_rsp c ((rsp c + n) % 2 ^ 64)
