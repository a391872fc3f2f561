-- Vector registers of contexts, by their numbers. A volatile one isn't set.
use Rattle.std.specs.Prelude.{ℕ, ◌-◌, nat_lt, if◌then◌else◌, List, Option, Some, None, slice_set}

-- where a nonvolatile one, XMM6 to XMM15, is among them
abbrev pub vector_index : ℕ → Option ℕ
vector_index n = if nat_lt n 6 then None else (if nat_lt n 16 then Some (n - 6) else None)

abbrev pub with_vector_at : List ℕ → Option ℕ → ℕ → List ℕ
with_vector_at vs None v = vs
with_vector_at vs (Some k) v = slice_set vs k v

abbrev pub with_vector : List ℕ → ℕ → ℕ → List ℕ
with_vector vs n v = with_vector_at vs (vector_index n) v
