-- The row that a filter was asked for.
use Rattle.std.proofs.Common.{◌≡◌, ◌≢◌, ℕ, zero, suc, ◌+◌, ◌%◌, ◌^◌, Option, Some, None, List, [], ◌∷◌, drop, refl, sym, ap, ◌∙◌}
use Rattle.std.proofs.lemmas.Bool.{ne_eqb}
use Rattle.std.specs.Prelude.{option_map}
use Rattle.eh_tables.specs.Found.{function_entry}
use Rattle.eh_tables.specs.declared.lookup.FunctionEntry.{FunctionEntry}
use Rattle.seh_dispatch.specs.Words.{ScopeRecord, Entry, Functions, State, DispatchRecord, rows_of, row_before, jumping, if_finally, accepted}

-- the rows of the entry that a look-up has found
pub rows_found : (f : FunctionEntry) (o : Option Entry) → Some f ≡ option_map function_entry o
    → rows_of o ≡ f.info.scopes
rows_found f None e = absurd cc
rows_found f (Some x) e = let same : f ≡ function_entry x = one e in
    sym (ap (λ (g : FunctionEntry). g.info.scopes) same)
  where
    one : {a b : FunctionEntry} → Some a ≡ Some b → a ≡ b
    one e = cc

zero_none : (rows : List ScopeRecord) → row_before rows 0 ≡ None
zero_none [] = refl
zero_none (r ∷ rows) = refl

-- no row is before the first
pub row_zero : (rows : List ScopeRecord) (n : ℕ) → n ≡ 0 → row_before rows n ≡ None
row_zero rows n e = ap (row_before rows) e ∙ zero_none rows

head_some : (x : ScopeRecord) (xs : List ScopeRecord) (row : ScopeRecord) (rest : List ScopeRecord)
    → x ∷ xs ≡ row ∷ rest → (let o : Option ScopeRecord = Some x in o) ≡ Some row
head_some x xs row rest e = cc

some_at : (rows : List ScopeRecord) (m : ℕ) (row : ScopeRecord) (rest : List ScopeRecord)
    → drop m rows ≡ row ∷ rest → row_before rows (suc m) ≡ Some row
some_at [] zero row rest e = absurd cc
some_at [] (suc m) row rest e = absurd cc
some_at (r ∷ rows) zero row rest e = head_some r rows row rest e
some_at (r ∷ rows) (suc m) row rest e = some_at rows m row rest e

none_at : (rows : List ScopeRecord) (m : ℕ) → drop m rows ≡ [] → row_before rows (suc m) ≡ None
none_at [] m e = refl
none_at (r ∷ rows) zero e = absurd cc
none_at (r ∷ rows) (suc m) e = none_at rows m e

pub row_some : (rows : List ScopeRecord) (n m : ℕ) (row : ScopeRecord) (rest : List ScopeRecord)
    → n ≡ suc m → drop m rows ≡ row ∷ rest → row_before rows n ≡ Some row
row_some rows n m row rest e f = ap (row_before rows) e ∙ some_at rows m row rest f

pub row_none : (rows : List ScopeRecord) (n m : ℕ) → n ≡ suc m → drop m rows ≡ []
    → row_before rows n ≡ None
row_none rows n m e f = ap (row_before rows) e ∙ none_at rows m f

-- a row that isn't that of a finally block
pub jumping_to : (t : Functions) (s : State) (at : ℕ) (r : DispatchRecord) (row : ScopeRecord)
    (o : Option ScopeRecord) (base : ℕ) → Some row ≡ o → row.jump_target ≢ 0 → base ≡ t.base
    → jumping t s at r o ≡ accepted t s at r r.frame ((base + row.jump_target) % 2 ^ 64)
jumping_to t s at r row o base e n f = ap (jumping t s at r) (sym e)
    ∙ ap (if_finally t s at r row.jump_target) (ne_eqb row.jump_target 0 n)
    ∙ ap (λ b. accepted t s at r r.frame ((b + row.jump_target) % 2 ^ 64)) (sym f)
