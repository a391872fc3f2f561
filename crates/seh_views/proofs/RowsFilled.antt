-- One record of a scope table that the caller's handler has.
use Rattle.std.proofs.Common.{◌≡◌, ℕ, ◌+◌, ◌-◌, ◌≤◌, ◌<◌, ltb, true, false, List, ◌∷◌, length, take, drop, sym, ap, ◌∙◌, set}
use Rattle.std.proofs.lemmas.Bool.{lt-ltb, le-ltb}
use Rattle.eh_tables.specs.declared.scope.ScopeRecord.{ScopeRecord}
use Rattle.eh_tables.specs.Scopes.{scope_record, scope_records_in}
use Rattle.eh_tables.proofs.Rows.{first_row}
use Rattle.seh_views.specs.declared.c_types.SehScope.{SehScope}
use Rattle.seh_views.specs.Scopes.{Filled, filled, if_around, if_room, is_around, scopes_from}
use Rattle.seh_views.specs.Shapes.{c_scope}
use Rattle.seh_views.specs.Statuses.{more}

module _ (rva k : ℕ) (out : List SehScope) (xs : List ℕ) (s : ScopeRecord) (le : 16 ≤ length xs)
    (is : s ≡ scope_record xs) where
  abbrev others : List ScopeRecord
  others = scope_records_in (take (length xs - 16) (drop 16 xs))

  first : scope_records_in xs ≡ s ∷ others
  first = first_row xs le ∙ ap (λ (r : ScopeRecord). r ∷ others) (sym is)

  abbrev written : Filled
  written = scopes_from rva (k + 1) others (set out k (c_scope s))

  begun : scopes_from rva k (scope_records_in xs) out
      ≡ if_around (if_room (scopes_from rva (k + 1) others) out k (c_scope s)
      (ltb k (length out))) (scopes_from rva k others out) (is_around rva s)
  begun = ap (λ (rs : List ScopeRecord). scopes_from rva k rs out) first

  pub row_passed : is_around rva s ≡ false
      → scopes_from rva k others out ≡ scopes_from rva k (scope_records_in xs) out
  row_passed around = sym (begun ∙ ap (if_around (if_room (scopes_from rva (k + 1) others) out k
      (c_scope s) (ltb k (length out))) (scopes_from rva k others out)) around)

  at_room : is_around rva s ≡ true → scopes_from rva k (scope_records_in xs) out
      ≡ if_room (scopes_from rva (k + 1) others) out k (c_scope s) (ltb k (length out))
  at_room around = begun ∙ ap (if_around (if_room (scopes_from rva (k + 1) others) out k
      (c_scope s) (ltb k (length out))) (scopes_from rva k others out)) around

  pub row_written : is_around rva s ≡ true → k < length out
      → written ≡ scopes_from rva k (scope_records_in xs) out
  row_written around lt = sym (at_room around ∙ ap (if_room (scopes_from rva (k + 1) others) out k
      (c_scope s)) (lt-ltb k (length out) lt))

  pub no_room : is_around rva s ≡ true → length out ≤ k
      → filled out k more ≡ scopes_from rva k (scope_records_in xs) out
  no_room around full = sym (at_room around ∙ ap (if_room (scopes_from rva (k + 1) others) out k
      (c_scope s)) (le-ltb k (length out) full))
