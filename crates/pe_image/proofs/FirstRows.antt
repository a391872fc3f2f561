-- The first rows of numbers, found from the last row of a table of names on.
use Rattle.std.proofs.Common.{◌≡◌, ℕ, ◌+◌, ◌<◌, cond, List, length, drop, get_or, option_map, Option, Some, sym, ap, subst, ◌∙◌, inl, inr, eq-eqb}
use Rattle.std.specs.Prelude.{IfSome}
use Rattle.std.specs.Ordering.{nat_cmp}
use Rattle.std.specs.BTreeMap.{BTreeMap, get, is_at}
use Rattle.std.proofs.lemmas.Bool.{cases_eq, ne_eqb}
use Rattle.std.proofs.lemmas.List.{at_drop_more}
use Rattle.pe_image.specs.NameRows.{NameRow, no_row, name_or, name_of}
use Rattle.pe_image.proofs.Inserted.{at_key, off_key}

-- the name in the row of an index
abbrev pub name_in_row : List NameRow → ℕ → List ℕ
name_in_row rows k = (get_or rows k no_row).name

-- the name of a number by a map
abbrev pub name_by : List NameRow → BTreeMap ℕ ℕ → ℕ → Option (List ℕ)
name_by rows m q = option_map (name_in_row rows) (get nat_cmp m q)

-- a map has the first row of each number among those from an index on
pub record FirstsFrom (rows : List NameRow) (index : ℕ) (m : BTreeMap ℕ ℕ) : Type 0 where
  pub inside : (q : ℕ) → IfSome (get nat_cmp m q) (λ k. k < length rows)
  pub names : (q : ℕ) → name_by rows m q ≡ name_of q (drop index rows)

module _ (rows : List NameRow) (index : ℕ) (lt : index < length rows) (old new : BTreeMap ℕ ℕ)
    (has : (q : ℕ) → get nat_cmp new q
    ≡ cond (is_at (nat_cmp (get_or rows index no_row).number) q) (Some index) (get nat_cmp old q))
    (later : FirstsFrom rows (index + 1) old) where
  abbrev row : NameRow
  row = get_or rows index no_row

  inside : (q : ℕ) → IfSome (get nat_cmp new q) (λ k. k < length rows)
  inside q = elim (cases_eq q row.number) [
    | inl same ↦ subst (λ o. IfSome o (λ k. k < length rows))
        (sym (at_key old new row.number index has q same)) lt
    | inr other ↦ subst (λ o. IfSome o (λ k. k < length rows))
        (sym (off_key old new row.number index has q other)) (later.inside q)
  ]

  names : (q : ℕ) → name_by rows new q ≡ name_of q (drop index rows)
  names q =
      let whole = at_drop_more (name_of q) rows index no_row lt in
      let others = name_of q (drop (index + 1) rows) in
      elim (cases_eq q row.number) [
        | inl same ↦
            ap (option_map (name_in_row rows)) (at_key old new row.number index has q same)
            ∙ sym (whole ∙ ap (name_or others row.name) (eq-eqb row.number q (sym same)))
        | inr other ↦
            ap (option_map (name_in_row rows)) (off_key old new row.number index has q other)
            ∙ later.names q
            ∙ sym (whole ∙ ap (name_or others row.name)
            (ne_eqb row.number q (λ e. other (sym e))))
      ]

  pub one_more : FirstsFrom rows index new
  one_more = record { inside = inside; names = names }
