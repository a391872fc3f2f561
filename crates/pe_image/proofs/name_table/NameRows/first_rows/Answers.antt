use Rattle.std.proofs.Common.{◌≡◌, ℕ, ◌+◌, ◌-◌, cond, length, option_map, Some, None, sym, ap, subst, ◌∙◌, arith, rules}
use Rattle.std.specs.Prelude.{IfSome, ◌<◌}
use Rattle.std.specs.Ordering.{nat_cmp}
use Rattle.std.specs.BTreeMap.{get, is_at}
use Rattle.std.proofs.lemmas.List.{drop_all}
use Rattle.pe_image.specs.NameRows.{name_of}
use Rattle.pe_image.proofs.NameRows.{table_known}
use Rattle.pe_image.proofs.FirstRows.{FirstsFrom, name_in_row, one_more}
use Rattle.pe_image.proofs.name_table.NameRows.first_rows.Goals as goal

pub loop-index-init : goal.loop-index-init
loop-index-init c =
    let rows = c.args.self.now in
    let known = table_known c.self.inside.section c.self.inside.count rows c.self.invariant
    c.self.view_is in
    let none : (q : ℕ) → get nat_cmp c.new-first_rows.result q ≡ None = λ q. search rules in (
      omega (arith, known.count),
      record {
        inside = λ q. subst (λ o. IfSome o (λ k. k < length rows)) (sym (none q)) tt;
        names = λ q. ap (option_map (name_in_row rows)) (none q)
            ∙ sym (ap (name_of q) (drop_all c.self.inside.count rows (omega (arith, known.count))));
      },
    )

pub loop-index-preserved : goal.loop-index-preserved
loop-index-preserved c =
    let rows = c.args.self.now in
    let at : ℕ = c.loop-index.index - 1 in
    let some = c.loop-index-test.true in
    let up : c.loop-index.index ≡ c.loop-index.index - 1 + 1 = omega arith in
    let within = c.loop-index.invariant.0 in
    let later = c.loop-index.invariant.1 in (
      omega arith,
      one_more rows at (omega arith) c.loop-index.first_rows c.insert.new.self
          (subst (λ (n : ℕ). (q : ℕ) → get nat_cmp c.insert.new.self q
          ≡ cond (is_at (nat_cmp n) q) (Some at) (get nat_cmp c.loop-index.first_rows q))
          c.range.ensures.number c.in_ok-insert.ensures.updates.0)
          (subst (λ (n : ℕ). FirstsFrom rows n c.loop-index.first_rows) up later),
    )
