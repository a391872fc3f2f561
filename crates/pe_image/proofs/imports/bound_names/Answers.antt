use Rattle.std.proofs.Common.{◌≡◌, ℕ, None, option_map, ap, ◌∙◌, rules}
use Rattle.std.specs.Ordering.{nat_cmp}
use Rattle.std.specs.BTreeMap.{get}
use Rattle.pe_image.proofs.LastBound.{bound_after, bound_from_none}
use Rattle.pe_image.proofs.imports.bound_names.Goals as goal

pub loop-import-init : goal.loop-import-init
loop-import-init c =
    let none : (slot : ℕ) → get nat_cmp c.new-names.result slot ≡ None = λ slot. search rules in
    record {
      can = tt;
      ends = tt;
      names = λ slot. ap (λ o. bound_after slot (option_map (λ b. b.now) o)
          c.into_iter-import-iterator.result) (none slot)
          ∙ ap (bound_after slot None) c.into_iter-import-iterator.ensures.into_iter_gives
          ∙ bound_from_none slot c.args.imports;
    }
