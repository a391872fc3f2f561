use Rattle.std.proofs.Common.{◌≡◌, ℕ, rules, subst, sym}
use Rattle.seh_num.specs.Widths.{wrapped, IsCongruent}
use Rattle.seh_num.proofs.Quotients.{congruent}
use Rattle.seh_num.proofs.extension.wrap.Goals as goal

pub returns-clause-congruent : goal.returns-clause-congruent
returns-clause-congruent c =
    let e : c.truncate.result ≡ wrapped c.args.w c.args.v = search rules in
    subst (λ (n : ℕ). IsCongruent c.args.w c.args.v n) (sym e) (congruent c.args.w c.args.v)
