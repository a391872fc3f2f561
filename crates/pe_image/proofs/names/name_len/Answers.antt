use Rattle.std.proofs.Common.{◌≡◌, ℕ, ◌-◌, ◌<◌, List, length, drop, position, Some, sym, subst, arith}
use Rattle.pe_image.proofs.Named.{ends_after, known_after}
use Rattle.pe_image.proofs.Zeros.{is_zero}
use Rattle.pe_image.proofs.names.name_len.Goals as goal

pub returns-in-Some : goal.returns-in-Some
returns-in-Some c =
    let k = c.in-Some.known in
    sym (ends_after c.args.sections.now c.requires.ascending k.from c.args.at k.end
    (c.requires.ends k.end k.from c.in-Some.ensures.known) c.if-known-at.true
    c.in-Some.ensures.above)

pub first_zero_before-requires-clause-ordered : goal.first_zero_before-requires-clause-ordered
first_zero_before-requires-clause-ordered c =
    let k = c.in-Some.known in
    let this = c.requires.ends k.end k.from c.in-Some.ensures.known in
    omega (arith, this.above)

pub first_zero_before-requires-clause-known : goal.first_zero_before-requires-clause-known
first_zero_before-requires-clause-known c =
    let k = c.in-Some.known in
    let n = k.from - c.args.at in
    let this = c.requires.ends k.end k.from c.in-Some.ensures.known in
    subst (λ (bytes : List ℕ). k.from - c.args.at < length bytes
    → position is_zero (drop (k.from - c.args.at) bytes)
    ≡ Some (k.end - c.args.at - (k.from - c.args.at))) (sym c.stored_from-bytes.ensures)
    (known_after c.args.sections.now c.requires.ascending k.from c.args.at k.end this (omega arith))
