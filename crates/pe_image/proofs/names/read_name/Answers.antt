use Rattle.std.proofs.Common.{ℕ, ◌+◌, ◌-◌, ◌*◌, ◌^◌, ◌<◌, List, length, take, drop, Some, rules, sym, ap, ◌∙◌, arith, length-take}
use Rattle.std.proofs.lemmas.List.{take_all, length-drop}
use Rattle.pe_image.proofs.Named.{name_fits, named, name_ends, unnamed}
use Rattle.pe_image.proofs.names.read_name.Goals as goal

pub slice_bounds-result-end : goal.slice_bounds-result-end
slice_bounds-result-end c =
    let fits : c.in-Some.len + 2 < length c.stored_from-hinted.result.now = name_fits
    c.args.sections.now c.requires.ascending c.args.at c.stored_from-hinted.result.now
    c.stored_from-hinted.ensures (omega arith) c.in-Some.len (sym c.in-Some.is ∙ c.name_len.ensures)
    in search rules

pub returns-in-Some-clause-name : goal.returns-in-Some-clause-name
returns-in-Some-clause-name c =
    let bytes = c.stored_from-hinted.result.now in
    ap (λ (b : List ℕ). Some (take c.in-Some.len b))
    (take_all (length bytes - 2) (drop 2 bytes) (omega (arith, length-drop 2 bytes)))
    ∙ named c.args.sections.now c.requires.ascending c.args.at c.stored_from-hinted.result.now
    c.stored_from-hinted.ensures (omega arith) c.in-Some.len (sym c.in-Some.is ∙ c.name_len.ensures)

pub returns-in-Some-clause-end : goal.returns-in-Some-clause-end
returns-in-Some-clause-end c =
    let bytes = c.stored_from-hinted.result.now in
    let len = c.in-Some.len in
    let fits : c.in-Some.len + 2 < length c.stored_from-hinted.result.now = name_fits
    c.args.sections.now c.requires.ascending c.args.at c.stored_from-hinted.result.now
    c.stored_from-hinted.ensures (omega arith) c.in-Some.len (sym c.in-Some.is ∙ c.name_len.ensures)
    in
    name_ends c.args.sections.now c.requires.ascending c.args.at bytes c.stored_from-hinted.ensures
    (omega arith) len _ (sym c.in-Some.is ∙ c.name_len.ensures)
    (omega (
      arith,
      length-take len (take (length bytes - 2) (drop 2 bytes)),
      length-take (length bytes - 2) (drop 2 bytes),
      length-drop 2 bytes,
    ))

pub returns-in-Some-clause-fits : goal.returns-in-Some-clause-fits
returns-in-Some-clause-fits c =
    let bytes = c.stored_from-hinted.result.now in
    let len = c.in-Some.len in
    let fits : c.in-Some.len + 2 < length c.stored_from-hinted.result.now = name_fits
    c.args.sections.now c.requires.ascending c.args.at c.stored_from-hinted.result.now
    c.stored_from-hinted.ensures (omega arith) c.in-Some.len (sym c.in-Some.is ∙ c.name_len.ensures)
    in
    let small : length c.stored_from-hinted.result.now * 1 < 2 ^ 63 =
    c.stored_from-hinted.type_inv.1 in
    omega (
      arith,
      length-take len (take (length bytes - 2) (drop 2 bytes)),
      length-take (length bytes - 2) (drop 2 bytes),
      length-drop 2 bytes,
    )

pub returns-in-None-clause-name : goal.returns-in-None-clause-name
returns-in-None-clause-name c = unnamed c.args.sections.now c.requires.ascending c.args.at
    c.stored_from-hinted.result.now c.stored_from-hinted.ensures (omega arith)
    (sym c.in-None.is ∙ c.name_len.ensures)
