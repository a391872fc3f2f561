use Rattle.std.proofs.Common.{Some, None, ap, ◌∙◌, arith}
use Rattle.pe_image.specs.NameRows.{NameSection, name_in, place_of}
use Rattle.pe_image.proofs.NameRows.{name_read}
use Rattle.pe_image.proofs.name_table.NameSection.name.Goals as goal

pub returns-in-Some : goal.returns-in-Some
returns-in-Some c =
    let s : NameSection =
    record { address = c.self.inside.address; raw = c.self.inside.raw.now } in
    name_read s (place_of c.args.index) c.u32_at-name.result (Some c.in-Some.len)
    c.u32_at-name.ensures (omega (arith, c.if-name-self.false))
    (omega (arith, c.if-self-passed.false)) c.in-Some.ensures.place
    ∙ ap (λ s. name_in s (place_of c.args.index)) c.self.view_is

pub returns-in-None : goal.returns-in-None
returns-in-None c =
    let s : NameSection =
    record { address = c.self.inside.address; raw = c.self.inside.raw.now } in
    name_read s (place_of c.args.index) c.u32_at-name.result None
    c.u32_at-name.ensures (omega (arith, c.if-name-self.false))
    (omega (arith, c.if-self-passed.false)) c.in-None.ensures.place
    ∙ ap (λ s. name_in s (place_of c.args.index)) c.self.view_is
