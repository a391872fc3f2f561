use Rattle.std.proofs.Common.{◌≡◌, ◌∙◌, ◌+◌, ◌++◌, length, ap}
use Rattle.std.proofs.lemmas.Result.{on_ok_weaker}
use Rattle.std.specs.Prelude.{option_map}
use Rattle.c_locals.proofs.GlobalPlaces.{on_both, placed}
use Rattle.c_locals.proofs.globals.global.Goals as goal
use Rattle.c_locals.specs.Words.{least_of, kept, with_block, entity, TypeClash, global_entity, padded, initial_value, first_data, spelled, with_name, unless_holds, bytes_in, CType}
use Rattle.c_syntax.specs.Program as trees

pub returns : goal.returns
returns c =
    let file = c.args.file.now in
    let g = c.args.g.now in
    let of : CType = record { base = c.args.base; pointers = g.pointers } in
    let text = c.args.text.now in
    let n = spelled text g.name in
    let block = file.names.block in
    let begun : c.pad.new.bytes.items ≡ padded (bytes_in of) file.bytes.items = c.in_ok-pad.ensures
    ∙ ap (λ k. padded k file.bytes.items) c.bytes_in.ensures in
    let at : c.end_of-address.result ≡ length
    (padded (bytes_in of) file.bytes.items) = c.end_of-address.ensures.value ∙ ap length begun in
    let is : entity c.meaning_of.result ≡ global_entity of
    (first_data + length (padded (bytes_in of) file.bytes.items)) g.length = c.meaning_of.ensures
    ∙ ap (λ k. global_entity of (first_data + k) g.length) at in
    let own = initial_value of g.length (option_map trees.initialiser g.initialiser) in
    let w = least_of c.name.new.file.faults in
    on_ok_weaker c.put_initial_value.result
    (λ h. λ d f. placed text c.args.base g file _ d w (least_of c.unless_holds.new.faults)
    (least_of c.check_length.new.faults)
    (c.in_ok-name.ensures.names ∙ ap (λ e. with_block file.names (with_name block n e)) is)
    (h.0 ∙ ap (λ b. b.items ++ own.bytes) c.in_ok-name.ensures.bytes
    ∙ ap (λ k. k ++ own.bytes) begun)
    c.in_ok-name.ensures.functions c.in_ok-name.ensures.faults
    (c.unless_holds.ensures ∙ ap (λ b. kept w (unless_holds b g.name.start TypeClash))
    c.is_scalar.ensures) c.check_length.ensures h.1 f)
    (on_both _ _ c.put_initial_value.result c.put_initial_value.ensures.bytes
    c.put_initial_value.ensures.faults)
