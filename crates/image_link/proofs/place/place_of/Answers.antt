use Rattle.std.proofs.Common.{◌≡◌, ℕ, ◌+◌, ap, ◌∙◌, arith}
use Rattle.x64_emit.specs.Bodies.{label_list}
use Rattle.image_link.specs.Words.{entry_size, own_addresses}
use Rattle.image_link.proofs.Entries.{entry_small}
use Rattle.image_link.proofs.place.place_of.Goals as goal

pub overflow_add-body : goal.overflow_add-body
overflow_add-body c =
    let s = entry_small c.args.routine.now c.requires.near in
    let e = c.requires.entry in
    let r = c.requires.room in
    omega arith

pub labels_from-requires-clause-room : goal.labels_from-requires-clause-room
labels_from-requires-clause-room c =
    let s = entry_small c.args.routine.now c.requires.near in
    let e = c.requires.entry in
    let r = c.requires.room in
    omega arith

pub labels_from-requires-clause-cold : goal.labels_from-requires-clause-cold
labels_from-requires-clause-cold c =
    let r = c.requires.cold in
    omega arith

pub returns : goal.returns
returns c =
    let r = c.args.routine.now in
    let at = c.args.begin in
    let cold = c.args.cold in
    let size = c.requires.entry in
    let body : at + c.args.entry ≡ at + entry_size r = ap (λ (n : ℕ). at + n) size in
    let labels = c.in_ok-labels.ensures.labels
    ∙ ap (λ (n : ℕ). label_list r.layout r.body.cold 0 n cold r.body.code) body in
    let end : c.in_ok-labels.labels.end ≡ (own_addresses at cold r).end =
    (let e = c.in_ok-labels.ensures.end in omega arith) in
    let parts = c.in_ok-labels.ensures.parts in
    let cold_end = c.in_ok-labels.ensures.cold_end in
    λ i. record {
      body = body i;
      cold = cold;
      labels = labels i;
      end = end i;
      parts = parts i;
      cold_end = cold_end i;
    }
