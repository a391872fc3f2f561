use Rattle.std.proofs.Common.{◌<◌, ◌≤◌, length, refl, arith}
use Rattle.source_steps.proofs.LocalsLemmas.{written, past_frames, past_locals}
use Rattle.source_steps.proofs.activations.Activations.set_local.Goals as goal

pub returns-then-activation-len : goal.returns-then-activation-len
returns-then-activation-len c =
    let vs = c.args.self.now.frames in
    let past : length vs.items ≤ c.args.activation = let k = vs.ok.0 in omega arith in
    past_frames (λ locals. locals.items) vs.items c.args.activation c.args.local c.args.value past

pub returns-then-local-len : goal.returns-then-local-len
returns-then-local-len c =
    let vs = c.args.self.now.frames in
    let there : c.args.activation < length vs.items = let k = vs.ok.0 in omega arith in
    let past : length c.index.result.now.items ≤ c.args.local = let k = c.index.result.now.ok.0 in
    omega arith in
    past_locals (λ locals. locals.items) vs.items c.args.activation c.args.local c.args.value
    c.index.result.now there c.index.ensures past

pub returns : goal.returns
returns c =
    let vs = c.args.self.now.frames in
    let there : c.args.activation < length vs.items = let k = vs.ok.0 in omega arith in
    written (λ locals. locals.items) vs.items c.args.activation c.args.local c.args.value
    c.index_mut.result.now _ there c.index_mut.ensures.value refl
