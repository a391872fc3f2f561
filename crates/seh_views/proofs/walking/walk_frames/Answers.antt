use Rattle.std.proofs.Common.{rules, ◌≡◌, ◌+◌, ◌-◌, true, false, length, set, sym, ap, ◌∙◌, arith}
use Rattle.seh_views.specs.declared.c_types.SehFrame.{SehFrame}
use Rattle.seh_views.specs.declared.c_types.SehStatus.{SehStatus}
use Rattle.seh_views.specs.Walks.{is_inside, end, ended, walk_from}
use Rattle.seh_views.proofs.FramesMore.{frame_more, frame_refused, frame_none, frames_over}
use Rattle.seh_views.proofs.walking.walk_frames.Goals as goal

pub returns-then-not-is_inside : goal.returns-then-not-is_inside
returns-then-not-is_inside g c up =
    let m = g.S.CodeSpace.memory c.args.space.now in
    let t = c.args.tables.now in
    let n = length c.args.frames.now - c.loop-k.k in
    let i : is_inside c.args.base c.args.size c.loop-k.here ≡ false = search rules in
    sym (frame_none c.args.own t c.args.base m c.args.size n (n - 1) c.loop-k.k c.loop-k.here
    c.loop-k.frames (omega arith) i) ∙ c.loop-k.invariant.rest up

pub returns-in-Err : goal.returns-in-Err
returns-in-Err g c up =
    let m = g.S.CodeSpace.memory c.args.space.now in
    let t = c.args.tables.now in
    let n = length c.args.frames.now - c.loop-k.k in
    let i : is_inside c.args.base c.args.size c.loop-k.here ≡ true = search rules in
    ap (λ (s : SehStatus). ended c.loop-k.frames c.loop-k.k s) c.status_of.ensures
    ∙ sym (frame_refused c.args.own t c.args.base m c.args.size n (n - 1) c.loop-k.k c.loop-k.here
    c.loop-k.frames c.in-Err.e (omega arith) i (sym (c.in-Err.ensures up)))
    ∙ c.loop-k.invariant.rest up

pub loop-k-preserved : goal.loop-k-preserved
loop-k-preserved g c =
    let m = g.S.CodeSpace.memory c.args.space.now in
    let t = c.args.tables.now in
    let n = length c.args.frames.now - c.loop-k.k in
    let j = length c.args.frames.now - (c.loop-k.k + 1) in
    let i : is_inside c.args.base c.args.size c.loop-k.here ≡ true = search rules in
    record {
      room = search rules;
      rest = λ up. ap (λ (f : SehFrame). walk_from c.args.own t c.args.base m c.args.size j
          (c.loop-k.k + 1) c.in-Ok.found.caller (set c.loop-k.frames c.loop-k.k f))
          c.c_frame.ensures
          ∙ sym (frame_more c.args.own t c.args.base m c.args.size n j c.loop-k.k c.loop-k.here
          c.loop-k.frames c.in-Ok.found (omega arith) i (sym (c.in-Ok.ensures up)))
          ∙ c.loop-k.invariant.rest up;
    }

pub returns : goal.returns
returns g c up =
    let m = g.S.CodeSpace.memory c.args.space.now in
    let t = c.args.tables.now in
    let n = length c.args.frames.now - c.loop-k.k in
    let k_is : length c.args.frames.now ≡ c.loop-k.k = omega arith in
    ap (λ k. ended c.loop-k.frames k c.end.result) k_is
    ∙ ap (λ (s : SehStatus). ended c.loop-k.frames c.loop-k.k s)
    (c.end.ensures ∙ ap end c.is_inside-2.ensures)
    ∙ sym (frames_over c.args.own t c.args.base m c.args.size n c.loop-k.k c.loop-k.here
    c.loop-k.frames (omega arith))
    ∙ c.loop-k.invariant.rest up
