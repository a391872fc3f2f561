use Rattle.std.proofs.Common.{rules, ◌≡◌, ◌+◌, ◌-◌, None, refl, length, set, ap, ◌∙◌, inl, arith}
use Rattle.seh_views.specs.declared.c_types.SehFrame.{SehFrame}
use Rattle.seh_views.specs.declared.c_types.SehStatus.{SehStatus}
use Rattle.seh_views.specs.Modules.{end_in, module_of, modules_from}
use Rattle.seh_views.specs.Walks.{ended}
use Rattle.seh_views.proofs.ModulesMore.{none_more, over, frame_more, ends}
use Rattle.seh_views.proofs.modules.walk_modules.Goals as goal

pub returns-in_default : goal.returns-in_default
returns-in_default c up =
    let vs = c.args.views.now in
    let rs = c.args.ranges.now in
    let l = c.loop-k in
    let n = length c.args.frames.now - l.k in
    let none : None ≡ module_of vs l.last l.here.rip = search rules in
    inl (ap (λ (s : SehStatus). ended l.frames l.k s) c.outside.ensures
    ∙ none_more vs rs l.k l.last l.here l.frames n (n - 1) (omega arith) none
    ∙ l.invariant.rest up)

pub returns-in-Err : goal.returns-in-Err
returns-in-Err c up =
    let vs = c.args.views.now in
    let rs = c.args.ranges.now in
    let l = c.loop-k in
    let n = length c.args.frames.now - l.k in
    ends vs rs l.k l.last l.here l.frames n (n - 1) c.in-Some.number (omega arith)
    c.in-Some.ensures.value c.in-Err.e c.args.context.now c.args.frames.now _ (c.in-Err.ensures up)
    refl c.status_of.ensures refl (l.invariant.rest up)

pub loop-k-preserved : goal.loop-k-preserved
loop-k-preserved c =
    let vs = c.args.views.now in
    let rs = c.args.ranges.now in
    let l = c.loop-k in
    let n = length c.args.frames.now - l.k in
    let j = length c.args.frames.now - (l.k + 1) in
    let m = c.in-Some.number in
    record {
      room = search rules;
      rest = λ up. ap (λ (f : SehFrame). modules_from vs rs j (l.k + 1) m
          c.in-Ok.found.caller (set l.frames l.k f)) c.c_frame.ensures
          ∙ frame_more vs rs l.k l.last l.here l.frames n j m (omega arith)
          c.in-Some.ensures.value c.in-Ok.found (c.in-Ok.ensures up)
          ∙ l.invariant.rest up;
    }

pub returns : goal.returns
returns c up =
    let vs = c.args.views.now in
    let rs = c.args.ranges.now in
    let l = c.loop-k in
    let n = length c.args.frames.now - l.k in
    let k_is : length c.args.frames.now ≡ l.k = omega arith in
    inl (ap (λ k. ended l.frames k c.end_in.result) k_is
    ∙ ap (λ (s : SehStatus). ended l.frames l.k s)
    (c.end_in.ensures ∙ ap (end_in l.here.rip) c.module_of-2.ensures.value)
    ∙ over vs rs l.k l.last l.here l.frames n (omega arith)
    ∙ l.invariant.rest up)
