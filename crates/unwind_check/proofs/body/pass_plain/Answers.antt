use Rattle.unwind_check.specs.Steps.{past_plain}
use Rattle.unwind_check.proofs.BodySteps.{error_shown, plain_failed, plain_passed}
use Rattle.unwind_check.proofs.body.pass_plain.Goals as goal

pub returns-in-Err : goal.returns-in-Err
returns-in-Err c rs h =
    let i = c.args.info.now in
    let x = c.args.item.now in
    error_shown c.args.loaded.now.items c.in-Err.fault (past_plain i c.args.at rs x)
    (plain_failed i c.args.at rs x c.in-Err.fault c.in-Err.ensures)

pub returns-in_ok-note_load-in-Ok : goal.returns-in_ok-note_load-in-Ok
returns-in_ok-note_load-in-Ok c rs h =
    let qs = c.note_load.new.loaded.items in
    let x = c.args.item.now in
    let is = c.in_ok-note_load-in-Ok.ensures rs h in
    plain_passed c.args.info.now c.args.at qs rs x c.in-Ok.register c.in-Ok.ensures is
