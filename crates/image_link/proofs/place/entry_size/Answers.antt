use Rattle.std.proofs.Common.{arith}
use Rattle.image_link.proofs.Entries.{entry_alone, entry_small}
use Rattle.image_link.proofs.place.entry_size.Goals as goal

pub overflow_cast-size : goal.overflow_cast-size
overflow_cast-size c =
    let s = entry_small c.args.routine.now c.requires in
    let e = entry_alone 0 0 c.args.routine.now c.new-entry.result.items c.put_entry.new.code.items
    c.requires c.new-entry.ensures.items c.in_ok-put_entry.ensures in
    let a = c.len-size.ensures in
    let b = c.put_entry.new.code.ok in
    omega arith

pub returns-clause-value : goal.returns-clause-value
returns-clause-value c =
    let e = entry_alone 0 0 c.args.routine.now c.new-entry.result.items c.put_entry.new.code.items
    c.requires c.new-entry.ensures.items c.in_ok-put_entry.ensures in
    let a = c.len-size.ensures in
    let b = c.put_entry.new.code.ok in
    omega arith

pub returns-clause-small : goal.returns-clause-small
returns-clause-small c =
    let s = entry_small c.args.routine.now c.requires in
    let e = entry_alone 0 0 c.args.routine.now c.new-entry.result.items c.put_entry.new.code.items
    c.requires c.new-entry.ensures.items c.in_ok-put_entry.ensures in
    let a = c.len-size.ensures in
    let b = c.put_entry.new.code.ok in
    omega arith
