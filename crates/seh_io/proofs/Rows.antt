-- The text of runs, computed: a row for each kind of line.
use Rattle.std.proofs.Common.{◌≡◌, ℕ, zero, suc, refl, List, [], ◌∷◌, ◌++◌, true, false, pos, negsuc}
use Rattle.std.specs.Prelude.{codes, Option, Some, None}
use Rattle.std.specs.Fmt.{digits}
use Rattle.seh_num.specs.declared.event.Event.TheVariants.{Put, Raise, Filter, Answer, Finally, Except, At}
use Rattle.seh_num.specs.declared.end.Reason.TheVariants.{Illegal, BadRecord, Unreadable, Backward, LostFrame}
use Rattle.seh_num.specs.declared.end.RunEnd.TheVariants.{Exit, Unhandled, StackLimit, OutOfTurns, Stopped}
use Rattle.seh_io.specs.Names.{no_names}
use Rattle.seh_io.specs.Text.{hexadecimal, text, line, end_line}

-- a line feed after the text
fed : List ℕ → List ℕ
fed line = line ++ 10 ∷ []

put_and_exit : text (Put (pos 14) ∷ []) (Exit (pos 7)) false no_names
    ≡ 49 ∷ 52 ∷ 10 ∷ 101 ∷ 120 ∷ 105 ∷ 116 ∷ 32 ∷ 55 ∷ 10 ∷ []
unfolding digits
put_and_exit = refl

-- without a trace only what is put is shown
untraced : text (Filter 1 ∷ Answer (pos 1) ∷ Put (negsuc 4) ∷ []) (Exit (negsuc 0)) false no_names
    ≡ fed (codes "-5") ++ fed (codes "exit -1")
unfolding digits fed
untraced = refl

traced : text (Filter 1 ∷ Answer (negsuc 0) ∷ Finally 20 true ∷ Finally 3 false ∷ Put (pos 0)
    ∷ []) (OutOfTurns 10000000) true no_names ≡ fed (codes "filter 1") ++ fed (codes "answer -1")
    ++ fed (codes "finally 20 1") ++ fed (codes "finally 3 0") ++ fed (codes "0")
    ++ fed (codes "out of turns 10000000")
unfolding digits fed
traced = refl

-- the access is in the line of an access violation alone
raises : text (Raise (record { 0 = 0xC000_0005 }) false (Some (true, 0x7000_0000))
    ∷ Raise (record { 0 = 0xC000_0005 }) false (Some (false, 0x0012_3456_789A_BCDE))
    ∷ Raise (record { 0 = 0xC000_0005 }) true None
    ∷ Raise (record { 0 = 0xE000_0001 }) true (Some (true, 16))
    ∷ Except (record { 0 = 0xE000_0001 }) ∷ [])
    (Unhandled (record { 0 = 0xC000_0094 })) true no_names
    ≡ fed (codes "raise C0000005 0 write 0000000070000000")
    ++ fed (codes "raise C0000005 0 read 00123456789ABCDE") ++ fed (codes "raise C0000005 1")
    ++ fed (codes "raise E0000001 1") ++ fed (codes "except E0000001")
    ++ fed (codes "unhandled C0000094")
unfolding digits hexadecimal fed
raises = refl

ends : end_line (StackLimit 0x0000_7FFF_FFFF_F000) ++ end_line (Stopped Illegal 1)
    ++ end_line (Stopped BadRecord 2) ++ end_line (Stopped Unreadable 3)
    ++ end_line (Stopped Backward 4) ++ end_line (Stopped LostFrame 0xFFFF_FFFF_FFFF_FFFF)
    ≡ fed (codes "stack limit 00007FFFFFFFF000") ++ fed (codes "stopped Illegal 0000000000000001")
    ++ fed (codes "stopped BadRecord 0000000000000002")
    ++ fed (codes "stopped Unreadable 0000000000000003")
    ++ fed (codes "stopped Backward 0000000000000004")
    ++ fed (codes "stopped LostFrame FFFFFFFFFFFFFFFF")
unfolding hexadecimal fed
ends = refl

-- the first two functions are f and main, and no other number has a name
named : ℕ → Option (List ℕ)
named zero = None
named (suc zero) = Some (codes "f")
named (suc (suc zero)) = Some (codes "main")
named (suc (suc (suc more))) = None

-- names are shown with a trace and without, and numbers without a name aren't
walk_untraced : text (At 1 ∷ Filter 1 ∷ At 3 ∷ At 2 ∷ []) (Exit (pos 0)) false named
    ≡ fed (codes "at f") ++ fed (codes "at main") ++ fed (codes "exit 0")
unfolding digits fed named
walk_untraced = refl

walk_traced : text (At 1 ∷ Filter 1 ∷ At 3 ∷ At 2 ∷ []) (Exit (pos 0)) true named
    ≡ fed (codes "at f") ++ fed (codes "filter 1") ++ fed (codes "at main") ++ fed (codes "exit 0")
unfolding digits fed named
walk_traced = refl

walk_unnamed : text (At 1 ∷ At 2 ∷ []) (Exit (pos 0)) true no_names ≡ fed (codes "exit 0")
unfolding digits fed
walk_unnamed = refl
