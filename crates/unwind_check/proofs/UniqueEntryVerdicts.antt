-- At most one list of verdicts is that of the entries of a table, one by one.
use Rattle.std.proofs.Common.{◌≡◌, List, [], ◌∷◌, Option, Some, None, refl, sym, ap, ◌∙◌}
use Rattle.eh_tables.specs.Tables.{Entry}
use Rattle.unwind_check.specs.declared.rule.Fault.{Fault}
use Rattle.unwind_check.specs.declared.rule.EntryVerdict.{EntryVerdict}
use Rattle.unwind_check.specs.FailingRules.{CodeEntry, AreFaults}
use Rattle.unwind_check.specs.Verdicts.{ImageCode, entry_in}
use Rattle.unwind_check.specs.EntryVerdicts.{IsEntryVerdict, AreEntryVerdicts}
use Rattle.unwind_check.proofs.UniqueVerdicts.{one_least}

first_once : (e : CodeEntry) (o p : Option Fault) → AreFaults e o → AreFaults e p → o ≡ p
first_once e None None h g = refl
first_once e None (Some f) h g = absurd (h f.at f.rule g.boundary g.fails)
first_once e (Some f) None h g = absurd (g f.at f.rule h.boundary h.fails)
first_once e (Some f) (Some k) h g = ap Some (one_least e f k h g)

entry_once : (c : ImageCode) (e : Entry) (v w : EntryVerdict) → IsEntryVerdict c e v
    → IsEntryVerdict c e w → v ≡ w
entry_once c e v w h g =
    let begin = h.begin ∙ sym g.begin in
    let fault = first_once (entry_in c e) v.fault w.fault h.faults g.faults in
    λ j. record { begin = begin j; fault = fault j }

joined_same : (v w : EntryVerdict) (vs ws : List EntryVerdict) → v ≡ w → vs ≡ ws
    → v ∷ vs ≡ w ∷ ws
joined_same v w vs ws h g = cc

pub entry_verdicts_once : (c : ImageCode) (es : List Entry) (vs ws : List EntryVerdict)
    → AreEntryVerdicts c es vs → AreEntryVerdicts c es ws → vs ≡ ws
entry_verdicts_once c [] [] [] h g = refl
entry_verdicts_once c [] [] (w ∷ ws) h g = absurd g
entry_verdicts_once c [] (v ∷ vs) ws h g = absurd h
entry_verdicts_once c (e ∷ es) [] ws h g = absurd h
entry_verdicts_once c (e ∷ es) (v ∷ vs) [] h g = absurd g
entry_verdicts_once c (e ∷ es) (v ∷ vs) (w ∷ ws) h g =
    joined_same v w vs ws (entry_once c e v w h.0 g.0) (entry_verdicts_once c es vs ws h.1 g.1)
