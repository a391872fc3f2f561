-- A line of words means one command.
use Rattle.std.proofs.Common.{◌≡◌, ℕ, ◌+◌, ◌*◌, true, false, List, ◌∷◌, pos, Option, Some, None, refl, sym, ap, subst, ◌∙◌, arith}
use Rattle.std.specs.Fmt.{decimal}
use Rattle.clap.specs.Words.{Row, Text}
use Rattle.command_line.specs.declared.command.Command.{Command}
use Rattle.command_line.specs.declared.command.Command.TheVariants.{Compile, Exec, Run, Meaning, Show, Check, Selftest}
use Rattle.command_line.specs.declared.command.CheckReport.{CheckReport}
use Rattle.command_line.specs.declared.command.CheckReport.TheVariants.{Whole, Each}
use Rattle.command_line.specs.declared.command.RunOptions.{RunOptions}
use Rattle.command_line.specs.Lines.{IsNumber, is_set, HasNumber, HasOptions, HasReport, IsNamedBy, IsLine}
use Rattle.command_line.proofs.Numbers.{is_read}

-- a text is one number in decimal
number_once : (other : ℕ) (text : Option (List ℕ)) (n m : ℕ) → IsNumber other text n
    → IsNumber other text m → n ≡ m
number_once other None n m a b = a ∙ sym b
number_once other (Some text) n m a b =
    sym (is_read text n a.1 a.0).1 ∙ (is_read text m b.1 b.0).1

options_once : (a b : RunOptions) (rows : List Row) → HasOptions a rows → HasOptions b rows → a ≡ b
options_once a b rows x y =
    let turns = number_once _ _ a.turns b.turns x.turns y.turns in
    let number = number_once _ _ x.argument.0 y.argument.0 x.argument.1 y.argument.1 in
    let argument : a.argument ≡ b.argument =
    x.argument.2 ∙ ap pos number ∙ sym y.argument.2 in
    let trace : a.trace ≡ b.trace = x.trace ∙ sym y.trace in
    λ j. record { turns = turns j; argument = argument j; trace = trace j }

report_once : (a b : CheckReport) (rows : List Row) → HasReport a rows → HasReport b rows → a ≡ b
report_once Whole Whole rows h g = refl
report_once Whole Each rows h g = let q : false ≡ true = sym h ∙ g in cc
report_once Each Whole rows h g = let q : true ≡ false = sym h ∙ g in cc
report_once Each Each rows h g = refl

-- one number is given
one_given : (n m : ℕ) (rows : List Row) → HasNumber n rows → HasNumber m rows → n ≡ m
one_given n m rows x y =
    let same : Some (decimal n) ≡ Some (decimal m) = sym x.0 ∙ y.0 in
    let text : decimal n ≡ decimal m = cc in
    sym (is_read (decimal m) n x.1 (sym text)).1 ∙ (is_read (decimal m) m y.1 refl).1

-- a name by its first two letters
abbrev letters : List ℕ → ℕ
letters (x ∷ y ∷ xs) = 256 * x + y
letters xs = 0

-- no two commands have names that begin with the same two letters
named_once : (a b : Command) (x : Text × List Row) → IsNamedBy a x → IsNamedBy b x → a ≡ b
named_once Compile Compile x h g = refl
named_once Compile Show x h g =
    let q : 25455 ≡ 29544 = ap letters (sym h ∙ g) in
    absurd (omega (arith, q))
named_once Compile (Check r') x h g =
    let q : 25455 ≡ 25448 = ap letters (sym h ∙ g.0) in
    absurd (omega (arith, q))
named_once Compile (Exec o') x h g =
    let q : 25455 ≡ 25976 = ap letters (sym h ∙ g.0) in
    absurd (omega (arith, q))
named_once Compile (Run o') x h g =
    let q : 25455 ≡ 29301 = ap letters (sym h ∙ g.0) in
    absurd (omega (arith, q))
named_once Compile (Meaning o') x h g =
    let q : 25455 ≡ 28005 = ap letters (sym h ∙ g.0) in
    absurd (omega (arith, q))
named_once Compile (Selftest n') x h g =
    let q : 25455 ≡ 29541 = ap letters (sym h ∙ g.0) in
    absurd (omega (arith, q))
named_once Show Compile x h g =
    let q : 29544 ≡ 25455 = ap letters (sym h ∙ g) in
    absurd (omega (arith, q))
named_once Show Show x h g = refl
named_once Show (Check r') x h g =
    let q : 29544 ≡ 25448 = ap letters (sym h ∙ g.0) in
    absurd (omega (arith, q))
named_once Show (Exec o') x h g =
    let q : 29544 ≡ 25976 = ap letters (sym h ∙ g.0) in
    absurd (omega (arith, q))
named_once Show (Run o') x h g =
    let q : 29544 ≡ 29301 = ap letters (sym h ∙ g.0) in
    absurd (omega (arith, q))
named_once Show (Meaning o') x h g =
    let q : 29544 ≡ 28005 = ap letters (sym h ∙ g.0) in
    absurd (omega (arith, q))
named_once Show (Selftest n') x h g =
    let q : 29544 ≡ 29541 = ap letters (sym h ∙ g.0) in
    absurd (omega (arith, q))
named_once (Check r) Compile x h g =
    let q : 25448 ≡ 25455 = ap letters (sym h.0 ∙ g) in
    absurd (omega (arith, q))
named_once (Check r) Show x h g =
    let q : 25448 ≡ 29544 = ap letters (sym h.0 ∙ g) in
    absurd (omega (arith, q))
named_once (Check r) (Check r') x h g = ap Check (report_once r r' x.1 h.1 g.1)
named_once (Check r) (Exec o') x h g =
    let q : 25448 ≡ 25976 = ap letters (sym h.0 ∙ g.0) in
    absurd (omega (arith, q))
named_once (Check r) (Run o') x h g =
    let q : 25448 ≡ 29301 = ap letters (sym h.0 ∙ g.0) in
    absurd (omega (arith, q))
named_once (Check r) (Meaning o') x h g =
    let q : 25448 ≡ 28005 = ap letters (sym h.0 ∙ g.0) in
    absurd (omega (arith, q))
named_once (Check r) (Selftest n') x h g =
    let q : 25448 ≡ 29541 = ap letters (sym h.0 ∙ g.0) in
    absurd (omega (arith, q))
named_once (Exec o) Compile x h g =
    let q : 25976 ≡ 25455 = ap letters (sym h.0 ∙ g) in
    absurd (omega (arith, q))
named_once (Exec o) Show x h g =
    let q : 25976 ≡ 29544 = ap letters (sym h.0 ∙ g) in
    absurd (omega (arith, q))
named_once (Exec o) (Check r') x h g =
    let q : 25976 ≡ 25448 = ap letters (sym h.0 ∙ g.0) in
    absurd (omega (arith, q))
named_once (Exec o) (Exec o') x h g = ap Exec (options_once o o' x.1 h.1 g.1)
named_once (Exec o) (Run o') x h g =
    let q : 25976 ≡ 29301 = ap letters (sym h.0 ∙ g.0) in
    absurd (omega (arith, q))
named_once (Exec o) (Meaning o') x h g =
    let q : 25976 ≡ 28005 = ap letters (sym h.0 ∙ g.0) in
    absurd (omega (arith, q))
named_once (Exec o) (Selftest n') x h g =
    let q : 25976 ≡ 29541 = ap letters (sym h.0 ∙ g.0) in
    absurd (omega (arith, q))
named_once (Run o) Compile x h g =
    let q : 29301 ≡ 25455 = ap letters (sym h.0 ∙ g) in
    absurd (omega (arith, q))
named_once (Run o) Show x h g =
    let q : 29301 ≡ 29544 = ap letters (sym h.0 ∙ g) in
    absurd (omega (arith, q))
named_once (Run o) (Check r') x h g =
    let q : 29301 ≡ 25448 = ap letters (sym h.0 ∙ g.0) in
    absurd (omega (arith, q))
named_once (Run o) (Exec o') x h g =
    let q : 29301 ≡ 25976 = ap letters (sym h.0 ∙ g.0) in
    absurd (omega (arith, q))
named_once (Run o) (Run o') x h g = ap Run (options_once o o' x.1 h.1 g.1)
named_once (Run o) (Meaning o') x h g =
    let q : 29301 ≡ 28005 = ap letters (sym h.0 ∙ g.0) in
    absurd (omega (arith, q))
named_once (Run o) (Selftest n') x h g =
    let q : 29301 ≡ 29541 = ap letters (sym h.0 ∙ g.0) in
    absurd (omega (arith, q))
named_once (Meaning o) Compile x h g =
    let q : 28005 ≡ 25455 = ap letters (sym h.0 ∙ g) in
    absurd (omega (arith, q))
named_once (Meaning o) Show x h g =
    let q : 28005 ≡ 29544 = ap letters (sym h.0 ∙ g) in
    absurd (omega (arith, q))
named_once (Meaning o) (Check r') x h g =
    let q : 28005 ≡ 25448 = ap letters (sym h.0 ∙ g.0) in
    absurd (omega (arith, q))
named_once (Meaning o) (Exec o') x h g =
    let q : 28005 ≡ 25976 = ap letters (sym h.0 ∙ g.0) in
    absurd (omega (arith, q))
named_once (Meaning o) (Run o') x h g =
    let q : 28005 ≡ 29301 = ap letters (sym h.0 ∙ g.0) in
    absurd (omega (arith, q))
named_once (Meaning o) (Meaning o') x h g = ap Meaning (options_once o o' x.1 h.1 g.1)
named_once (Meaning o) (Selftest n') x h g =
    let q : 28005 ≡ 29541 = ap letters (sym h.0 ∙ g.0) in
    absurd (omega (arith, q))
named_once (Selftest n) Compile x h g =
    let q : 29541 ≡ 25455 = ap letters (sym h.0 ∙ g) in
    absurd (omega (arith, q))
named_once (Selftest n) Show x h g =
    let q : 29541 ≡ 29544 = ap letters (sym h.0 ∙ g) in
    absurd (omega (arith, q))
named_once (Selftest n) (Check r') x h g =
    let q : 29541 ≡ 25448 = ap letters (sym h.0 ∙ g.0) in
    absurd (omega (arith, q))
named_once (Selftest n) (Exec o') x h g =
    let q : 29541 ≡ 25976 = ap letters (sym h.0 ∙ g.0) in
    absurd (omega (arith, q))
named_once (Selftest n) (Run o') x h g =
    let q : 29541 ≡ 29301 = ap letters (sym h.0 ∙ g.0) in
    absurd (omega (arith, q))
named_once (Selftest n) (Meaning o') x h g =
    let q : 29541 ≡ 28005 = ap letters (sym h.0 ∙ g.0) in
    absurd (omega (arith, q))
named_once (Selftest n) (Selftest n') x h g = ap Selftest (one_given n n' x.1 h.1 g.1)

the_same : (x y : Text × List Row) → Some x ≡ Some y → x ≡ y
the_same x y e = cc

pub line_once : (words : List Text) (a b : Command) → IsLine words a → IsLine words b → a ≡ b
line_once words a b h g =
    let same = the_same g.1.0 h.1.0 (sym g.1.1 ∙ h.1.1) in
    named_once a b h.1.0 h.1.2 (subst (IsNamedBy b) same g.1.2)
