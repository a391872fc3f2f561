-- What holds of every text.
use Rattle.std.specs.Prelude.{◌≡◌, ℕ, List}
use Rattle.c_syntax.specs.Program.{ExternalDeclaration}
use Rattle.c_text.specs.declared.accepting.TextErr.{TextErr}
use Rattle.c_text.specs.declared.accepting.TextErr.TheVariants as texts
use Rattle.c_text.specs.Texts.{IsAccepted, TextIsRefused}

-- a text that is accepted is refused for want of memory alone
abbrev pub AcceptedIsNotRefused : Type 0
AcceptedIsNotRefused =
    (text : List ℕ) (xs : List ExternalDeclaration) (e : TextErr)
    → IsAccepted text xs → TextIsRefused text e → e ≡ texts.Memory

-- and it is one program
abbrev pub AcceptedIsOne : Type 0
AcceptedIsOne =
    (text : List ℕ) (xs ys : List ExternalDeclaration)
    → IsAccepted text xs → IsAccepted text ys → xs ≡ ys
