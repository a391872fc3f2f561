-- What a refusal of each reader says.
use Rattle.std.specs.Prelude.{◌≡◌, ◌⊎◌, ℕ, List}
use Rattle.c_lex.specs.declared.token.Token.{Token}
use Rattle.c_syntax.specs.declared.expression.Base.{Base}
use Rattle.c_syntax.specs.declared.limit.Count.TheVariants.{Globals}
use Rattle.c_syntax.specs.Faults.{place}
use Rattle.c_parse_expr.specs.declared.refusal.ParseErr.{ParseErr}
use Rattle.c_parse_expr.specs.declared.refusal.ParseErr.TheVariants.{Unexpected, TooMany}
use Rattle.c_parse_expr.specs.Refusals.{IsPlacedRefusal}
use Rattle.c_parse.specs.declared.counts.Counts.{Counts}
use Rattle.c_parse.specs.Counts.{NoExternalDeclaration, HasExternalDeclaration}
use Rattle.c_parse.specs.Parts.{EndsScalar, NoneBracketed, HasBracketed, NoLength, HasLength}
use Rattle.c_parse.specs.Parts.{NoGlobal, NoGlobals, HasGlobals, NoTail, HasTail}

abbrev pub RefusesBracketed : ParseErr → Base → ℕ → ℕ → List ℕ → List Token → Type 0
RefusesBracketed e base pointers bytes text ts =
    IsPlacedRefusal e (NoneBracketed base pointers bytes) (HasBracketed base pointers bytes) text ts

-- the first token after the name of a scalar that takes too many bytes
abbrev pub RefusesScalar : ParseErr → List ℕ → List Token → Type 0
RefusesScalar e text ts =
    ((e ≡ TooMany (place text ts) Globals) × EndsScalar ts)
    ⊎ ((e ≡ Unexpected (place text ts)) × (EndsScalar ts → ⊥))

abbrev pub RefusesLength : ParseErr → Base → ℕ → ℕ → List ℕ → List Token → Type 0
RefusesLength e base pointers bytes text ts =
    IsPlacedRefusal e (NoLength base pointers bytes) (HasLength base pointers bytes) text ts

abbrev pub RefusesGlobal : ParseErr → Base → ℕ → List ℕ → List Token → Type 0
RefusesGlobal e base bytes text ts = IsPlacedRefusal e (NoGlobal base bytes)
    (HasGlobals base bytes) text ts

abbrev pub RefusesGlobals : ParseErr → Base → ℕ → List ℕ → List Token → Type 0
RefusesGlobals e base bytes text ts =
    IsPlacedRefusal e (NoGlobals base bytes) (HasGlobals base bytes) text ts

abbrev pub RefusesTail : ParseErr → ℕ → List ℕ → List Token → Type 0
RefusesTail e funclets text ts = IsPlacedRefusal e (NoTail funclets) (HasTail funclets) text ts

abbrev pub RefusesExternalDeclaration : ParseErr → Counts → List ℕ → List Token → Type 0
RefusesExternalDeclaration e counts text ts =
    IsPlacedRefusal e (NoExternalDeclaration counts) (HasExternalDeclaration counts) text ts
