-- What refusals say.
use Rattle.std.specs.Prelude.{ℕ, List}
use Rattle.c_lex.specs.declared.token.Token.{Token}
use Rattle.c_syntax.specs.Faults.{Family, Failed}
use Rattle.c_syntax.specs.Limits.{Nesting, Number, order}
use Rattle.c_syntax.specs.Viable.{IsSyntaxFault}
use Rattle.c_parse_expr.specs.declared.refusal.ParseErr.{ParseErr}
use Rattle.c_parse_expr.specs.declared.refusal.ParseErr.TheVariants.{Unexpected, TooDeep, TooMany, Memory}

-- A refusal is where the reading of a phrase fails; want of memory says nothing.
abbrev pub IsPlacedRefusal : ParseErr → Family → Family → List ℕ → List Token → Type 0
IsPlacedRefusal (Unexpected at) No Has text ts = Failed 0 at No Has text ts
IsPlacedRefusal (TooDeep at) No Has text ts = Failed (order Nesting) at No Has text ts
IsPlacedRefusal (TooMany at what) No Has text ts = Failed (order (Number what)) at No Has text ts
IsPlacedRefusal Memory No Has text ts = Unit {0}

-- A refusal is at the first fault of a text's tokens, and says which limit excludes every program
-- that continues there.
abbrev pub ParserRefuses : ParseErr → List ℕ → List Token → Type 0
ParserRefuses (Unexpected at) text ts = IsSyntaxFault 0 at text ts
ParserRefuses (TooDeep at) text ts = IsSyntaxFault (order Nesting) at text ts
ParserRefuses (TooMany at what) text ts = IsSyntaxFault (order (Number what)) at text ts
ParserRefuses Memory text ts = Unit {0}
