-- The counts of a program while it is read; that no external declaration is at the front; and that
-- tokens are one, whatever follows.
use Rattle.std.specs.Prelude.{◌≡◌, ◌≤◌, ◌+◌, ℕ, List, [], ◌∷◌, ◌++◌, length}
use Rattle.c_lex.specs.declared.token.Token.{Token}
use Rattle.c_syntax.specs.declared.limit.Count.TheVariants.{Functions, Globals, Funclets}
use Rattle.c_syntax.specs.declared.limit.TheConstants.{MOST_GLOBALS}
use Rattle.c_syntax.specs.Limits as limits
use Rattle.c_syntax.specs.Limits.{Number, IsInForce, every_limit, EachWithinFirst, bytes_from}
use Rattle.c_syntax.specs.Limits.{funclets_in}
use Rattle.c_syntax.specs.Program.{ExternalDeclaration}
use Rattle.c_syntax.specs.Programs.{IsExternalDeclaration}
use Rattle.c_parse.specs.declared.counts.Counts.{Counts}

-- within the first n limits after what was counted
pub record FitsCounts (n : ℕ) (text : List ℕ) (counts : Counts)
    (xs : List ExternalDeclaration) : Type 0 where
  pub each : EachWithinFirst n xs
  pub functions : IsInForce (Number Functions) n → limits.functions xs ≤ counts.functions
  pub bytes : IsInForce (Number Globals) n → bytes_from xs counts.bytes ≤ MOST_GLOBALS
  pub funclets : IsInForce (Number Funclets) n → length (funclets_in text xs) ≤ counts.funclets

-- within the limits, and so the counts are after it
pub record Taken (text : List ℕ) (counts after : Counts) (x : ExternalDeclaration) : Type 0 where
  pub each : EachWithinFirst every_limit (x ∷ [])
  pub functions : after.functions + limits.functions (x ∷ []) ≡ counts.functions
  pub bytes : after.bytes ≡ bytes_from (x ∷ []) counts.bytes
  pub low : after.bytes ≤ MOST_GLOBALS
  pub funclets : after.funclets + length (funclets_in text (x ∷ [])) ≡ counts.funclets

abbrev pub NoExternalDeclaration : Counts → ℕ → List ℕ → List Token → Type 0
NoExternalDeclaration counts n text ts =
    (x : ExternalDeclaration) (end : List Token) → IsExternalDeclaration text x ts end
    → FitsCounts n text counts (x ∷ []) → ⊥

pub record HasExternalDeclaration (counts : Counts) (n : ℕ) (text : List ℕ)
    (ts : List Token) : Type 0 where
  pub tree : ExternalDeclaration
  pub is : (other : List Token) → IsExternalDeclaration text tree (ts ++ other) other
  pub fits : FitsCounts n text counts (tree ∷ [])
