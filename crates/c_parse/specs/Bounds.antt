-- What the limits and the text's length allow.
use Rattle.std.specs.Prelude.{◌≡◌, ◌≤◌, ℕ, List, length}
use Rattle.c_syntax.specs.Limits.{Within}
use Rattle.c_syntax.specs.Program.{ExternalDeclaration}
use Rattle.c_syntax.specs.Nodes.{nodes_of}

-- within the limits in some text of so many bytes, and of no more nodes than these
pub record IsBounded (bytes : ℕ) (xs : List ExternalDeclaration) : Type 0 where
  pub text : List ℕ
  pub long : length text ≡ bytes
  pub within : Within text xs
  pub few : nodes_of xs ≤ bytes
