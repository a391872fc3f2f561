-- What is known where the code of a part of an expression runs.
use Rattle.std.proofs.Common.{◌≡◌, ℕ}
use Rattle.lowering_follows.specs.Words.{Program, LinearProgram}
use Rattle.lowering_follows.proofs.TaskClaims.{CodePlace, Runs}

pub record NodeSetting : Type 0 where
  -- a program, and what it is lowered to
  pub program : Program
  pub linear : LinearProgram
  pub same_globals : linear.globals ≡ program.globals
  -- how many turns a step of the source may take, and the most that a body weighs
  pub rate : ℕ
  pub body : ℕ
  -- what is claimed holds of tasks inside at most so many others
  pub n : ℕ
  pub ih : Runs program linear rate body n
  -- where the code stands
  pub code_place : CodePlace program linear rate body

abbrev pub node_setting : (program : Program) (linear : LinearProgram) (rate body : ℕ)
    (same_globals : linear.globals ≡ program.globals) (n : ℕ)
    → Runs program linear rate body n → CodePlace program linear rate body → NodeSetting
node_setting program linear rate body same_globals n ih code_place = record {
  program = program;
  linear = linear;
  same_globals = same_globals;
  rate = rate;
  body = body;
  n = n;
  ih = ih;
  code_place = code_place;
}
