-- What is known where the code of a statement runs.
use Rattle.std.proofs.Common.{ℕ, List}
use Rattle.lowering_follows.specs.Words.{Program, Context, LinearProgram, LoweringContext, Store}
use Rattle.lowering_follows.proofs.Lemmas.{Site}
use Rattle.lowering_follows.proofs.Stores.{Shape}
use Rattle.lowering_follows.proofs.TaskClaims.{Runs}
use Rattle.lowering_follows.proofs.BodyClaims.{BodyRuns}

pub record StatementSetting : Type 0 where
  -- a program, and what it is lowered to
  pub program : Program
  pub linear : LinearProgram
  -- how many turns a step of the source may take, and the most that a body weighs
  pub rate : ℕ
  pub body : ℕ
  -- what is claimed holds of tasks inside at most so many others
  pub n : ℕ
  pub ih : Runs program linear rate body n
  pub bih : BodyRuns program linear rate body n
  -- how the code names locals, and where it leads
  pub scope : LoweringContext
  -- the locals of the activation, and those of all
  pub z : Shape
  pub shapes : List Shape
  -- where the source is, and where the linear code is
  pub context : Context
  pub site : Site
  -- the store from which on notes are kept
  pub base : Store

abbrev pub statement_setting : (program : Program) (linear : LinearProgram) (rate body n : ℕ)
    → Runs program linear rate body n → BodyRuns program linear rate body n → LoweringContext
    → Shape → List Shape → Context → Site → Store → StatementSetting
statement_setting program linear rate body n ih bih scope z shapes context site base = record {
  program = program;
  linear = linear;
  rate = rate;
  body = body;
  n = n;
  ih = ih;
  bih = bih;
  scope = scope;
  z = z;
  shapes = shapes;
  context = context;
  site = site;
  base = base;
}
