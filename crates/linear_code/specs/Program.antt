-- Linear code of programs, wherever it lies in memory.
--
-- `Region`: the instructions of a `__try` body, from a begin up to an end, with what handles it.
-- That is a `__finally` block, a filter with its target, or a target that always takes over
-- (Microsoft x64 ABI, "Language-specific handler").
--
-- The main definition: `LinearProgram`.
use Rattle.std.specs.Prelude.{ℕ, ◌+◌, List, map, Option}
use Rattle.linear_code.specs.declared.instruction.Instruction.{Instruction}
use Rattle.linear_code.specs.declared.program.Region.{Region}
use Rattle.linear_code.specs.declared.program.LabelRange.{LabelRange}
use Rattle.linear_code.specs.declared.program.FuncletKind.{FuncletKind}
use Rattle.linear_code.specs.declared.program.IrBody.{IrBody}
use Rattle.linear_code.specs.declared.program.IrFunction.{IrFunction}
use Rattle.linear_code.specs.declared.program.IrFunclet.{IrFunclet}
use Rattle.linear_code.specs.declared.program.IrProgram.{IrProgram}

pub record LinearBody : Type 0 where
  pub locals : ℕ
  pub temporaries : ℕ
  pub passed : ℕ
  pub code : List Instruction
  pub regions : List Region
  -- instructions that stand apart from the others in the image
  pub cold : List LabelRange

pub record LinearFunction : Type 0 where
  pub name : List ℕ
  pub parameters : ℕ
  -- the locals that may stand in registers
  pub registers : List ℕ
  -- how many parts its frame may have above 1
  pub surplus : ℕ
  -- how much its part of the data stack counts in the depth
  pub data_surplus : ℕ
  pub body : LinearBody

-- how many parts its frame may have
abbrev pub weight : LinearFunction → ℕ
weight f = 1 + f.surplus

-- how much an activation counts in the depth
abbrev pub depth_weight : LinearFunction → ℕ
depth_weight f = 1 + (f.surplus + f.data_surplus)

pub record LinearFunclet : Type 0 where
  pub kind : FuncletKind
  pub function : ℕ
  pub parent : Option ℕ
  pub body : LinearBody

-- bodies of functions, filters and `__finally` blocks, each with its instructions, its regions, and
-- how many locals and temporaries it uses. A label is the number of an instruction in its body.
pub record LinearProgram : Type 0 where
  pub globals : List ℕ
  pub main : ℕ
  pub functions : List LinearFunction
  pub funclets : List LinearFunclet

-- ---- the code's programs

abbrev pub linear_body : IrBody → LinearBody
linear_body b =
    record {
      locals = b.locals;
      temporaries = b.temporaries;
      passed = b.passed;
      code = b.code.items;
      regions = b.regions.items;
      cold = b.cold.items;
    }

abbrev pub linear_function : IrFunction → LinearFunction
linear_function f =
    record {
      name = f.name.items;
      parameters = f.parameters;
      registers = f.registers.items;
      surplus = f.surplus;
      data_surplus = f.data_surplus;
      body = linear_body f.body;
    }

abbrev pub linear_funclet : IrFunclet → LinearFunclet
linear_funclet f =
    record { kind = f.kind; function = f.function; parent = f.parent; body = linear_body f.body }

abbrev pub linear_program : IrProgram → LinearProgram
linear_program p =
    record {
      globals = p.globals.items;
      main = p.main;
      functions = map linear_function p.functions.items;
      funclets =
          map linear_funclet p.funclets.items;
    }
