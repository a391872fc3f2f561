-- What crosses to C, and what it stands for.
use Rattle.std.specs.Prelude.{ℕ, ◌==◌, not, ◌+◌, ◌*◌, ◌/◌, ◌%◌, ◌^◌, length, Bool, true, false, is_some, Option, Some, None, List, [], ◌∷◌, slice_index}
use Rattle.x64_machine.specs.declared.context.Context.{Context}
use Rattle.abi_unwind.specs.declared.context.AbiContext.{AbiContext}
use Rattle.seh_views.specs.declared.c_types.TheConstants.{PROFILE_OWN}
use Rattle.eh_index.specs.declared.lookup.Index.{Index}
use Rattle.eh_tables.specs.Tables.{Entry}
use Rattle.seh_views.specs.declared.c_types.SehContext.{SehContext}
use Rattle.seh_views.specs.declared.c_types.SehFunction.{SehFunction}
use Rattle.seh_views.specs.declared.c_types.SehView.{SehView}
use Rattle.seh_views.specs.declared.c_types.SehScope.{SehScope}
use Rattle.eh_tables.specs.declared.scope.ScopeRecord.{ScopeRecord}
use Rattle.pe_image.specs.declared.image_layout.ImageLayout.{ImageLayout}
use Rattle.pe_image.specs.declared.image_layout.ImageLayout.TheVariants.{File, Mapped}
use Rattle.seh_views.specs.declared.c_types.SehFrame.{SehFrame}
use Rattle.seh_views.specs.declared.step.Step.{Step}

-- whether a loader mapped the image
abbrev pub layout_of : Bool → ImageLayout
layout_of true = Mapped
layout_of false = File

-- of the bytes of a view
abbrev pub layout : SehView → ImageLayout
layout v = layout_of (not (v.mapped == 0))

-- whether frames of a view are found by the project's own profile
abbrev pub is_own : SehView → Bool
is_own v = v.options % 2 == PROFILE_OWN

abbrev pub index_of : SehView → Index
index_of v = record { first = v.index; shift = v.shift }

abbrev pub machine_context : SehContext → Context
machine_context c =
    record {
      rip = c.rip;
      kept = c.rsp ∷ c.rbx ∷ c.rbp ∷ c.rsi ∷ c.rdi ∷ c.r12 ∷ c.r13 ∷ c.r14 ∷ c.r15 ∷ [];
    }

-- a vector register by its halves, of which the low one comes first
abbrev pub whole : List ℕ → ℕ → ℕ
whole halves k = slice_index halves (2 * k) + 2 ^ 64 * slice_index halves (2 * k + 1)

abbrev pub wholes : (ℕ → ℕ) → List ℕ
wholes v = v 0 ∷ v 1 ∷ v 2 ∷ v 3 ∷ v 4 ∷ v 5 ∷ v 6 ∷ v 7 ∷ v 8 ∷ v 9 ∷ []

abbrev pub low : ℕ → ℕ
low v = v % 2 ^ 64

abbrev pub high : ℕ → ℕ
high v = v / 2 ^ 64

abbrev pub in_halves : List ℕ → ℕ → List ℕ → List ℕ
in_halves vs k others = low (slice_index vs k) ∷ high (slice_index vs k) ∷ others

unfoldable pub halves : List ℕ → List ℕ
halves vs =
    in_halves vs 0 (in_halves vs 1 (in_halves vs 2 (in_halves vs 3 (in_halves vs 4
    (in_halves vs 5 (in_halves vs 6 (in_halves vs 7 (in_halves vs 8 (in_halves vs 9 [])))))))))

unfoldable pub abi_context : SehContext → AbiContext
abi_context c = record { general = machine_context c; vectors = wholes (whole c.vectors) }

abbrev pub c_context : Context → List ℕ → ℕ → SehContext
c_context c vectors has_vectors =
    record {
      rip = c.rip;
      rsp = slice_index c.kept 0;
      rbx = slice_index c.kept 1;
      rbp = slice_index c.kept 2;
      rsi = slice_index c.kept 3;
      rdi = slice_index c.kept 4;
      r12 = slice_index c.kept 5;
      r13 = slice_index c.kept 6;
      r14 = slice_index c.kept 7;
      r15 = slice_index c.kept 8;
      vectors = vectors;
      has_vectors = has_vectors;
    }

abbrev pub or_zero : Option ℕ → ℕ
or_zero None = 0
or_zero (Some n) = n

abbrev pub c_frame : ℕ → Step → SehFrame
c_frame index s =
    record {
      caller = s.caller;
      establisher = s.establisher;
      module_index = index;
      begin = s.begin;
      end = s.end;
      handler = or_zero s.handler;
      has_handler = is_some s.handler;
      in_body = s.in_body;
    }

abbrev pub c_function : Entry → SehFunction
c_function e =
    record {
      begin = e.range.begin;
      end = e.range.end;
      unwind_info = e.range.unwind_info;
      handler = or_zero e.info.handler;
      parents = length e.parents % 2 ^ 32;
      prologue_size = e.info.prologue_size;
      frame_register = e.info.frame_register;
      frame_offset = e.info.frame_offset;
      flags = e.info.flags;
      has_handler = is_some e.info.handler;
    }

abbrev pub c_scope : ScopeRecord → SehScope
c_scope s =
    record {
      begin = s.begin;
      end = s.end;
      handler_address = s.handler_address;
      jump_target = s.jump_target;
    }
