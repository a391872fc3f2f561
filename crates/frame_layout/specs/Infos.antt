-- The unwind info of a frame.
use Rattle.std.specs.Prelude.{◌≡◌, ℕ, Bool, List, []}
use Rattle.eh_tables.specs.declared.code.UnwindCode.{UnwindCode}
use Rattle.eh_tables.specs.declared.range.RuntimeFunction.{RuntimeFunction}
use Rattle.eh_write.specs.declared.unwind_info.Trailer.{Trailer}
use Rattle.eh_write.specs.declared.unwind_info.Trailer.TheVariants.{Nothing, Parent}
use Rattle.eh_write.specs.declared.unwind_info.UnwindInfo.{UnwindInfo}
use Rattle.eh_tables.specs.Infos.{Info}
use Rattle.frame_rules.specs.Prologue.{bytes}
use Rattle.frame_rules.specs.Plan as rules
use Rattle.frame_rules.specs.Bytes.{spell, prologue_code}
use Rattle.frame_layout.specs.declared.frame.FrameLayout.{FrameLayout}
use Rattle.frame_layout.specs.Plans.{frame_register_if, frame_distance_if, plan_of}

-- the bytes of the prologue, wherever `__chkstk` is
unfoldable pub prologue_bytes : FrameLayout → ℕ
prologue_bytes f = bytes (rules.spelled_by spell (prologue_code (plan_of f 0)))

-- the codes of the prologue
unfoldable pub codes_of : FrameLayout → List UnwindCode
codes_of f = (rules.unwind_of spell (plan_of f 0)).codes

-- an unwind info that is to be written says the same as one that is read
pub record Describes (u : UnwindInfo) (i : Info) : Type 0 where
  pub prologue_size : u.prologue_size ≡ i.prologue_size
  pub frame_register : u.frame_register ≡ i.frame_register
  pub frame_offset : u.frame_offset ≡ i.frame_offset
  pub codes : u.codes.items ≡ i.codes
  pub trailer : u.trailer ≡ Nothing

-- the info of a frame, with what follows its codes
abbrev pub info_of : FrameLayout → Trailer → UnwindInfo
info_of f trailer = record {
  prologue_size = prologue_bytes f;
  frame_register = frame_register_if f.framed;
  frame_offset = frame_distance_if f.framed;
  codes = record { items = codes_of f };
  trailer = trailer;
}

-- the info of code that is apart from the function of a frame, with that function's entry
-- (Microsoft x64 ABI, "Chained unwind info structures")
abbrev pub chained_info : Bool → RuntimeFunction → UnwindInfo
chained_info framed parent = record {
  prologue_size = 0;
  frame_register = frame_register_if framed;
  frame_offset = frame_distance_if framed;
  codes = record { items = [] };
  trailer = Parent parent;
}
