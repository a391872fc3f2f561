-- What the code keeps, as the definitions see it.
--
-- The main definition: `knowledge_of`.
use Rattle.std.specs.Prelude.{ℕ, ◌^◌, Bool, nat_eq, nat_le, if◌then◌else◌, List, [], ◌∷◌, slice_index_or, Option, Some, None}
use Rattle.virtual_unwind.specs.CallerOf.{distance}
use Rattle.frame_known.specs.declared.known.Known.{Known}
use Rattle.frame_known.specs.declared.known.Known.TheVariants.{Nothing}
use Rattle.frame_known.specs.Knowledge.{Knowledge}
use Rattle.frame_known.specs.After.{meet}
use Rattle.known_frames.specs.declared.knowledge.Saved.{Saved}
use Rattle.known_frames.specs.declared.knowledge.Knowledge as code
use Rattle.known_frames.specs.declared.words.Loss.{Loss}
use Rattle.known_frames.specs.declared.words.Loss.TheVariants.{Store, Below}

abbrev pub registers_of : List Known → ℕ → Known
registers_of registers r = slice_index_or registers r Nothing

-- the first one at a place counts
abbrev pub words_of : List (Option Saved) → ℕ → Option ℕ
words_of [] j = None
words_of (None ∷ words) j = words_of words j
words_of (Some s ∷ words) j = if nat_eq s.at j then Some s.register else words_of words j

abbrev pub knowledge_of : code.Knowledge → Knowledge
knowledge_of k = record { registers = registers_of k.registers; words = words_of k.words }

-- ---- words taken away

abbrev pub loses : Loss → ℕ → Bool
loses (Store at size) j = meet size at j
loses (Below top) j = nat_le (2 ^ 63) (distance top j)

abbrev pub left_if : Bool → Option Saved → Option Saved
left_if lost saved = if lost then None else saved

abbrev pub left : Loss → Option Saved → Option Saved
left loss None = None
left loss (Some s) = left_if (loses loss s.at) (Some s)
