-- What operations on memory answer, one after another, and the memory after them, by the definition
-- of memory alone.
--
-- `answer_of`, `memory_after`: what one load, store or `protect` answers, by the definition of
-- memory alone, and the memory after it; `answers_of`, `memory_after_all`: the same of a list of
-- them, one after another.
use Rattle.std.specs.Prelude.{ℕ, List, [], ◌∷◌, Result, Ok, Err, is_some}
use Rattle.flat_memory.specs.Memory.{Memory, loaded, stored, after_store, rights_asked, protected}
use Rattle.flat_memory.specs.declared.access.RefusedAccess.{RefusedAccess}
use Rattle.x64_replay.specs.declared.operation.Op.{Op}
use Rattle.x64_replay.specs.declared.operation.Op.TheVariants.{Load, Store, Protect}
use Rattle.x64_replay.specs.declared.operation.Answer.{Answer}
use Rattle.x64_replay.specs.declared.operation.Answer.TheVariants.{Loaded, Stored, Refused, Protected}

abbrev pub load_answer : Result ℕ RefusedAccess → Answer
load_answer (Ok v) = Loaded v
load_answer (Err r) = Refused r

abbrev pub store_answer : Result Unit RefusedAccess → Answer
store_answer (Ok _) = Stored
store_answer (Err r) = Refused r

abbrev pub answer_of : Memory → Op → Answer
answer_of m (Load at w) = load_answer (loaded m at w)
answer_of m (Store at w v) = store_answer (stored m at w)
answer_of m (Protect at mode) = Protected (is_some (rights_asked at mode))

abbrev pub memory_after : Memory → Op → Memory
memory_after m (Load at w) = m
memory_after m (Store at w v) = after_store m at w v
memory_after m (Protect at mode) = protected m at mode

-- the answers of operations that are made in turn
abbrev pub answers_of : Memory → List Op → List Answer
answers_of m [] = []
answers_of m (o ∷ os) = answer_of m o ∷ answers_of (memory_after m o) os

abbrev pub memory_after_all : Memory → List Op → Memory
memory_after_all m [] = m
memory_after_all m (o ∷ os) = memory_after_all (memory_after m o) os
