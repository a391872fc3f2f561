-- The memory of a snapshot.
use Rattle.flat_memory.specs.Memory.{Memory}
use Rattle.seh_views.specs.declared.snapshot.Snapshot.{Snapshot}
use Rattle.seh_views.specs.Snapshot.{snapshot}

abbrev pub memory_of : Snapshot → Memory
memory_of s = snapshot s.image.now s.base s.ranges.now
