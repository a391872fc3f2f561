-- Where variables stand, wherever that lies in memory.
use Rattle.c_resolved.specs.Layout.{Layout}
use Rattle.c_stacked.specs.declared.layout.Layout.{Layout as Layout'}

abbrev pub layout : Layout' → Layout
layout l =
    record { base = l.base; places = l.places.items; size = l.size; needed = l.needed }
